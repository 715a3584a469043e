use native.Mathlib.Omega.{arith}
use Rattle.trace.proofs.Scaled.{decimal_scaled, scaled_front, scaled_length}
use Rattle.trace.proofs.Laws.{then}
use Rattle.trace.proofs.put_scaled.Goals as goal

pub put_front-p-requires : goal.put_front-p-requires
put_front-p-requires c =
    (scaled_front c.args.n c.requires.1, omega (arith, c.requires.2, scaled_length c.args.n c.requires.0 c.requires.1))

pub put_four-requires : goal.put_four-requires
put_four-requires c =
    (omega arith, omega (arith, c.requires.2, scaled_length c.args.n c.requires.0 c.requires.1, c.put_front-p.ensures.place, c.put_front-p.auto.text))

pub returns : goal.returns
returns c =
    rw (decimal_scaled c.args.n c.requires.0 c.requires.1) (then c.put_front-p.ensures c.put_four.ensures)
