use native.Mathlib.Omega.{arith}
use Rattle.trace.proofs.Decimal.{decimal_weights, weights_length}
use Rattle.trace.proofs.Laws.{then}
use Rattle.trace.proofs.put_decimal.Goals as goal

pub put_upper-p-requires : goal.put_upper-p-requires
put_upper-p-requires c =
    omega (arith, c.requires, weights_length c.args.n (omega arith))

pub put_lower-requires : goal.put_lower-requires
put_lower-requires c =
    omega (arith, c.requires, weights_length c.args.n (omega arith), c.put_upper-p.ensures.place, c.put_upper-p.auto.text)

pub returns : goal.returns
returns c =
    rw (decimal_weights c.args.n (omega arith)) (then c.put_upper-p.ensures c.put_lower.ensures)
