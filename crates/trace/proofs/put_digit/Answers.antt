use native.Mathlib.Omega.{arith}
use mathlib.Core.Path.{ap}
use lib.ListN.{length}
use Rattle.trace.proofs.Decimal.{digit_none, digit_some}
use Rattle.trace.proofs.Laws.{wrote_none, wrote_one}
use Rattle.trace.proofs.put_digit.Goals as goal

pub returns-then-n-w : goal.returns-then-n-w
returns-then-n-w c = rw (digit_none _ _ c.if-n-w.true) (wrote_none _ _)

pub bounds-text-at : goal.bounds-text-at
bounds-text-at c = omega (arith, c.requires.1, ap length (digit_some _ _ c.if-n-w.false))

pub returns : goal.returns
returns c = rw (digit_some _ _ c.if-n-w.false) (wrote_one _ _ _)
