use native.Mathlib.Numerals.{add-one}
use borrow.Author.Tests.{le-ltb, lt-ltb}
use Rattle.dial.specs.Dial.{turn_of}
use Rattle.dial.proofs.turned.Goals as goal

pub returns-then-d-lt57 : goal.returns-then-d-lt57
unfolding turn_of
returns-then-d-lt57 c = simp (lt-ltb _ _ c.if-d-lt57.true, add-one)

pub returns : goal.returns
unfolding turn_of
returns c = simp (c.of_tens.ensures, le-ltb _ _ c.if-d-lt57.false)
