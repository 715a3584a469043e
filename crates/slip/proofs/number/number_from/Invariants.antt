use Rattle.std.proofs.Common.{◌≡◌, drop}
use Rattle.slip.specs.Slip.{number_from}
use Rattle.slip.proofs.number.number_from.Given as goal

-- what is left of the text, after the number so far
abbrev pub invariant-loop-b : goal.invariant-loop-b
invariant-loop-b l = number_from l.hex l.n (drop l.b-index l.text) ≡ number_from l.hex 0 l.text
