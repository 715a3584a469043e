use Rattle.std.proofs.Common.{◌≡◌, ◌-◌, length, drop}
use Rattle.lines.specs.Text.{same_from, same_at}
use Rattle.lines.proofs.text.same.Given as goal

-- what is left of the part decides
abbrev pub invariant-loop-i : goal.invariant-loop-i
invariant-loop-i l = same_from l.text l.at l.i (drop l.i l.part) ≡ same_at l.text l.at l.part

abbrev pub decreases-loop-i : goal.decreases-loop-i
decreases-loop-i l = length l.part - l.i
