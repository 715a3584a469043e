use Prim.Native.Nat.{◌-◌}
use Rattle.trail.proofs.Going.{Going}
use Rattle.trail.proofs.trail.cycles.Given as goal

-- the locals as the loop finds them, and after `done` cycles
abbrev pub invariant-loop-done : goal.invariant-loop-done
invariant-loop-done l = Going l.budget l.before l.initial.mem l.initial.text l.initial.place l.initial.at l.mem l.text l.place l.at l.done

abbrev pub decreases-loop-done : goal.decreases-loop-done
decreases-loop-done l = l.budget - l.done
