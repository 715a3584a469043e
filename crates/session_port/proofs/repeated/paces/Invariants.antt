use Prim.Native.Nat.{◌-◌, ◌≤◌}
use mathlib.Core.Bool.{true}
use mathlib.Core.Path.{◌≡◌}
use Rattle.cpu.specs.Record.{well_formed}
use Rattle.run.specs.Runs.{run_of}
use Rattle.run.proofs.Laws.{Left}
use Rattle.session_port.proofs.repeated.paces.Given as goal

-- what is left gives the whole
abbrev pub invariant-loop-done : goal.invariant-loop-done
invariant-loop-done l = (l.done ≤ l.count) × (well_formed l.at ≡ true) × Left l.done (run_of l.count l.initial.at l.initial.mem) (run_of (l.count - l.done) l.at l.mem)

abbrev pub decreases-loop-done : goal.decreases-loop-done
decreases-loop-done l = l.count - l.done
