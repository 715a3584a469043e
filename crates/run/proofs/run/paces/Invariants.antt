use Prim.Native.Nat.{◌+◌, ◌-◌, ◌≤◌, ◌<◌}
use mathlib.Core.Bool.{true}
use mathlib.Core.Path.{◌≡◌}
use Rattle.cpu.specs.Record.{well_formed}
use Rattle.run.specs.Passes.{Passes}
use Rattle.run.specs.Far.{far}
use Rattle.run.proofs.run.paces.Given as goal

-- what is left of the budget, what the cycles so far come to, and how many there are to be
abbrev pub invariant-loop-left : goal.invariant-loop-left
invariant-loop-left g l =
    let p = g.P.Pace in
    (l.left ≤ l.budget) × (0 < l.left) × (well_formed l.at ≡ true) × (p.start l.at ≡ true) × Passes (l.budget - l.left) l.initial.at l.initial.mem l.at l.mem
    × ((l.budget - l.left) + far p.turn p.memory p.FLOOR l.left l.left l.at l.mem ≡ far p.turn p.memory p.FLOOR l.budget l.budget l.initial.at l.initial.mem)

abbrev pub decreases-loop-left : goal.decreases-loop-left
decreases-loop-left g l = l.left
