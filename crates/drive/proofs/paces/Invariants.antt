use Prim.Native.Nat.{◌+◌, ◌-◌, ◌≤◌, ◌<◌}
use mathlib.Core.Path.{◌≡◌}
use mathlib.Core.Bool.{true}
use Rattle.dial.specs.Dial.{dial_of}
use Rattle.run.specs.Far.{far}
use Rattle.drive.specs.Drives.{walk, Walked}
use Rattle.drive.proofs.paces.Given as goal

-- what is left of the budget, how far the cycles and their lines have got, and how many there are to be
abbrev pub invariant-loop-left : goal.invariant-loop-left
invariant-loop-left g l =
    let p = g.P.Pace in
    (l.left ≤ l.budget) × (0 < l.left) × (p.start l.at ≡ true) × (l.m.dial ≡ dial_of (l.number + (l.budget - l.left)))
    × Walked l.initial.at l.initial.mem l.initial.text l.number l.start (walk (l.budget - l.left) l.m.place l.at) l.mem l.text
    × ((l.budget - l.left) + far p.turn p.memory p.FLOOR l.left l.left l.at l.mem ≡ far p.turn p.memory p.FLOOR l.budget l.budget l.initial.at l.initial.mem)

abbrev pub decreases-loop-left : goal.decreases-loop-left
decreases-loop-left g l = l.left
