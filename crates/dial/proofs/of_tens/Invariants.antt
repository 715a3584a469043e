use Prim.Native.Nat.{◌+◌, ◌%◌}
use mathlib.Core.Path.{◌≡◌}
use lib.ListN.{length}
use Rattle.dial.specs.Dial.{packed, front_of}
use Rattle.dial.proofs.Packing.{before}
use Rattle.dial.proofs.of_tens.Given as goal

-- the digits that are left, before those that are packed, are all of them
abbrev pub invariant-loop-k : goal.invariant-loop-k
invariant-loop-k l =
    (before (front_of l.k) l.front ≡ packed (front_of (l.m % 10000000))) × (length (front_of l.k) + l.width ≡ length (front_of (l.m % 10000000)))

abbrev pub decreases-loop-k : goal.decreases-loop-k
decreases-loop-k l = l.k
