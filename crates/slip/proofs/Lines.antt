-- The five steps of the line come to its definition.
use Prim.Native.Nat.{ℕ}
use mathlib.Core.Path.{◌≡◌, refl}
use mathlib.Core.List.{List}
use lib.ListN.{replicate}
use Rattle.trace.specs.Text.{hex2}
use Rattle.slip.specs.Slip.{line_of}
use Rattle.slip.specs.Steps.{with_registers, with_pointers, with_status, with_held, with_scratch}

pub line_of_steps : (b : List ℕ) → with_scratch b (with_held b (with_status b (with_pointers b (with_registers b (replicate 61 32))))) ≡ line_of b
unfolding with_scratch with_held with_status with_pointers with_registers line_of hex2
line_of_steps b = refl
