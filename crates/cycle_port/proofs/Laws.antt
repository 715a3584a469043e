-- What the exported functions come to, by what the bytes are found to be.
use Prim.Native.Nat.{ℕ}
use Rattle.std.proofs.Common.{Option, Some, None, Result, Ok, Err}
use mathlib.Core.Path.{◌≡◌, refl}
use mathlib.Core.List.{List}
use Rattle.cpu.specs.Record.{number_of}
use Rattle.cpu.specs.declared.types.Record.{Record}
use Rattle.cpu.specs.declared.types.Refusal.{Refusal}
use Rattle.cpu.specs.declared.types.Refusal.TheVariants.{Malformed}
use Rattle.packed.specs.Packed.{pack, unpacked}
use Rattle.cycle_port.specs.Port.{came_from, answer_bytes}

-- an answered byte is that of a packed record
pub came_some : (u : Option Record) (byte : ℕ) (s : Record) → came_from u byte ≡ Ok s → (r : Record) × (u ≡ Some r)
came_some (Some r) byte s h = (r, refl)
came_some None byte s h = let z : ◌≡◌ {A = Result Record Refusal} (Err Malformed) (Ok s) = h in cc

module _ (b : List ℕ) (byte : ℕ) where
  pub answer_bad : unpacked b ≡ None → answer_bytes b byte ≡ record { number = 4; bytes = b }
  unfolding answer_bytes
  answer_bad h = rw h

  pub answer_refused : (a : Result Record Refusal) (n : Refusal) → a ≡ came_from (unpacked b) byte → a ≡ Err n → answer_bytes b byte ≡ record { number = number_of n; bytes = b }
  unfolding answer_bytes
  answer_refused a n f g = rw (← f, g)

  pub answer_next : (a : Result Record Refusal) (s : Record) → a ≡ came_from (unpacked b) byte → a ≡ Ok s → answer_bytes b byte ≡ record { number = 0; bytes = pack s }
  unfolding answer_bytes
  answer_next a s f g = rw (← f, g)
