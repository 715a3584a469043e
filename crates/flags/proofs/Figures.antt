-- Figures: what SEP and REP make of a byte natively, and N and Z of a value at its width.
use Prim.Native.Nat.{ℕ}
use mathlib.Core.Path.{◌≡◌, refl}
use mathlib.Core.Bool.{Bool, true, false}
use mathlib.Core.List.{List, [], ◌∷◌, map}
use Rattle.flags.specs.Flags.{byte_of, set_mask, set_byte, set_nz}
use Rattle.flags.specs.declared.Flags.{Flags}

abbrev pulled_of : ℕ → Flags
pulled_of v = set_byte (record {
  carry = false;
  zero = false;
  interruptdisable = false;
  decimal = false;
  indexsel = false;
  memsel = false;
  overflow = false;
  negative = false;
  emulation = false;
}) v

abbrev masked : ℕ → (mask : ℕ) → (set : Bool) → ℕ
masked v mask set = byte_of (set_mask (pulled_of v) mask set)

pub record Figure : Type 0 where
  pub gives : ℕ
  pub says : ℕ

abbrev is : (gives says : ℕ) → Figure
is g s = record { gives = g; says = s }

abbrev pub masks : List Figure
masks =
    is (masked 0x00 0xC3 true) 0xC3
    ∷ is (masked 0xFF 0xC3 false) 0x3C
    ∷ is (masked 0x00 0x30 true) 0x30
    ∷ is (masked 0xFF 0x30 false) 0xCF
    ∷ is (masked 0x5A 0x0F true) 0x5F
    ∷ is (masked 0x5A 0x0F false) 0x50
    ∷ []

pub masks_hold : map (λ (f : Figure). f.gives) masks ≡ map (λ (f : Figure). f.says) masks
unfolding set_byte set_mask byte_of
masks_hold = refl

-- N and Z, at 16 bits and at 8; nothing else changes
abbrev tested : ℕ → (wide : Bool) → ℕ
tested v wide = byte_of (set_nz (pulled_of 0x41) v wide)

abbrev pub tests : List Figure
tests =
    is (tested 0x0000 true) 0x43
    ∷ is (tested 0x8000 true) 0xC1
    ∷ is (tested 0x7FFF true) 0x41
    ∷ is (tested 0x0080 true) 0x41
    ∷ is (tested 0x0100 true) 0x41
    ∷ is (tested 0x0100 false) 0x43
    ∷ is (tested 0x0080 false) 0xC1
    ∷ is (tested 0x807F false) 0x41
    ∷ []

pub tests_hold : map (λ (f : Figure). f.gives) tests ≡ map (λ (f : Figure). f.says) tests
unfolding set_byte set_nz byte_of
tests_hold = refl
