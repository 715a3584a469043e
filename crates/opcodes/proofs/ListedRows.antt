-- The rows of bits have a 1 at each listed byte and nowhere else: one computed test over the 256 bytes, and what it says of each.
use Prim.Native.Nat.{ℕ, zero, suc, ◌<◌, ◌/◌, ◌%◌, ◌^◌}
use native.Mathlib.Nat.{le_of_suc-le-suc, not-suc-le-zero, eq-or-lt_of_le}
use mathlib.Core.Path.{◌≡◌, refl, subst, sym}
use mathlib.Core.Bool.{Bool, true, false, not}
use mathlib.Core.Logic.{inl, inr}
use lib.Dec.{T, eqb}
use Rattle.words.specs.Words.{pick}
use Rattle.opcodes.specs.Opcodes.{decode_of, is_listed, opcodes, one_bytes}
use Rattle.opcodes.specs.Listed.{row_of}

abbrev bit_of : ℕ → Bool
bit_of n = eqb (row_of (n / 64) / (2 ^ (n % 64)) % 2) 1

abbrev agree : Bool → Bool → Bool
agree a b = pick a b (not b)

agreed : (a b : Bool) → T (agree a b) → a ≡ b
agreed true true t = refl
agreed true false t = absurd t
agreed false true t = absurd t
agreed false false t = refl

-- a test of all numbers below n
abbrev below : (ℕ → Bool) → ℕ → Bool
below p zero = true
below p (suc n) = pick (p n) (below p n) false

here : (a b : Bool) → T (pick a b false) → T a
here true b t = tt
here false b t = absurd t

rest : (a b : Bool) → T (pick a b false) → T b
rest true b t = t
rest false b t = absurd t

each : (p : ℕ → Bool) (n : ℕ) → T (below p n) → (k : ℕ) → k < n → T (p k)
each p zero t k h = absurd (not-suc-le-zero h)
each p (suc n) t k h = elim (eq-or-lt_of_le (le_of_suc-le-suc h)) [
  | inl e ↦ subst (λ (m : ℕ). T (p m)) (sym e) (here (p n) (below p n) t)
  | inr l ↦ each p n (rest (p n) (below p n) t) k l
]

pub listed_bit : (n : ℕ) → n < 256 → eqb (row_of (n / 64) / (2 ^ (n % 64)) % 2) 1 ≡ is_listed (decode_of n)
unfolding decode_of opcodes one_bytes
listed_bit n h = agreed (bit_of n) (is_listed (decode_of n)) (each (λ (m : ℕ). agree (bit_of m) (is_listed (decode_of m))) 256 tt n h)
