-- Shifts and steps over n bytes: a shift to the left doubles, one to the right halves, INC and DEC step inside 256^n.
use Prim.Native.Nat.{ℕ, zero, suc, ◌+◌, ◌-◌, ◌*◌, ◌/◌, ◌%◌, ◌^◌, ◌<◌}
use mathlib.Core.Path.{◌≡◌, refl, ap, sym, ◌∙◌}
use mathlib.Core.Bool.{Bool, true, false, not, ◌&&◌, ◌||◌, and_assoc, and_comm}
use native.Mathlib.Nat.{pow-zero, pow-succ', one-le-pow, mul-le-mul_left, one-mul, zero-add, mod-lt, div-lt_iff_lt-mul, div-add-mod}
use native.Mathlib.Omega.{arith}
use lib.Dec.{eqb, leb}
use borrow.Author.Tests.{leb-true, leb-false, eqb-true, eqb-false}
use Rattle.words.specs.Words.{pick, bit}
use Rattle.flags.specs.declared.Flags.{Flags}
use Rattle.adder.specs.Adder.{adc_of}
use Rattle.adder.proofs.BinaryLaws.{adc_adds, bit_not}
use Rattle.alu.specs.Alu.{left_byte, right_byte, step_byte, nz, shifted, from_top}
use Rattle.alu.specs.declared.types.Shift.{Shift}
use Rattle.alu.specs.declared.types.Byte.{Byte}
use Rattle.alu.specs.declared.types.Word.{Word}
use Rattle.alu.specs.Widths.{lefts, rights, through}
use Rattle.alu.proofs.CarryLaws.{Equation, Rule, OfByte, Any, itself, Binary, binary, wrapped, difference}
use Rattle.alu.proofs.FlagLaws.{leb_same, zero_joined, sign_flag, zero_flag}
use Rattle.alu.proofs.OneByte.{left_small, step_small, shifted_small, shown, shifted_plain}

-- the carry comes in at the low end and what the word can't hold goes out
abbrev pub Doubled : Equation
Doubled m a b w c d = w + m * bit d ≡ 2 * a + bit c

-- INC adds the carry, DEC takes its complement away
abbrev pub Raised : Equation
Raised m a b w c d = w + m * bit d ≡ a + bit c

abbrev pub Lowered : Equation
Lowered m a b w c d = w + bit (not c) ≡ a + m * bit (not d)

doubled : Rule 256 Doubled
doubled = record { none = λ c. omega arith; more = λ m a b w a' b' w' c d e s t. omega arith }

raised : Rule 256 Raised
raised = record { none = λ c. omega arith; more = λ m a b w a' b' w' c d e s t. omega arith }

lowered : Rule 256 Lowered
lowered = record { none = λ c. omega arith; more = λ m a b w a' b' w' c d e s t. omega arith }

module _ (d first top : Bool) (a b : ℕ) (f : Flags) (p : a < 256) (q : b < 256) (m : f.decimal ≡ d) where
  left_byte_lem : OfByte Any 256 itself Doubled d a b f (left_byte first top a f)
  unfolding left_byte nz
  left_byte_lem = record { such = left_small first top a f p; mode = m; same = go (leb 128 a) refl }
    where
      go : (t : Bool) → leb 128 a ≡ t → a % 128 * 2 + bit f.carry + 256 * bit t ≡ 2 * a + bit f.carry
      go true e = omega (arith, leb-true 128 a e)
      go false e = omega (arith, leb-false 128 a e)

  raised_byte : OfByte Any 256 itself Raised d a b f (step_byte 0 first top a f)
  unfolding step_byte nz
  raised_byte = record { such = step_small 0 first top a f; mode = m; same = omega (arith, adc_adds a 0 f.carry p (omega arith)) }

  lowered_byte : OfByte Any 256 itself Lowered d a b f (step_byte 255 first top a f)
  unfolding step_byte nz
  lowered_byte = record {
    such = step_small 255 first top a f;
    mode = m;
    same =
        omega (
          arith,
          adc_adds a 255 f.carry p (omega arith),
          bit_not f.carry,
          bit_not (adc_of false a 255 f.carry).carry,
        );
  }

positive : (n : ℕ) → 0 < 256 ^ n
positive n = one-le-pow n 256 (omega arith)

-- what holds of a byte, whatever D, holds of n bytes from the low end
module _ (Says : Equation) (rule : Rule 256 Says) (byte : (first top : Bool) → ℕ → Flags → Byte)
    (law : (d first top : Bool) (a b : ℕ) (f : Flags) → a < 256 → b < 256 → f.decimal ≡ d → OfByte Any 256 itself Says d a b f (byte first top a f)) where
  from_below : (n : ℕ) (first : Bool) (v : ℕ) (f : Flags) → v < 256 ^ n → Binary Says n v 0 f (lefts byte n first v f)
  from_below n first v f p =
      binary Says rule f.decimal (λ first top a b g. byte first top a g) (law f.decimal) n first v 0 f p (positive n) refl

-- ASL and ROL: the word with 256^n for a carry is twice the value and the carry that goes in
pub left_word : (n : ℕ) (first : Bool) (v : ℕ) (f : Flags) → v < 256 ^ n → Binary Doubled n v 0 f (lefts left_byte n first v f)
left_word = from_below Doubled doubled left_byte left_byte_lem

module _ (n : ℕ) (first : Bool) (v : ℕ) (f : Flags) (p : v < 256 ^ n) where
  -- INC, with the carry that it goes in with
  pub inc_word : f.carry ≡ true → (lefts (step_byte 0) n first v f).word ≡ (v + 1) % 256 ^ n
  inc_word c =
      let w : Word = lefts (step_byte 0) n first v f in
      let r = from_below Raised raised (step_byte 0) raised_byte n first v f p in
      sym (wrapped (256 ^ n) w.word (v + 1) w.flags.carry r.small (omega (arith, r.same, ap bit c)))

  -- DEC, with the borrow that it goes in with
  pub dec_word : f.carry ≡ false → (lefts (step_byte 255) n first v f).word ≡ (v + (256 ^ n - 1)) % 256 ^ n
  dec_word c =
      let w : Word = lefts (step_byte 255) n first v f in
      let r = from_below Lowered lowered (step_byte 255) lowered_byte n first v f p in
      let e : w.word + 1 ≡ v + 256 ^ n * bit (not w.flags.carry) = omega (arith, r.same, ap (λ (t : Bool). bit (not t)) c) in
      sym (difference (256 ^ n) v 1 w.word w.flags.carry r.small (positive n) e)

right_byte_lem : (first top : Bool) (b : ℕ) (f : Flags) → b < 256
    → let r : Byte = right_byte first top b f in 2 * r.byte + bit r.flags.carry ≡ b + 256 * bit f.carry
unfolding right_byte nz
right_byte_lem first top b f p = go (eqb (b % 2) 1) refl
  where
    go : (t : Bool) → eqb (b % 2) 1 ≡ t → 2 * (b / 2 + bit f.carry * 128) + bit t ≡ b + 256 * bit f.carry
    go true e = omega (arith, eqb-true (b % 2) 1 e)
    go false e = let odd : b % 2 ≡ 1 → ⊥ = eqb-false (b % 2) 1 e in omega arith

-- LSR and ROR: twice the word and the carry is the value, with 256^n for the carry that goes in
pub right_word : (n : ℕ) (first : Bool) (v : ℕ) (f : Flags) → v < 256 ^ n
    → let r : Word = rights right_byte n first v f in 2 * r.word + bit r.flags.carry ≡ v + 256 ^ n * bit f.carry
right_word zero first v f p = let none : v ≡ 0 = omega (arith, rw pow-zero at p) in rw pow-zero (omega arith)
right_word (suc n) first v f p =
    let h : Byte = right_byte first first (v / 256 ^ n) f in
    let top : v / 256 ^ n < 256 = (div-lt_iff_lt-mul (positive n)).1 (rw pow-succ' at p) in
    rw pow-succ'
    (omega (
      arith,
      ap (λ (x : ℕ). 256 ^ n * x) (right_byte_lem first first (v / 256 ^ n) f top),
      right_word n false (v % 256 ^ n) h.flags (mod-lt v (positive n)),
      div-add-mod v (256 ^ n),
    ))

-- ---- Z and N, from either end
module _ (k : Shift) where
  pub right_below : (n : ℕ) (first : Bool) (v : ℕ) (f : Flags) → v < 256 ^ n → (rights (shifted k) n first v f).word < 256 ^ n
  right_below zero first v f p = rw pow-zero (omega arith)
  right_below (suc n) first v f p =
      let top : v / 256 ^ n < 256 = (div-lt_iff_lt-mul (positive n)).1 (rw pow-succ' at p) in
      let h : Byte = shifted k first first (v / 256 ^ n) f in
      rw pow-succ'
      (omega (
        arith,
        mul-le-mul_left (256 ^ n) (shifted_small k first first (v / 256 ^ n) f top),
        right_below n false (v % 256 ^ n) h.flags (mod-lt v (positive n)),
      ))

  right_zero : (n : ℕ) (first : Bool) (v : ℕ) (f : Flags)
      → let r : Word = rights (shifted k) (suc n) first v f in r.flags.zero ≡ ((first || f.zero) && eqb r.word 0)
  right_zero zero first v f = rw ((shown k first first (v / 1) f).zero, one-mul, zero-add)
  right_zero (suc n) first v f =
      let h : Byte = shifted k first first (v / 256 ^ suc n) f in
      let l : Word = rights (shifted k) (suc n) false (v % 256 ^ suc n) h.flags in
      right_zero n false (v % 256 ^ suc n) h.flags
      ∙ rw ((shown k first first (v / 256 ^ suc n) f).zero, and_assoc, and_comm (eqb h.byte 0) (eqb l.word 0))
      (ap (λ (t : Bool). (first || f.zero) && t) (zero_joined (256 ^ suc n) l.word h.byte (positive (suc n))))

  right_keeps : (n : ℕ) (v : ℕ) (f : Flags) → (rights (shifted k) n false v f).flags.negative ≡ f.negative
  right_keeps zero v f = refl
  right_keeps (suc n) v f = right_keeps n (v % 256 ^ n) _ ∙ (shown k false false (v / 256 ^ n) f).sign

  right_sign : (n v : ℕ) (f : Flags) → v < 256 ^ suc n
      → let r : Word = rights (shifted k) (suc n) true v f in r.flags.negative ≡ leb (128 * 256 ^ n) r.word
  right_sign n v f p =
      let h : Byte = shifted k true true (v / 256 ^ n) f in
      let l : Word = rights (shifted k) n false (v % 256 ^ n) h.flags in
      let small : l.word < 256 ^ n = right_below n false (v % 256 ^ n) h.flags (mod-lt v (positive n)) in
      right_keeps n (v % 256 ^ n) h.flags
      ∙ (shown k true true (v / 256 ^ n) f).sign
      ∙ leb_same 128 h.byte (128 * 256 ^ n) (l.word + 256 ^ n * h.byte)
      (λ e. omega (arith, mul-le-mul_left (256 ^ n) e))
      (λ e. omega (arith, mul-le-mul_left (256 ^ n) e))

  -- of a word that is shifted or stepped, as of any result
  pub through_zero : (n v : ℕ) (f : Flags) → let r : Word = through k (suc n) v f in r.flags.zero ≡ eqb r.word 0
  through_zero n v f = go (from_top k)
    where
      go : (t : Bool) → let r : Word = pick t (rights (shifted k) (suc n) true v f) (lefts (shifted k) (suc n) true v f) in
          r.flags.zero ≡ eqb r.word 0
      go true = right_zero n true v f
      go false = zero_flag (λ first top a b g. shifted k first top a g) (λ first top a b g. (shown k first top a g).zero) n true v 0 f

  pub through_sign : (n v : ℕ) (f : Flags) → v < 256 ^ suc n → let r : Word = through k (suc n) v f in r.flags.negative ≡ leb (128 * 256 ^ n) r.word
  through_sign n v f p = go (from_top k)
    where
      byte : (first top : Bool) → (a b : ℕ) → Flags → Byte
      byte first top a b g = shifted k first top a g

      go : (t : Bool) → let r : Word = pick t (rights (shifted k) (suc n) true v f) (lefts (shifted k) (suc n) true v f) in
          r.flags.negative ≡ leb (128 * 256 ^ n) r.word
      go true = right_sign n v f p
      go false =
          sign_flag byte (shifted_plain k) (λ g. g.negative) (λ x y z. z) f.decimal (λ first a b g s t m. (shown k first true a g).sign)
          n true v 0 f p (positive (suc n)) refl
