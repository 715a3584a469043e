-- On bytes of two decimal digits ADC adds and SBC takes away: the value, with 100 for a carry, or less 100 for a borrow.
-- Each is one computed test over 100 x 100 bytes and both carries.
use Prim.Native.Nat.{ℕ, ◌+◌, ◌*◌, ◌/◌, ◌%◌, ◌<◌}
use mathlib.Core.Path.{◌≡◌, subst}
use mathlib.Core.Bool.{Bool, true, false, not, ◌&&◌}
use native.Mathlib.Nat.{div-add-mod'}
use lib.Dec.{T, ltb, eqb, ltb→lt, eqb→eq}
use Rattle.words.specs.Words.{bit}
use Rattle.adder.specs.Adder.{adc_binary, adc_decimal, sbc_decimal}
use Rattle.adder.specs.Digits.{Pair, value_of}
use Rattle.adder.specs.declared.Sum.{Sum}
use Rattle.adder.proofs.Computed.{all, all_at, and_left, and_right}

-- at every byte of two digits, and at both carries
abbrev every_pair : (ℕ → Bool) → Bool
every_pair f = all 10 (λ h. all 10 (λ l. f (h * 16 + l)))

abbrev everywhere : (Bool → ℕ → ℕ → Bool) → Bool
everywhere f = every_pair (λ a. every_pair (f false a)) && every_pair (λ a. every_pair (f true a))

at_pair : (f : ℕ → Bool) → T (every_pair f) → (a : ℕ) → Pair a → T (f a)
at_pair f t a d =
    subst (λ (x : ℕ). T (f x)) (div-add-mod' a 16)
    (all_at 10 (λ m. f (a / 16 * 16 + m)) (all_at 10 (λ k. all 10 (λ m. f (k * 16 + m))) t (a / 16) d.0) (a % 16) d.1)

at_both : (f : Bool → ℕ → ℕ → Bool) → T (everywhere f) → (c : Bool) (a b : ℕ) → Pair a → Pair b → T (f c a b)
at_both f t c a b p q = at_pair (f c a) (at_pair (λ x. every_pair (f c x)) (side c) a p) b q
  where
    side : (c : Bool) → T (every_pair (λ x. every_pair (f c x)))
    side true = and_right (every_pair (λ x. every_pair (f false x))) (every_pair (λ x. every_pair (f true x))) t
    side false = and_left (every_pair (λ x. every_pair (f false x))) (every_pair (λ x. every_pair (f true x))) t

-- a byte of two digits, with an equation
pub record Counts (byte x y : ℕ) : Type 0 where
  pub small : byte < 256
  pub digits : Pair byte
  pub same : x ≡ y

counts : (byte x y : ℕ) → Bool
counts v x y = ltb v 256 && (ltb (v / 16) 10 && (ltb (v % 16) 10 && eqb x y))

counted : (v x y : ℕ) → T (counts v x y) → Counts v x y
unfolding counts
counted v x y t =
    let t₁ : T (ltb (v / 16) 10 && (ltb (v % 16) 10 && eqb x y)) = and_right (ltb v 256) _ t in
    let t₂ : T (ltb (v % 16) 10 && eqb x y) = and_right (ltb (v / 16) 10) _ t₁ in
    record {
      small = ltb→lt v 256 (and_left (ltb v 256) _ t);
      digits = (ltb→lt (v / 16) 10 (and_left (ltb (v / 16) 10) _ t₁), ltb→lt (v % 16) 10 (and_left (ltb (v % 16) 10) _ t₂));
      same = eqb→eq x y (and_right (ltb (v % 16) 10) _ t₂);
    }

adc_counts : Bool → ℕ → ℕ → Bool
adc_counts c a b =
    let s : Sum = adc_decimal a b c in
    counts s.byte (value_of s.byte + 100 * bit s.carry) (value_of a + value_of b + bit c)

sbc_counts : Bool → ℕ → ℕ → Bool
sbc_counts c a b =
    let s : Sum = sbc_decimal a b c in
    counts s.byte (value_of s.byte + value_of b + bit (not c)) (value_of a + 100 * bit (not s.carry))

-- a declaration with no clauses for each test: clauses have it computed again
adc_everywhere : T (everywhere adc_counts)
unfolding adc_counts adc_decimal counts
adc_everywhere = tt

sbc_everywhere : T (everywhere sbc_counts)
unfolding sbc_counts sbc_decimal adc_binary counts
sbc_everywhere = tt

pub adc_digits : (a b : ℕ) (c : Bool) → Pair a → Pair b
    → let s : Sum = adc_decimal a b c in Counts s.byte (value_of s.byte + 100 * bit s.carry) (value_of a + value_of b + bit c)
unfolding adc_counts
adc_digits a b c p q = counted (adc_decimal a b c).byte _ _ (at_both adc_counts adc_everywhere c a b p q)

pub sbc_digits : (a b : ℕ) (c : Bool) → Pair a → Pair b
    → let s : Sum = sbc_decimal a b c in
    Counts s.byte (value_of s.byte + value_of b + bit (not c)) (value_of a + 100 * bit (not s.carry))
unfolding sbc_counts
sbc_digits a b c p q = counted (sbc_decimal a b c).byte _ _ (at_both sbc_counts sbc_everywhere c a b p q)
