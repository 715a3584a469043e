-- A number below a million, times 429,497: above 2 to the 32nd stands what is left of its last four digits, below it their fraction of 10,000, with an
-- error too small to reach the last digit.
use Prim.Native.Nat.{ℕ, ◌+◌, ◌*◌, ◌/◌, ◌%◌, ◌≤◌, ◌<◌}
use mathlib.Core.Path.{◌≡◌, refl, sym, ap, ◌∙◌}
use mathlib.Core.List.{List, [], ◌∷◌, ◌++◌}
use mathlib.Core.Logic.{⊎_elim}
use native.Mathlib.Omega.{arith}
use lib.ListN.{length, length-append}
use Rattle.trace.specs.Text.{decimal}
use Rattle.trace.specs.Places.{front_of, four_of}
use Rattle.trace.proofs.Decimal.{lt_or_ge, decimal_one, decimal_two, decimal_more, digit_none, digit_some}

-- a number by what stands before its last four digits, and by these
abbrev whole : (a d₃ d₂ d₁ d₀ : ℕ) → ℕ
whole a d₃ d₂ d₁ d₀ = 10000 * a + 1000 * d₃ + 100 * d₂ + 10 * d₁ + d₀

module _ (n a d₃ d₂ d₁ d₀ : ℕ) (e : n ≡ whole a d₃ d₂ d₁ d₀) (ha : a < 100) (h₃ : d₃ < 10) (h₂ : d₂ < 10) (h₁ : d₁ < 10) (h₀ : d₀ < 10) where
  high : n * 429497 / 4294967296 ≡ a
  high = omega arith

  part₀ : n * 429497 % 4294967296 ≡ 2704 * a + 429497000 * d₃ + 42949700 * d₂ + 4294970 * d₁ + 429497 * d₀
  part₀ = omega arith

  part₁ : n * 429497 % 4294967296 * 5 % 2147483648 ≡ 13520 * a + 1352 * d₃ + 214748500 * d₂ + 21474850 * d₁ + 2147485 * d₀
  part₁ = rw part₀ (omega arith)

  part₂ : n * 429497 % 4294967296 * 5 % 2147483648 * 5 % 1073741824 ≡ 67600 * a + 6760 * d₃ + 676 * d₂ + 107374250 * d₁ + 10737425 * d₀
  part₂ = rw part₁ (omega arith)

  part₃ : n * 429497 % 4294967296 * 5 % 2147483648 * 5 % 1073741824 * 5 % 536870912 ≡ 338000 * a + 33800 * d₃ + 3380 * d₂ + 338 * d₁ + 53687125 * d₀
  part₃ = rw part₂ (omega arith)

  digit₃ : n * 429497 % 4294967296 * 5 / 2147483648 ≡ d₃
  digit₃ = rw part₀ (omega arith)

  digit₂ : n * 429497 % 4294967296 * 5 % 2147483648 * 5 / 1073741824 ≡ d₂
  digit₂ = rw part₁ (omega arith)

  digit₁ : n * 429497 % 4294967296 * 5 % 2147483648 * 5 % 1073741824 * 5 / 536870912 ≡ d₁
  digit₁ = rw part₂ (omega arith)

  digit₀ : n * 429497 % 4294967296 * 5 % 2147483648 * 5 % 1073741824 * 5 % 536870912 * 5 / 268435456 ≡ d₀
  digit₀ = rw part₃ (omega arith)

  four_digits : four_of (n * 429497 % 4294967296) ≡ (48 + d₃) ∷ (48 + d₂) ∷ (48 + d₁) ∷ (48 + d₀) ∷ []
  unfolding four_of
  four_digits = rw (digit₃, digit₂, digit₁, digit₀)

-- ---- what stands before the four digits

pub front_none : (n : ℕ) → n < 1 → front_of n ≡ []
unfolding front_of
front_none n h = rw (digit_none 10 n (omega arith), digit_none 1 n h)

pub front_one : (n : ℕ) → 1 ≤ n → n < 10 → front_of n ≡ (48 + n) ∷ []
unfolding front_of
front_one n h k = rw (digit_none 10 n k, digit_some 1 n h) (ap (λ (x : ℕ). (48 + x) ∷ []) (omega arith))

pub front_two : (n : ℕ) → 10 ≤ n → n < 100 → front_of n ≡ (48 + n / 10) ∷ (48 + n % 10) ∷ []
unfolding front_of
front_two n h k =
    let e : n / 10 % 10 ≡ n / 10 = omega arith in
    let f : n / 1 % 10 ≡ n % 10 = omega arith in
    rw (digit_some 10 n h, digit_some 1 n (omega arith), e, f)

front_decimal : (n : ℕ) → 1 ≤ n → n < 100 → decimal n ≡ front_of n
front_decimal n h k =
    ⊎_elim
    (λ p. decimal_one n p ∙ sym (front_one n h p))
    (λ p. decimal_two n p k ∙ sym (front_two n p k))
    (lt_or_ge n 10)

-- ---- the same by the number alone

four_back : (x : List ℕ) (a b c d : ℕ) → (((x ++ (a ∷ [])) ++ (b ∷ [])) ++ (c ∷ [])) ++ (d ∷ []) ≡ x ++ (a ∷ b ∷ c ∷ d ∷ [])
four_back [] a b c d = refl
four_back (y ∷ x) a b c d = ap (λ (l : List ℕ). y ∷ l) (four_back x a b c d)

abbrev fourth : ℕ → ℕ
fourth n = n / 10 / 10 / 10 / 10

-- its last four digits
abbrev tail : ℕ → List ℕ
tail n = (48 + n / 10 / 10 / 10 % 10) ∷ (48 + n / 10 / 10 % 10) ∷ (48 + n / 10 % 10) ∷ (48 + n % 10) ∷ []

tail_alone : (n : ℕ) → 1000 ≤ n → n < 10000 → decimal n ≡ front_of (fourth n) ++ tail n
tail_alone n h k =
    let e : n / 10 / 10 / 10 ≡ n / 10 / 10 / 10 % 10 = omega arith in
    rw (
      front_none (fourth n) (omega arith),
      decimal_more n (omega arith),
      decimal_more (n / 10) (omega arith),
      decimal_more (n / 10 / 10) (omega arith),
      decimal_one (n / 10 / 10 / 10) (omega arith),
    )
    (ap (λ (x : ℕ). (48 + x) ∷ (48 + n / 10 / 10 % 10) ∷ (48 + n / 10 % 10) ∷ (48 + n % 10) ∷ []) e)

tail_after : (n : ℕ) → 10000 ≤ n → n < 1000000 → decimal n ≡ front_of (fourth n) ++ tail n
tail_after n h k =
    rw (
      ← (front_decimal (fourth n) (omega arith) (omega arith)),
      decimal_more n (omega arith),
      decimal_more (n / 10) (omega arith),
      decimal_more (n / 10 / 10) (omega arith),
      decimal_more (n / 10 / 10 / 10) (omega arith),
    )
    (four_back (decimal (fourth n)) _ _ _ _)

tail_last : (n : ℕ) → 1000 ≤ n → n < 1000000 → decimal n ≡ front_of (fourth n) ++ tail n
tail_last n h k = ⊎_elim (λ p. tail_alone n h p) (λ p. tail_after n p k) (lt_or_ge n 10000)

pub decimal_scaled : (n : ℕ) → 1000 ≤ n → n < 1000000 → decimal n ≡ front_of (n * 429497 / 4294967296) ++ four_of (n * 429497 % 4294967296)
decimal_scaled n h k =
    let e : n ≡ whole (fourth n) (n / 10 / 10 / 10 % 10) (n / 10 / 10 % 10) (n / 10 % 10) (n % 10) = omega arith in
    let f = high n _ _ _ _ _ e (omega arith) (omega arith) (omega arith) (omega arith) (omega arith) in
    let g = four_digits n _ _ _ _ _ e (omega arith) (omega arith) (omega arith) (omega arith) (omega arith) in
    rw (f, g) (tail_last n h k)

pub scaled_front : (n : ℕ) → n < 1000000 → n * 429497 / 4294967296 < 100
scaled_front n h = omega arith

four_length : (f : ℕ) → length (four_of f) ≡ 4
unfolding four_of
four_length f = refl

pub scaled_length : (n : ℕ) → 1000 ≤ n → n < 1000000 → length (decimal n) ≡ length (front_of (n * 429497 / 4294967296)) + 4
scaled_length n h k =
    omega (
      arith,
      ap length (decimal_scaled n h k),
      length-append (front_of (n * 429497 / 4294967296)) (four_of (n * 429497 % 4294967296)),
      four_length (n * 429497 % 4294967296),
    )
