-- Laws of decimal digits: one more digit, how many there are, and that they may be written weight by weight.
use Prim.Native.Nat.{ℕ, zero, suc, ◌+◌, ◌*◌, ◌/◌, ◌%◌, ◌≤◌, ◌<◌, zero-le}
use mathlib.Core.Path.{◌≡◌, refl, sym, ap, ◌∙◌}
use mathlib.Core.List.{List, [], ◌∷◌, ◌++◌, append_assoc}
use mathlib.Core.Logic.{◌⊎◌, inl, inr, ⊎_elim}
use native.Mathlib.Omega.{arith}
use native.Mathlib.Nat.{div-div-eq-div-mul}
use borrow.Author.Tests.{lt-ltb, le-ltb}
use lib.ListN.{length, length-append}
use Rattle.trace.specs.Text.{digits_of, decimal}
use Rattle.trace.specs.Places.{digit_at, tens, places, upper_of, lower_of}

pub lt_or_ge : (a b : ℕ) → (a < b) ⊎ (b ≤ a)
lt_or_ge a zero = inr zero-le
lt_or_ge zero (suc b) = inl (omega arith)
lt_or_ge (suc a) (suc b) = ⊎_elim (λ p. inl (omega arith)) (λ q. inr (omega arith)) (lt_or_ge a b)

tens_positive : (k : ℕ) → 1 ≤ tens k
tens_positive zero = omega arith
tens_positive (suc k) = omega (arith, tens_positive k)

-- ---- the definition, once its fuel is enough

digits_one : (f n : ℕ) → n < 10 → digits_of (suc f) n ≡ (48 + n) ∷ []
unfolding digits_of
digits_one f n h = rw (lt-ltb n 10 h, digits_of)

digits_more : (f n : ℕ) → 10 ≤ n → digits_of (suc f) n ≡ digits_of f (n / 10) ++ ((48 + n % 10) ∷ [])
unfolding digits_of
digits_more f n h = rw (le-ltb n 10 h, digits_of)

digits_fuel : (f g n : ℕ) → n < f → n < g → digits_of f n ≡ digits_of g n
digits_fuel zero g n h k = absurd (omega arith)
digits_fuel (suc f) zero n h k = absurd (omega arith)
digits_fuel (suc f) (suc g) n h k =
    ⊎_elim
    (λ p. digits_one f n p ∙ sym (digits_one g n p))
    (λ p. digits_more f n p ∙ ap (λ (x : List ℕ). x ++ ((48 + n % 10) ∷ [])) (digits_fuel f g (n / 10) (omega arith) (omega arith)) ∙ sym (digits_more g n p))
    (lt_or_ge n 10)

pub decimal_one : (n : ℕ) → n < 10 → decimal n ≡ (48 + n) ∷ []
unfolding decimal
decimal_one n h = digits_one n n h

pub decimal_more : (n : ℕ) → 10 ≤ n → decimal n ≡ decimal (n / 10) ++ ((48 + n % 10) ∷ [])
unfolding decimal
decimal_more n h = digits_more n n h ∙ ap (λ (x : List ℕ). x ++ ((48 + n % 10) ∷ [])) (digits_fuel n (suc (n / 10)) (n / 10) (omega arith) (omega arith))

pub decimal_two : (n : ℕ) → 10 ≤ n → n < 100 → decimal n ≡ (48 + n / 10) ∷ (48 + n % 10) ∷ []
decimal_two n h k = decimal_more n h ∙ rw (decimal_one (n / 10) (omega arith))

-- ---- how many

more_length : (n : ℕ) → 10 ≤ n → length (decimal n) ≡ length (decimal (n / 10)) + 1
more_length n h = rw (decimal_more n h, length-append)

pub decimal_short : (k n : ℕ) → n < tens (suc k) → length (decimal n) ≤ suc k
decimal_short zero n h = rw (decimal_one n (omega arith)) (omega arith)
decimal_short (suc k) n h =
    ⊎_elim
    (λ p. rw (decimal_one n p) (omega arith))
    (λ p. omega (arith, more_length n p, decimal_short k (n / 10) (omega arith)))
    (lt_or_ge n 10)

pub decimal_long : (k n : ℕ) → tens k ≤ n → suc k ≤ length (decimal n)
decimal_long zero n h =
    ⊎_elim
    (λ p. rw (decimal_one n p) (omega arith))
    (λ p. omega (arith, more_length n p))
    (lt_or_ge n 10)
decimal_long (suc k) n h =
    ⊎_elim
    (λ p. absurd (omega (arith, tens_positive k)))
    (λ p. omega (arith, more_length n p, decimal_long k (n / 10) (omega arith)))
    (lt_or_ge n 10)

pub width_one : (n : ℕ) → n < 10 → 1 ≡ length (decimal n)
width_one n h = rw (decimal_one n h)

pub width_more : (k n : ℕ) → tens (suc k) ≤ n → n < tens (suc (suc k)) → suc (suc k) ≡ length (decimal n)
width_more k n h g = omega (arith, decimal_short (suc k) n g, decimal_long (suc k) n h)

-- even 0 has a digit
pub decimal_some : (n : ℕ) → 1 ≤ length (decimal n)
decimal_some n =
    ⊎_elim
    (λ p. rw (decimal_one n p) (omega arith))
    (λ p. omega (arith, more_length n p))
    (lt_or_ge n 10)

-- ---- weight by weight

pub digit_none : (w n : ℕ) → n < w → digit_at w n ≡ []
unfolding digit_at
digit_none w n h = rw (lt-ltb n w h)

pub digit_some : (w n : ℕ) → w ≤ n → digit_at w n ≡ (48 + n / w % 10) ∷ []
unfolding digit_at
digit_some w n h = rw (le-ltb n w h)

-- a digit of ten times the weight is that of a tenth of the number
digit_tenth : (w n : ℕ) → digit_at (10 * w) n ≡ digit_at w (n / 10)
digit_tenth w n =
    ⊎_elim
    (λ p. digit_none (10 * w) n p ∙ sym (digit_none w (n / 10) (omega arith)))
    (λ p. digit_some (10 * w) n p ∙ rw (← (div-div-eq-div-mul n 10 w)) (sym (digit_some w (n / 10) (omega arith))))
    (lt_or_ge n (10 * w))

places_small : (k n : ℕ) → n < 10 → places k n ≡ (48 + n % 10) ∷ []
places_small zero n h = refl
places_small (suc k) n h = rw (digit_none (tens (suc k)) n (omega (arith, tens_positive k))) (places_small k n h)

places_more : (k n : ℕ) → 10 ≤ n → places (suc k) n ≡ places k (n / 10) ++ ((48 + n % 10) ∷ [])
places_more zero n h = rw (digit_some 10 n h)
places_more (suc k) n h = rw (places_more k n h, digit_tenth (tens (suc k)) n) (sym (append_assoc (digit_at (tens (suc k)) (n / 10)) (places k (n / 10)) _))

low_digit : (n : ℕ) → n < 10 → ◌≡◌ {A = List ℕ} ((48 + n) ∷ []) ((48 + n % 10) ∷ [])
low_digit n h = ap (λ (x : ℕ). (48 + x) ∷ []) (omega arith)

pub decimal_places : (k n : ℕ) → n < tens (suc k) → decimal n ≡ places k n
decimal_places zero n h = decimal_one n (omega arith) ∙ low_digit n (omega arith)
decimal_places (suc k) n h =
    ⊎_elim
    (λ p. decimal_one n p ∙ low_digit n p ∙ sym (places_small (suc k) n p))
    (λ p. decimal_more n p ∙ rw (decimal_places k (n / 10) (omega arith)) (sym (places_more k n p)))
    (lt_or_ge n 10)

-- a number of 32 bits in its two halves, and how many digits each has
pub decimal_weights : (n : ℕ) → n < 10000000000 → decimal n ≡ upper_of n ++ lower_of n
unfolding upper_of lower_of
decimal_weights n h = decimal_places 9 n h ∙ simp append_assoc

pub upper_length : (n : ℕ) → length (upper_of n) ≡
    length (digit_at 1000000000 n) + (length (digit_at 100000000 n) + (length (digit_at 10000000 n)
    + (length (digit_at 1000000 n) + length (digit_at 100000 n))))
unfolding upper_of
upper_length n = simp length-append

pub lower_length : (n : ℕ) → length (lower_of n) ≡
    length (digit_at 10000 n) + (length (digit_at 1000 n) + (length (digit_at 100 n) + (length (digit_at 10 n) + 1)))
unfolding lower_of
lower_length n = simp length-append

pub weights_length : (n : ℕ) → n < 10000000000 → length (decimal n) ≡ length (upper_of n) + length (lower_of n)
weights_length n h = rw (decimal_weights n h) (length-append (upper_of n) (lower_of n))
