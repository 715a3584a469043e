-- The digits before the last: one more of them, how many they are, and that they are bytes.
use Prim.Native.Nat.{ℕ, zero, suc, ◌+◌, ◌*◌, ◌/◌, ◌%◌, ◌≤◌, ◌<◌}
use mathlib.Core.Path.{◌≡◌, ap, ◌∙◌}
use mathlib.Core.List.{[], ◌∷◌, ◌++◌}
use mathlib.Core.Logic.{⊎_elim}
use native.Mathlib.Omega.{arith}
use borrow.Author.Tests.{eq-eqb, ne_eqb}
use lib.ListN.{length, length-append}
use Rattle.trace.specs.Text.{decimal}
use Rattle.trace.proofs.Decimal.{lt_or_ge, decimal_one, decimal_more, decimal_short}
use Rattle.dial.specs.Dial.{packed, front_of}
use Rattle.dial.proofs.Packing.{Bytes, bytes_append, span, packed_small, before, before_last, before_more}

pub front_none : (m : ℕ) → m < 1 → front_of m ≡ []
unfolding front_of
front_none m h = rw (eq-eqb m 0 (omega arith))

front_some : (m : ℕ) → 1 ≤ m → front_of m ≡ decimal m
unfolding front_of
front_some m h = rw (ne_eqb m 0 (λ e. omega arith))

-- a number is the digits before its last, and that
pub decimal_front : (n : ℕ) → decimal n ≡ front_of (n / 10) ++ ((48 + n % 10) ∷ [])
decimal_front n =
    ⊎_elim
    (λ p.
    let e : n ≡ n % 10 = omega arith in
    rw (front_none (n / 10) (omega arith)) (decimal_one n p ∙ ap (λ (x : ℕ). (48 + x) ∷ []) e))
    (λ p. rw (front_some (n / 10) (omega arith)) (decimal_more n p))
    (lt_or_ge n 10)

pub front_more : (m : ℕ) → 0 < m → front_of m ≡ front_of (m / 10) ++ ((48 + m % 10) ∷ [])
front_more m h = front_some m (omega arith) ∙ decimal_front m

pub front_longer : (m : ℕ) → 0 < m → length (front_of m) ≡ length (front_of (m / 10)) + 1
front_longer m h = rw (front_more m h) (length-append (front_of (m / 10)) _)

-- at most seven
pub front_short : (m : ℕ) → m < 10000000 → length (front_of m) ≤ 7
front_short m h =
    ⊎_elim
    (λ p. rw (front_none m p) (omega arith))
    (λ p. rw (front_some m p) (decimal_short 6 m h))
    (lt_or_ge m 1)

front_bytes_by : (f m : ℕ) → m < f → Bytes (front_of m)
front_bytes_by zero m h = absurd (omega arith)
front_bytes_by (suc f) m h =
    ⊎_elim
    (λ p. rw (front_none m p) tt)
    (λ p. rw (front_more m (omega arith)) (bytes_append (front_of (m / 10)) _ (front_bytes_by f (m / 10) (omega arith)) (omega arith, tt)))
    (lt_or_ge m 1)

pub front_bytes : (m : ℕ) → Bytes (front_of m)
front_bytes m = front_bytes_by (suc m) m (omega arith)

pub front_small : (m : ℕ) → m < 10000000 → packed (front_of m) < span 7
front_small m h = packed_small 7 (front_of m) (front_short m h) (front_bytes m)

-- ---- the last of them goes to those that are packed already

pub front_step : (k v : ℕ) → 0 < k → before (front_of k) v ≡ before (front_of (k / 10)) (v * 256 + (48 + k % 10))
front_step k v h = rw (front_more k h) (before_last (front_of (k / 10)) (48 + k % 10) v)

pub front_holds : (k v : ℕ) → 0 < k → v * 256 + (48 + k % 10) ≤ before (front_of k) v
front_holds k v h = omega (arith, front_step k v h, before_more (front_of (k / 10)) (v * 256 + (48 + k % 10)))
