-- A text as a number, and back: `bytes_of` finds what `packed` packed, if each of it is a byte.
use Prim.Native.Nat.{ℕ, zero, suc, ◌+◌, ◌*◌, ◌/◌, ◌%◌, ◌≤◌, ◌<◌}
use mathlib.Core.Path.{◌≡◌, refl, ap}
use mathlib.Core.List.{List, [], ◌∷◌, ◌++◌}
use native.Mathlib.Omega.{arith}
use native.Mathlib.Nat.{div-div-eq-div-mul}
use lib.ListN.{length, take}
use lib.Seq.{sets}
use Rattle.dial.specs.Dial.{packed, bytes_of}

-- each of a text is a byte
abbrev pub Bytes : List ℕ → Type 0
Bytes [] = Unit
Bytes (c ∷ cs) = (c < 256) × Bytes cs

pub bytes_append : (xs ys : List ℕ) → Bytes xs → Bytes ys → Bytes (xs ++ ys)
bytes_append [] ys h k = k
bytes_append (x ∷ xs) ys h k = (h.0, bytes_append xs ys h.1 k)

pub bytes_packed : (xs : List ℕ) → Bytes xs → bytes_of (length xs) (packed xs) ≡ xs
bytes_packed [] h = refl
bytes_packed (x ∷ xs) h =
    let e : (x + 256 * packed xs) % 256 ≡ x = omega (arith, h.0) in
    let f : (x + 256 * packed xs) / 256 ≡ packed xs = omega (arith, h.0) in
    rw (e, f, bytes_packed xs h.1)

pub bytes_length : (k v : ℕ) → length (bytes_of k v) ≡ k
bytes_length zero v = refl
bytes_length (suc k) v = ap suc (bytes_length k (v / 256))

pub bytes_fewer : (j k v : ℕ) → j ≤ k → take j (bytes_of k v) ≡ bytes_of j v
bytes_fewer zero k v h = refl
bytes_fewer (suc j) zero v h = absurd (omega arith)
bytes_fewer (suc j) (suc k) v h = ap (λ (l : List ℕ). (v % 256) ∷ l) (bytes_fewer j k (v / 256) (omega arith))

-- 256 times itself k times
abbrev pub span : ℕ → ℕ
span zero = 1
span (suc k) = 256 * span k

pub packed_small : (k : ℕ) (xs : List ℕ) → length xs ≤ k → Bytes xs → packed xs < span k
packed_small zero [] l h = omega arith
packed_small zero (x ∷ xs) l h = absurd (omega arith)
packed_small (suc k) [] l h = omega (arith, packed_small k [] (omega arith) h)
packed_small (suc k) (x ∷ xs) l h = omega (arith, h.0, packed_small k xs (omega arith) h.1)

-- a text before what is packed already
abbrev pub before : List ℕ → ℕ → ℕ
before [] v = v
before (c ∷ cs) v = c + 256 * before cs v

pub before_none : (xs : List ℕ) → before xs 0 ≡ packed xs
before_none [] = refl
before_none (x ∷ xs) = rw (before_none xs)

pub before_last : (xs : List ℕ) (c v : ℕ) → before (xs ++ (c ∷ [])) v ≡ before xs (v * 256 + c)
before_last [] c v = omega arith
before_last (x ∷ xs) c v = rw (before_last xs c v)

pub before_more : (xs : List ℕ) (v : ℕ) → v ≤ before xs v
before_more [] v = omega arith
before_more (x ∷ xs) v = omega (arith, before_more xs v)

-- ---- the bytes of a number by their weights, as the code takes them

abbrev weighed : ℕ → List ℕ
weighed v =
    (v % 256)
    ∷ (v / 256 % 256)
    ∷ (v / 65536 % 256)
    ∷ (v / 16777216 % 256)
    ∷ (v / 4294967296 % 256)
    ∷ (v / 1099511627776 % 256)
    ∷ (v / 281474976710656 % 256)
    ∷ (v / 72057594037927936)
    ∷ []

by_weight : (v : ℕ) → v < 18446744073709551616 → weighed v ≡ bytes_of 8 v
by_weight v h =
    let top : v / 72057594037927936 ≡ v / 72057594037927936 % 256 = omega arith in
    simp div-div-eq-div-mul (rw (← top))

pub word_stored : (t : List ℕ) (i v : ℕ) → v < 18446744073709551616 → sets t i (weighed v) ≡ sets t i (bytes_of 8 v)
word_stored t i v h = ap (λ (b : List ℕ). sets t i b) (by_weight v h)
