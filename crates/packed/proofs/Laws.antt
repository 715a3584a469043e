-- Bytes put over others, one after the other.
use Prim.Native.Nat.{ℕ, zero, suc, ◌+◌, ◌≤◌, ◌<◌}
use mathlib.Core.Path.{◌≡◌, ◌∙◌}
use mathlib.Core.List.{List, [], ◌∷◌, ◌++◌, append-nil}
use native.Mathlib.Omega.{arith}
use native.Mathlib.Nat.{add-zero, zero-add, not-suc-le-zero}
use native.Mathlib.Numerals.{add-one}
use borrow.Author.Tests.{le-leb, lt-leb}
use lib.ListN.{length, set, take, drop, get_or, drop_of_length-le, length-append, length-drop}
use lib.Seq.{sets, sets-eq, take-length, take_at}
use Rattle.packed.specs.Packed.{placed}

sets_suc : (s t : List ℕ) (at i : ℕ) → i < length s → set (sets t at (take i s)) (at + i) (get_or s i 0) ≡ sets t at (take (suc i) s)
sets_suc [] t at i h = absurd (not-suc-le-zero h)
sets_suc (a ∷ s) t at zero h = rw (add-zero at)
sets_suc (a ∷ s) t at (suc i) h =
    let e : at + suc i ≡ suc at + i = omega arith in
    rw e (sets_suc s (set t at a) (suc at) i (omega arith))

-- one byte more, after i of them
pub sets_next : (s t t₁ : List ℕ) (at i : ℕ) → i < length s → t₁ ≡ sets t at (take i s) → set t₁ (at + i) (get_or s i 0) ≡ sets t at (take (i + 1) s)
sets_next s t t₁ at i h e = rw (e, add-one i) (sets_suc s t at i h)

-- all of them, with room
pub placed_all : (s t t₁ : List ℕ) (at i : ℕ) → i ≡ length s → at + length s ≤ length t → t₁ ≡ sets t at (take i s) → t₁ ≡ placed t at s
placed_all s t t₁ at i h k e = e ∙ rw (h, take-length s, le-leb _ _ k)

pub placed_none : (s t : List ℕ) (at : ℕ) → length t < at + length s → t ≡ placed t at s
placed_none s t at h = rw (lt-leb _ _ h)

-- as many bytes as there were: nothing is left of those
pub placed_whole : (s t : List ℕ) → length t ≡ length s → placed t 0 s ≡ s
placed_whole s t h =
    rw (le-leb (0 + length s) (length t) (omega arith), sets-eq s t 0 (omega arith), drop_of_length-le t {i = 0 + length s} (omega arith)) (append-nil s)

-- some at the front and others up to the end
pub placed_both : (s u t : List ℕ) (n : ℕ) → length s ≡ n → length t ≡ n + length u → placed (placed t 0 s) n u ≡ s ++ u
placed_both s u t n h k =
    let e : placed t 0 s ≡ s ++ drop n t = rw (le-leb (0 + length s) (length t) (omega arith), sets-eq s t 0 (omega arith), zero-add, h) in
    let l : length (s ++ drop n t) ≡ length t = omega (arith, length-append s (drop n t), length-drop n t) in
    rw (e, le-leb (n + length u) (length (s ++ drop n t)) (omega arith), sets-eq u (s ++ drop n t) n (omega arith), take_at s (drop n t) n h, drop_of_length-le (s ++ drop n t) {i = n + length u} (omega arith)) (append-nil (s ++ u))
