-- A text stored over another.
use Prim.Native.Nat.{ℕ, zero, suc, ◌+◌, ◌≤◌, ◌<◌}
use mathlib.Core.Path.{◌≡◌, refl, sym, ap, ◌∙◌}
use mathlib.Core.List.{List, [], ◌∷◌, ◌++◌, append_assoc}
use native.Mathlib.Omega.{arith}
use native.Mathlib.Nat.{add-zero}
use lib.ListN.{length, set, take, length-append}
use lib.Seq.{sets, set-set, set_comm, length-take-le, take-append-add}

-- a store before a text may as well come first
earlier : (xs t : List ℕ) (i j a : ℕ) → i < j → set (sets t j xs) i a ≡ sets (set t i a) j xs
earlier [] t i j a h = refl
earlier (x ∷ xs) t i j a h =
    earlier xs (set t j x) i (suc j) a (omega arith)
    ∙ ap (λ (u : List ℕ). sets u (suc j) xs) (set_comm t j i x a (λ e. omega arith))

-- nothing is left of a text that is no longer
pub hidden : (xs ys t : List ℕ) (i : ℕ) → length xs ≤ length ys → sets (sets t i xs) i ys ≡ sets t i ys
hidden [] ys t i h = refl
hidden (x ∷ xs) [] t i h = absurd (omega arith)
hidden (x ∷ xs) (y ∷ ys) t i h =
    ap (λ (u : List ℕ). sets u (suc i) ys) (earlier xs (set t i x) i (suc i) y (omega arith) ∙ ap (λ (u : List ℕ). sets u (suc i) xs) (set-set t i x y))
    ∙ hidden xs ys (set t i y) (suc i) (omega arith)

-- of one that begins d places earlier, and ends no later, the first d are left
pub overlaid : (xs ys t : List ℕ) (i d : ℕ) → d ≤ length xs → length xs ≤ d + length ys → sets (sets t i xs) (i + d) ys ≡ sets t i (take d xs ++ ys)
overlaid xs ys t i zero h k = rw (add-zero i) (hidden xs ys t i (omega arith))
overlaid [] ys t i (suc d) h k = absurd (omega arith)
overlaid (x ∷ xs) ys t i (suc d) h k =
    let e : i + suc d ≡ suc i + d = omega arith in
    rw e (overlaid xs ys (set t i x) (suc i) d (omega arith) (omega arith))

-- a line of three words and a byte: the first w of the first word, the byte, seven of the second, all of the third
pub three_words : (x y z t : List ℕ) (i w l : ℕ) → length x ≡ 8 → length y ≡ 8 → length z ≡ 8 → w < 8
    → sets (sets (set (sets t i x) (i + w) l) (i + w + 1) y) (i + w + 8) z ≡ sets t i (take w x ++ (l ∷ (take 7 y ++ z)))
three_words x y z t i w l hx hy hz h =
    let e : i + w + 1 ≡ suc (i + w) = omega arith in
    let f : i + w + 8 ≡ i + (w + 8) = omega arith in
    let wide : length (take w x) ≡ w = length-take-le w x (omega arith) in
    let long : length (take w x ++ (l ∷ y)) ≡ w + 9 = omega (arith, length-append (take w x) (l ∷ y)) in
    let kept : take (w + 8) (take w x ++ (l ∷ y)) ≡ take w x ++ (l ∷ take 7 y) =
    ap (λ (n : ℕ). take (n + 8) (take w x ++ (l ∷ y))) (sym wide) ∙ take-append-add (take w x) (l ∷ y) 8 in
    rw (e, f)
    (ap (λ (u : List ℕ). sets u (i + (w + 8)) z) (overlaid x (l ∷ y) t i w (omega arith) (omega arith))
    ∙ overlaid (take w x ++ (l ∷ y)) z t i (w + 8) (omega arith) (omega arith)
    ∙ ap (λ (u : List ℕ). sets t i (u ++ z)) kept
    ∙ ap (λ (u : List ℕ). sets t i u) (append_assoc (take w x) (l ∷ take 7 y) z))
