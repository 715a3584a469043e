-- A match on a byte: what holds in an arm of several keys, and in the default arm, of a list of rows.
use Prim.Native.Nat.{ℕ, zero, suc, ◌+◌, ◌≤◌, ◌<◌}
use native.Mathlib.Omega.{arith}
use mathlib.Core.Path.{◌≡◌, refl, sym, subst, ◌∙◌}
use mathlib.Core.Bool.{Bool, true, false}
use mathlib.Core.List.{List, [], ◌∷◌}
use mathlib.Core.Logic.{◌⊎◌, inl, inr}
use lib.Dec.{T, eqb, leb, ltb, eqb→eq, leb→le, ltb→lt}
use borrow.Author.Tests.{ne_eqb, eqb-true, eqb-false}
use Rattle.words.specs.Words.{pick}
use Rattle.opcodes.specs.Opcodes.{Row, find}

-- one of an arm's keys, as the match tells it
abbrev or_later : ℕ → List ℕ → ℕ → Type 0
or_later k [] n = n ≡ k
or_later k (j ∷ js) n = (n ≡ k) ⊎ or_later j js n

abbrev pub OneOf : List ℕ → ℕ → Type 0
OneOf [] n = ⊥
OneOf (k ∷ ks) n = or_later k ks n

abbrev pub All : (ℕ → Type 0) → List ℕ → Type 0
All P [] = Unit
All P (k ∷ ks) = P k × All P ks

-- what holds at each key of an arm holds in it
pub among : (P : ℕ → Type 0) (ks : List ℕ) (n : ℕ) → OneOf ks n → All P ks → P n
among P [] n h a = absurd h
among P (k ∷ []) n h a = subst P (sym h) a.0
among P (k ∷ j ∷ js) n (inl h) a = subst P (sym h) a.0
among P (k ∷ j ∷ js) n (inr h) a = among P (j ∷ js) n h a.1

-- none of the keys of any arm, the last arm first, as the default arm tells it
abbrev pub Missed : List (List ℕ) → ℕ → Type 0
Missed [] n = Unit
Missed (ks ∷ kss) n = Missed kss n × (OneOf ks n → ⊥)

abbrev pub elem : ℕ → List ℕ → Bool
elem k [] = false
elem k (j ∷ js) = pick (eqb k j) true (elem k js)

abbrev pub in_any : ℕ → List (List ℕ) → Bool
in_any k [] = false
in_any k (ks ∷ kss) = pick (elem k ks) true (in_any k kss)

abbrev pub all_in : {A : Type 0} → List (Row A) → List (List ℕ) → Bool
all_in [] kss = true
all_in (r ∷ rs) kss = pick (in_any r.code kss) (all_in rs kss) false

either_case : (a b : Bool) {C : Type 0} → T (pick a true b) → (T a → C) → (T b → C) → C
either_case true b t f g = f tt
either_case false b t f g = g t

and_left : (a b : Bool) → T (pick a b false) → T a
and_left true b t = tt
and_left false b t = absurd t

and_right : (a b : Bool) → T (pick a b false) → T b
and_right true b t = t
and_right false b t = absurd t

one_of_at : (n k : ℕ) (ks : List ℕ) → T (elem k ks) → n ≡ k → OneOf ks n
one_of_at n k [] t e = absurd t
one_of_at n k (j ∷ []) t e = either_case (eqb k j) false t (λ h. e ∙ eqb→eq k j h) (λ h. absurd h)
one_of_at n k (j ∷ i ∷ is) t e = either_case (eqb k j) (elem k (i ∷ is)) t (λ h. inl (e ∙ eqb→eq k j h)) (λ h. inr (one_of_at n k (i ∷ is) h e))

missed_at : (n k : ℕ) (kss : List (List ℕ)) → T (in_any k kss) → Missed kss n → n ≡ k → ⊥
missed_at n k [] t h e = absurd t
missed_at n k (ks ∷ kss) t h e = either_case (elem k ks) (in_any k kss) t (λ s. h.1 (one_of_at n k ks s e)) (λ s. missed_at n k kss s h.0 e)

-- a byte that is none of the keys has no row where every row's code is a key
pub find_none : {A : Type 0} (other : A) (n : ℕ) (rs : List (Row A)) (kss : List (List ℕ)) → T (all_in rs kss) → Missed kss n → find other n rs ≡ other
find_none other n [] kss t h = refl
find_none other n (r ∷ rs) kss t h =
    rw (ne_eqb n r.code (missed_at n r.code kss (and_left (in_any r.code kss) (all_in rs kss) t) h))
    (find_none other n rs kss (and_right (in_any r.code kss) (all_in rs kss) t) h)

-- ---- ranges: inside one a byte is one of its keys, outside none
abbrev pub from : ℕ → ℕ → List ℕ
from zero lo = []
from (suc k) lo = lo ∷ from k (suc lo)

pub within : (k lo n : ℕ) → lo ≤ n → n < lo + suc k → OneOf (from (suc k) lo) n
within zero lo n h l = let e : n ≡ lo = omega arith in e
within (suc k) lo n h l = go (within k (suc lo) n) (eqb n lo) refl
  where
    go : (suc lo ≤ n → n < suc lo + suc k → OneOf (from (suc k) (suc lo)) n) → (t : Bool) → eqb n lo ≡ t → OneOf (from (suc (suc k)) lo) n
    go more true e = inl (eqb-true n lo e)
    go more false e = let ne : n ≡ lo → ⊥ = eqb-false n lo e in inr (more (omega arith) (omega arith))

abbrev pub all_from : ℕ → List ℕ → Bool
all_from lo [] = true
all_from lo (k ∷ ks) = pick (leb lo k) (all_from lo ks) false

abbrev pub all_below : ℕ → List ℕ → Bool
all_below hi [] = true
all_below hi (k ∷ ks) = pick (ltb k hi) (all_below hi ks) false

pub below : (lo n : ℕ) (ks : List ℕ) → T (all_from lo ks) → n < lo → OneOf ks n → ⊥
below lo n [] t h e = e
below lo n (k ∷ []) t h e = let l : lo ≤ k = leb→le lo k (and_left (leb lo k) true t) in omega arith
below lo n (k ∷ j ∷ js) t h (inl e) = let l : lo ≤ k = leb→le lo k (and_left (leb lo k) (all_from lo (j ∷ js)) t) in omega arith
below lo n (k ∷ j ∷ js) t h (inr e) = below lo n (j ∷ js) (and_right (leb lo k) (all_from lo (j ∷ js)) t) h e

pub above : (hi n : ℕ) (ks : List ℕ) → T (all_below hi ks) → hi ≤ n → OneOf ks n → ⊥
above hi n [] t h e = e
above hi n (k ∷ []) t h e = let l : k < hi = ltb→lt k hi (and_left (ltb k hi) true t) in omega arith
above hi n (k ∷ j ∷ js) t h (inl e) = let l : k < hi = ltb→lt k hi (and_left (ltb k hi) (all_below hi (j ∷ js)) t) in omega arith
above hi n (k ∷ j ∷ js) t h (inr e) = above hi n (j ∷ js) (and_right (ltb k hi) (all_below hi (j ∷ js)) t) h e

-- an arm's key is not among the missed
pub not_missed : (k : ℕ) (kss : List (List ℕ)) {C : Type 0} → T (in_any k kss) → Missed kss k → C
not_missed k kss t h = absurd (missed_at k k kss t h refl)
