-- The default arm of a match on a byte that has an arm for each quick row of the opcode list, and for no other.
use Prim.Native.Nat.{ℕ}
use Rattle.opcodes.specs.declared.types.Operation.{Operation}
use Rattle.opcodes.specs.declared.types.Shape.{Shape}
use Rattle.std.proofs.Common.{Option, None}
use mathlib.Core.Path.{◌≡◌, refl, subst}
use mathlib.Core.Bool.{Bool, true, false}
use mathlib.Core.List.{List, [], ◌∷◌}
use lib.Dec.{T, eqb}
use borrow.Author.Tests.{eqb-true}
use Rattle.words.specs.Words.{pick}
use Rattle.opcodes.specs.Opcodes.{Row, find}
use Rattle.opcodes.proofs.Keys.{Missed, in_any, not_missed}
use Rattle.quick.specs.Quick.{quickened}
use Rattle.quick.specs.declared.types.Quick.{Quick}
use Rattle.quick.specs.declared.types.Quick.TheVariants.{Slow, Read, Store, Do, If, Jump}

abbrev is_slow : Quick → Bool
is_slow Slow = true
is_slow (Read m k r) = false
is_slow (Store m k) = false
is_slow (Do k) = false
is_slow (If k t) = false
is_slow Jump = false

-- every row is slow, or its code is a key
abbrev pub slow_or_key : List (Row (Option (Shape × Operation))) → List (List ℕ) → Bool
slow_or_key [] kss = true
slow_or_key (r ∷ rs) kss = pick (pick (is_slow (quickened r.is)) true (in_any r.code kss)) (slow_or_key rs kss) false

and_left : (a b : Bool) → T (pick a b false) → T a
and_left true b t = tt
and_left false b t = absurd t

and_right : (a b : Bool) → T (pick a b false) → T b
and_right true b t = t
and_right false b t = absurd t

-- what is quick has a key; so what was missed is slow
slow : (q : Quick) (n : ℕ) (kss : List (List ℕ)) → T (pick (is_slow q) true (in_any n kss)) → Missed kss n → q ≡ Slow
slow Slow n kss t h = refl
slow (Read m k r) n kss t h = not_missed n kss t h
slow (Store m k) n kss t h = not_missed n kss t h
slow (Do k) n kss t h = not_missed n kss t h
slow (If k t') n kss t h = not_missed n kss t h
slow Jump n kss t h = not_missed n kss t h

-- a byte that is none of the keys is slow
pub slow_rest : (n : ℕ) (rs : List (Row (Option (Shape × Operation)))) (kss : List (List ℕ)) → T (slow_or_key rs kss) → Missed kss n → quickened (find None n rs) ≡ Slow
slow_rest n [] kss t h = refl
slow_rest n (r ∷ rs) kss t h =
    go (eqb n r.code) refl (and_left (pick (is_slow (quickened r.is)) true (in_any r.code kss)) (slow_or_key rs kss) t)
    (slow_rest n rs kss (and_right (pick (is_slow (quickened r.is)) true (in_any r.code kss)) (slow_or_key rs kss) t) h)
  where
    go : (b : Bool) → eqb n r.code ≡ b → T (pick (is_slow (quickened r.is)) true (in_any r.code kss)) → quickened (find None n rs) ≡ Slow
        → quickened (pick b r.is (find None n rs)) ≡ Slow
    go true e s more = slow (quickened r.is) r.code kss s (subst (Missed kss) (eqb-true n r.code e) h)
    go false e s more = more
