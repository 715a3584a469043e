-- The default arm of a match on a byte that has a key for each row of the opcode list whose track isn't `Inside`.
use Prim.Native.Nat.{ℕ}
use Rattle.opcodes.specs.declared.types.Operation.{Operation}
use Rattle.opcodes.specs.declared.types.Shape.{Shape}
use Rattle.std.proofs.Common.{Option, None}
use mathlib.Core.Path.{◌≡◌, refl, subst}
use mathlib.Core.Bool.{Bool, true, false}
use mathlib.Core.List.{List, [], ◌∷◌}
use lib.Dec.{T, eqb}
use borrow.Author.Tests.{eqb-true}
use Rattle.words.specs.Words.{pick}
use Rattle.opcodes.specs.Opcodes.{Row, find}
use Rattle.opcodes.proofs.Keys.{Missed, in_any, not_missed}
use Rattle.quick.specs.Quick.{quickened}
use Rattle.tracks.specs.Tracks.{track_by}
use Rattle.tracks.specs.declared.types.Track.{Track}
use Rattle.tracks.specs.declared.types.Track.TheVariants.{Inside, Program, Branch, ReadDirect, StoreDirect, ReadAbsolute, StoreAbsolute}

abbrev is_inside : Track → Bool
is_inside Inside = true
is_inside Program = false
is_inside Branch = false
is_inside ReadDirect = false
is_inside StoreDirect = false
is_inside ReadAbsolute = false
is_inside StoreAbsolute = false

abbrev track : Option (Shape × Operation) → Track
track q = track_by (quickened q)

-- every row's track is `Inside`, or its code is a key
abbrev pub inside_or_key : List (Row (Option (Shape × Operation))) → List (List ℕ) → Bool
inside_or_key [] kss = true
inside_or_key (r ∷ rs) kss = pick (pick (is_inside (track r.is)) true (in_any r.code kss)) (inside_or_key rs kss) false

and_left : (a b : Bool) → T (pick a b false) → T a
and_left true b t = tt
and_left false b t = absurd t

and_right : (a b : Bool) → T (pick a b false) → T b
and_right true b t = t
and_right false b t = absurd t

-- another track has a key; so what was missed is `Inside`
inside : (k : Track) (n : ℕ) (kss : List (List ℕ)) → T (pick (is_inside k) true (in_any n kss)) → Missed kss n → k ≡ Inside
inside Inside n kss t h = refl
inside Program n kss t h = not_missed n kss t h
inside Branch n kss t h = not_missed n kss t h
inside ReadDirect n kss t h = not_missed n kss t h
inside StoreDirect n kss t h = not_missed n kss t h
inside ReadAbsolute n kss t h = not_missed n kss t h
inside StoreAbsolute n kss t h = not_missed n kss t h

-- a byte that is none of the keys is `Inside`
pub inside_rest : (n : ℕ) (rs : List (Row (Option (Shape × Operation)))) (kss : List (List ℕ)) → T (inside_or_key rs kss) → Missed kss n → track (find None n rs) ≡ Inside
inside_rest n [] kss t h = refl
inside_rest n (r ∷ rs) kss t h =
    go (eqb n r.code) refl (and_left (pick (is_inside (track r.is)) true (in_any r.code kss)) (inside_or_key rs kss) t)
    (inside_rest n rs kss (and_right (pick (is_inside (track r.is)) true (in_any r.code kss)) (inside_or_key rs kss) t) h)
  where
    go : (b : Bool) → eqb n r.code ≡ b → T (pick (is_inside (track r.is)) true (in_any r.code kss)) → track (find None n rs) ≡ Inside
        → track (pick b r.is (find None n rs)) ≡ Inside
    go true e s more = inside (track r.is) r.code kss s (subst (Missed kss) (eqb-true n r.code e) h)
    go false e s more = more
