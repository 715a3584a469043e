-- MVN and MVP are the opcodes that well-formedness means by a move: 54 and 44, and no other byte.
use Prim.Native.Nat.{ℕ}
use Rattle.opcodes.specs.declared.types.Operation.{Operation}
use Rattle.std.proofs.Common.{Option, Some, None}
use mathlib.Core.Path.{◌≡◌, refl, sym, ap, ◌∙◌}
use mathlib.Core.Bool.{Bool, true, false}
use mathlib.Core.List.{List, [], ◌∷◌}
use lib.Dec.{T, eqb}
use borrow.Author.Tests.{eqb-true}
use Rattle.words.specs.Words.{pick}
use Rattle.cpu.specs.Record.{is_move}
use Rattle.opcodes.specs.Opcodes.{Row, find, one_bytes, opcodes, decode_of}
use Rattle.opcodes.specs.declared.types.Shape.{Shape}
use Rattle.opcodes.specs.declared.types.Shape.TheVariants as shape
use Rattle.sheet.proofs.Walk.{false_true}

abbrev pub moving : Shape → Bool
moving shape.Immediate = false
moving shape.Absolute = false
moving shape.Direct = false
moving shape.StoreAbsolute = false
moving shape.StoreDirect = false
moving shape.Implied = false
moving shape.Xba = false
moving shape.Mask = false
moving shape.Wdm = false
moving shape.Push = false
moving shape.Pull = false
moving shape.PullP = false
moving shape.PullB = false
moving shape.PullD = false
moving shape.Pea = false
moving shape.Pei = false
moving shape.Per = false
moving shape.Jump = false
moving shape.JumpLong = false
moving shape.JumpIndirect = false
moving shape.JumpIndirectLong = false
moving shape.JumpIndexed = false
moving shape.Call = false
moving shape.CallIndexed = false
moving shape.CallLong = false
moving shape.Return = false
moving shape.ReturnLong = false
moving shape.Branch = false
moving shape.BranchLong = false
moving shape.Move = true

abbrev pub is_moving : Option (Shape × Operation) → Bool
is_moving None = false
is_moving (Some (s, o)) = moving s

-- every row but those two is no move
abbrev others : List (Row (Option (Shape × Operation))) → Bool
others [] = true
others (r ∷ rs) = pick (is_move r.code) (others rs) (pick (is_moving r.is) false (others rs))

none_else : (n : ℕ) (rs : List (Row (Option (Shape × Operation)))) → T (others rs) → is_move n ≡ false → is_moving (find None n rs) ≡ false
none_else n [] t h = refl
none_else n (r ∷ rs) t h = go (eqb n r.code) (is_move r.code) (is_moving r.is) refl refl refl (none_else n rs) t
  where
    go : (e m v : Bool) → eqb n r.code ≡ e → is_move r.code ≡ m → is_moving r.is ≡ v → (T (others rs) → is_move n ≡ false → is_moving (find None n rs) ≡ false)
        → T (pick m (others rs) (pick v false (others rs))) → is_moving (pick e r.is (find None n rs)) ≡ false
    go true true v i j k more t = absurd (false_true (sym h ∙ ap is_move (eqb-true n r.code i) ∙ j))
    go true false false i j k more t = k
    go true false true i j k more t = absurd t
    go false true v i j k more t = more t h
    go false false false i j k more t = more t h
    go false false true i j k more t = absurd t

pub is_move_lem : (n : ℕ) → is_move n ≡ is_moving (decode_of n)
unfolding decode_of opcodes one_bytes
is_move_lem n = go (eqb n 0x54) (eqb n 0x44) refl refl
  where
    go : (a c : Bool) → eqb n 0x54 ≡ a → eqb n 0x44 ≡ c → is_move n ≡ is_moving (decode_of n)
    go true c i j = rw (eqb-true n 0x54 i)
    go false true i j = rw (eqb-true n 0x44 j)
    go false false i j = let no : is_move n ≡ false = rw (i, j) in no ∙ sym (none_else n opcodes tt no)
