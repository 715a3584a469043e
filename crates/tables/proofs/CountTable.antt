-- The table of counts and lengths agrees with document 01's.
use Prim.Native.Nat.{ℕ, zero, suc, ◌+◌, ◌*◌, ◌≤◌, ◌<◌}
use Rattle.opcodes.specs.declared.types.Operation.{Operation}
use Rattle.std.proofs.Common.{Option, Some, None}
use native.Mathlib.Omega.{arith}
use native.Mathlib.Nat.{le_of_suc-le-suc, not-suc-le-zero}
use mathlib.Core.Path.{◌≡◌, refl}
use mathlib.Core.Bool.{Bool, true, false}
use mathlib.Core.List.{List, [], ◌∷◌}
use lib.ListN.{get_or}
use Rattle.words.specs.Words.{pick}
use Rattle.flags.specs.declared.Flags.{Flags}
use Rattle.opcodes.specs.Opcodes.{wide_of}
use Rattle.opcodes.specs.declared.types.Shape.{Shape}
use Rattle.opcodes.specs.declared.types.Shape.TheVariants.{Immediate, Absolute, Direct, StoreAbsolute, StoreDirect, Implied, Xba, Mask, Wdm, Push, Pull, PullP, PullB, PullD, Pea, Pei, Per, Jump, JumpLong, JumpIndirect, JumpIndirectLong, JumpIndexed, Call, CallIndexed, CallLong, Return, ReturnLong, Branch, BranchLong, Move}
use Rattle.cycles.specs.Cycles.{unaligned}
use Rattle.sheet.specs.Counts.{count_of, length_of}
use Rattle.shapes.specs.Shapes.{shape_number}
use Rattle.tables.specs.Counts.{base_of, wider_of, later_of, bytes_of, longer_of, column_at, wide_at, count_at, length_at}

abbrev pub counts : List (List ℕ)
counts =
    (0 ∷ 0 ∷ 0 ∷ 0 ∷ 0 ∷ []) ∷
    (2 ∷ 1 ∷ 0 ∷ 2 ∷ 1 ∷ []) ∷
    (4 ∷ 1 ∷ 0 ∷ 3 ∷ 0 ∷ []) ∷
    (3 ∷ 1 ∷ 1 ∷ 2 ∷ 0 ∷ []) ∷
    (4 ∷ 1 ∷ 0 ∷ 3 ∷ 0 ∷ []) ∷
    (3 ∷ 1 ∷ 1 ∷ 2 ∷ 0 ∷ []) ∷
    (2 ∷ 0 ∷ 0 ∷ 1 ∷ 0 ∷ []) ∷
    (3 ∷ 0 ∷ 0 ∷ 1 ∷ 0 ∷ []) ∷
    (3 ∷ 0 ∷ 0 ∷ 2 ∷ 0 ∷ []) ∷
    (2 ∷ 0 ∷ 0 ∷ 2 ∷ 0 ∷ []) ∷
    (3 ∷ 1 ∷ 0 ∷ 1 ∷ 0 ∷ []) ∷
    (4 ∷ 1 ∷ 0 ∷ 1 ∷ 0 ∷ []) ∷
    (4 ∷ 0 ∷ 0 ∷ 1 ∷ 0 ∷ []) ∷
    (4 ∷ 0 ∷ 0 ∷ 1 ∷ 0 ∷ []) ∷
    (5 ∷ 0 ∷ 0 ∷ 1 ∷ 0 ∷ []) ∷
    (5 ∷ 0 ∷ 0 ∷ 3 ∷ 0 ∷ []) ∷
    (6 ∷ 0 ∷ 1 ∷ 2 ∷ 0 ∷ []) ∷
    (6 ∷ 0 ∷ 0 ∷ 3 ∷ 0 ∷ []) ∷
    (3 ∷ 0 ∷ 0 ∷ 3 ∷ 0 ∷ []) ∷
    (4 ∷ 0 ∷ 0 ∷ 4 ∷ 0 ∷ []) ∷
    (5 ∷ 0 ∷ 0 ∷ 3 ∷ 0 ∷ []) ∷
    (6 ∷ 0 ∷ 0 ∷ 3 ∷ 0 ∷ []) ∷
    (6 ∷ 0 ∷ 0 ∷ 3 ∷ 0 ∷ []) ∷
    (6 ∷ 0 ∷ 0 ∷ 3 ∷ 0 ∷ []) ∷
    (8 ∷ 0 ∷ 0 ∷ 3 ∷ 0 ∷ []) ∷
    (8 ∷ 0 ∷ 0 ∷ 4 ∷ 0 ∷ []) ∷
    (6 ∷ 0 ∷ 0 ∷ 1 ∷ 0 ∷ []) ∷
    (6 ∷ 0 ∷ 0 ∷ 1 ∷ 0 ∷ []) ∷
    (2 ∷ 0 ∷ 0 ∷ 2 ∷ 0 ∷ []) ∷
    (4 ∷ 0 ∷ 0 ∷ 3 ∷ 0 ∷ []) ∷
    (7 ∷ 0 ∷ 0 ∷ 3 ∷ 0 ∷ []) ∷ []

-- what holds of each of the five columns
five : (P : ℕ → Type 0) → P 0 → P 1 → P 2 → P 3 → P 4 → (k : ℕ) → k < 5 → P k
five P a b c d e zero h = a
five P a b c d e (suc zero) h = b
five P a b c d e (suc (suc zero)) h = c
five P a b c d e (suc (suc (suc zero))) h = d
five P a b c d e (suc (suc (suc (suc zero)))) h = e
five P a b c d e (suc (suc (suc (suc (suc k))))) h =
    absurd (not-suc-le-zero (le_of_suc-le-suc (le_of_suc-le-suc (le_of_suc-le-suc (le_of_suc-le-suc (le_of_suc-le-suc h))))))

abbrev Entry : Option (Shape × Operation) → ℕ → Type 0
Entry p k = (get_or (get_or counts (shape_number p) []) k 0 ≡ column_at k p) × (get_or (get_or counts (shape_number p) []) k 0 ≤ 8)

-- An entry of the table is its column's number, and is no more than 8.
pub entry_table : (p : Option (Shape × Operation)) (k : ℕ) → k < 5 → Entry p k
entry_table None = five (Entry None) (refl, omega arith) (refl, omega arith) (refl, omega arith) (refl, omega arith) (refl, omega arith)
entry_table (Some (Immediate, o)) = five (Entry (Some (Immediate, o))) (refl, omega arith) (refl, omega arith) (refl, omega arith) (refl, omega arith) (refl, omega arith)
entry_table (Some (Absolute, o)) = five (Entry (Some (Absolute, o))) (refl, omega arith) (refl, omega arith) (refl, omega arith) (refl, omega arith) (refl, omega arith)
entry_table (Some (Direct, o)) = five (Entry (Some (Direct, o))) (refl, omega arith) (refl, omega arith) (refl, omega arith) (refl, omega arith) (refl, omega arith)
entry_table (Some (StoreAbsolute, o)) = five (Entry (Some (StoreAbsolute, o))) (refl, omega arith) (refl, omega arith) (refl, omega arith) (refl, omega arith) (refl, omega arith)
entry_table (Some (StoreDirect, o)) = five (Entry (Some (StoreDirect, o))) (refl, omega arith) (refl, omega arith) (refl, omega arith) (refl, omega arith) (refl, omega arith)
entry_table (Some (Implied, o)) = five (Entry (Some (Implied, o))) (refl, omega arith) (refl, omega arith) (refl, omega arith) (refl, omega arith) (refl, omega arith)
entry_table (Some (Xba, o)) = five (Entry (Some (Xba, o))) (refl, omega arith) (refl, omega arith) (refl, omega arith) (refl, omega arith) (refl, omega arith)
entry_table (Some (Mask, o)) = five (Entry (Some (Mask, o))) (refl, omega arith) (refl, omega arith) (refl, omega arith) (refl, omega arith) (refl, omega arith)
entry_table (Some (Wdm, o)) = five (Entry (Some (Wdm, o))) (refl, omega arith) (refl, omega arith) (refl, omega arith) (refl, omega arith) (refl, omega arith)
entry_table (Some (Push, o)) = five (Entry (Some (Push, o))) (refl, omega arith) (refl, omega arith) (refl, omega arith) (refl, omega arith) (refl, omega arith)
entry_table (Some (Pull, o)) = five (Entry (Some (Pull, o))) (refl, omega arith) (refl, omega arith) (refl, omega arith) (refl, omega arith) (refl, omega arith)
entry_table (Some (PullP, o)) = five (Entry (Some (PullP, o))) (refl, omega arith) (refl, omega arith) (refl, omega arith) (refl, omega arith) (refl, omega arith)
entry_table (Some (PullB, o)) = five (Entry (Some (PullB, o))) (refl, omega arith) (refl, omega arith) (refl, omega arith) (refl, omega arith) (refl, omega arith)
entry_table (Some (PullD, o)) = five (Entry (Some (PullD, o))) (refl, omega arith) (refl, omega arith) (refl, omega arith) (refl, omega arith) (refl, omega arith)
entry_table (Some (Pea, o)) = five (Entry (Some (Pea, o))) (refl, omega arith) (refl, omega arith) (refl, omega arith) (refl, omega arith) (refl, omega arith)
entry_table (Some (Pei, o)) = five (Entry (Some (Pei, o))) (refl, omega arith) (refl, omega arith) (refl, omega arith) (refl, omega arith) (refl, omega arith)
entry_table (Some (Per, o)) = five (Entry (Some (Per, o))) (refl, omega arith) (refl, omega arith) (refl, omega arith) (refl, omega arith) (refl, omega arith)
entry_table (Some (Jump, o)) = five (Entry (Some (Jump, o))) (refl, omega arith) (refl, omega arith) (refl, omega arith) (refl, omega arith) (refl, omega arith)
entry_table (Some (JumpLong, o)) = five (Entry (Some (JumpLong, o))) (refl, omega arith) (refl, omega arith) (refl, omega arith) (refl, omega arith) (refl, omega arith)
entry_table (Some (JumpIndirect, o)) = five (Entry (Some (JumpIndirect, o))) (refl, omega arith) (refl, omega arith) (refl, omega arith) (refl, omega arith) (refl, omega arith)
entry_table (Some (JumpIndirectLong, o)) = five (Entry (Some (JumpIndirectLong, o))) (refl, omega arith) (refl, omega arith) (refl, omega arith) (refl, omega arith) (refl, omega arith)
entry_table (Some (JumpIndexed, o)) = five (Entry (Some (JumpIndexed, o))) (refl, omega arith) (refl, omega arith) (refl, omega arith) (refl, omega arith) (refl, omega arith)
entry_table (Some (Call, o)) = five (Entry (Some (Call, o))) (refl, omega arith) (refl, omega arith) (refl, omega arith) (refl, omega arith) (refl, omega arith)
entry_table (Some (CallIndexed, o)) = five (Entry (Some (CallIndexed, o))) (refl, omega arith) (refl, omega arith) (refl, omega arith) (refl, omega arith) (refl, omega arith)
entry_table (Some (CallLong, o)) = five (Entry (Some (CallLong, o))) (refl, omega arith) (refl, omega arith) (refl, omega arith) (refl, omega arith) (refl, omega arith)
entry_table (Some (Return, o)) = five (Entry (Some (Return, o))) (refl, omega arith) (refl, omega arith) (refl, omega arith) (refl, omega arith) (refl, omega arith)
entry_table (Some (ReturnLong, o)) = five (Entry (Some (ReturnLong, o))) (refl, omega arith) (refl, omega arith) (refl, omega arith) (refl, omega arith) (refl, omega arith)
entry_table (Some (Branch, o)) = five (Entry (Some (Branch, o))) (refl, omega arith) (refl, omega arith) (refl, omega arith) (refl, omega arith) (refl, omega arith)
entry_table (Some (BranchLong, o)) = five (Entry (Some (BranchLong, o))) (refl, omega arith) (refl, omega arith) (refl, omega arith) (refl, omega arith) (refl, omega arith)
entry_table (Some (Move, o)) = five (Entry (Some (Move, o))) (refl, omega arith) (refl, omega arith) (refl, omega arith) (refl, omega arith) (refl, omega arith)

nothing : (t : Bool) → ◌≡◌ {A = ℕ} (pick t 0 0) 0
nothing true = refl
nothing false = refl

-- The sums with w and d are the counts of document 01, a branch's when it isn't taken.
pub counts_table : (s : Shape) (w d e : Bool) → base_of s + pick w (wider_of s) 0 + pick d (later_of s) 0 ≡ count_of s w d e false false
counts_table Immediate true d e = rw (nothing d)
counts_table Immediate false d e = rw (nothing d)
counts_table Absolute true d e = rw (nothing d)
counts_table Absolute false d e = rw (nothing d)
counts_table Direct true true e = refl
counts_table Direct true false e = refl
counts_table Direct false true e = refl
counts_table Direct false false e = refl
counts_table StoreAbsolute true d e = rw (nothing d)
counts_table StoreAbsolute false d e = rw (nothing d)
counts_table StoreDirect true true e = refl
counts_table StoreDirect true false e = refl
counts_table StoreDirect false true e = refl
counts_table StoreDirect false false e = refl
counts_table Implied w d e = rw (nothing w, nothing d)
counts_table Xba w d e = rw (nothing w, nothing d)
counts_table Mask w d e = rw (nothing w, nothing d)
counts_table Wdm w d e = rw (nothing w, nothing d)
counts_table Push true d e = rw (nothing d)
counts_table Push false d e = rw (nothing d)
counts_table Pull true d e = rw (nothing d)
counts_table Pull false d e = rw (nothing d)
counts_table PullP w d e = rw (nothing w, nothing d)
counts_table PullB w d e = rw (nothing w, nothing d)
counts_table PullD w d e = rw (nothing w, nothing d)
counts_table Pea w d e = rw (nothing w, nothing d)
counts_table Pei w true e = rw (nothing w)
counts_table Pei w false e = rw (nothing w)
counts_table Per w d e = rw (nothing w, nothing d)
counts_table Jump w d e = rw (nothing w, nothing d)
counts_table JumpLong w d e = rw (nothing w, nothing d)
counts_table JumpIndirect w d e = rw (nothing w, nothing d)
counts_table JumpIndirectLong w d e = rw (nothing w, nothing d)
counts_table JumpIndexed w d e = rw (nothing w, nothing d)
counts_table Call w d e = rw (nothing w, nothing d)
counts_table CallIndexed w d e = rw (nothing w, nothing d)
counts_table CallLong w d e = rw (nothing w, nothing d)
counts_table Return w d e = rw (nothing w, nothing d)
counts_table ReturnLong w d e = rw (nothing w, nothing d)
counts_table Branch w d e = rw (nothing w, nothing d)
counts_table BranchLong w d e = rw (nothing w, nothing d)
counts_table Move w d e = rw (nothing w, nothing d)

-- The sums with w are the lengths.
pub lengths_table : (s : Shape) (w : Bool) → bytes_of s + pick w (longer_of s) 0 ≡ length_of s w
lengths_table Immediate true = refl
lengths_table Immediate false = refl
lengths_table Absolute w = rw (nothing w)
lengths_table Direct w = rw (nothing w)
lengths_table StoreAbsolute w = rw (nothing w)
lengths_table StoreDirect w = rw (nothing w)
lengths_table Implied w = rw (nothing w)
lengths_table Xba w = rw (nothing w)
lengths_table Mask w = rw (nothing w)
lengths_table Wdm w = rw (nothing w)
lengths_table Push w = rw (nothing w)
lengths_table Pull w = rw (nothing w)
lengths_table PullP w = rw (nothing w)
lengths_table PullB w = rw (nothing w)
lengths_table PullD w = rw (nothing w)
lengths_table Pea w = rw (nothing w)
lengths_table Pei w = rw (nothing w)
lengths_table Per w = rw (nothing w)
lengths_table Jump w = rw (nothing w)
lengths_table JumpLong w = rw (nothing w)
lengths_table JumpIndirect w = rw (nothing w)
lengths_table JumpIndirectLong w = rw (nothing w)
lengths_table JumpIndexed w = rw (nothing w)
lengths_table Call w = rw (nothing w)
lengths_table CallIndexed w = rw (nothing w)
lengths_table CallLong w = rw (nothing w)
lengths_table Return w = rw (nothing w)
lengths_table ReturnLong w = rw (nothing w)
lengths_table Branch w = rw (nothing w)
lengths_table BranchLong w = rw (nothing w)
lengths_table Move w = rw (nothing w)

-- So for each byte.
pub count_law : (p : Option (Shape × Operation)) (f : Flags) (d : ℕ)
    → column_at 0 p + pick (wide_at p f) (column_at 1 p) 0 + pick (unaligned d) (column_at 2 p) 0 ≡ count_at p f d
count_law None f d = rw (nothing (unaligned d))
count_law (Some (s, o)) f d = counts_table s (wide_of o f.memsel f.indexsel) (unaligned d) f.emulation

pub length_law : (p : Option (Shape × Operation)) (f : Flags) → column_at 3 p + pick (wide_at p f) (column_at 4 p) 0 ≡ length_at p f
length_law None f = refl
length_law (Some (s, o)) f = lengths_table s (wide_of o f.memsel f.indexsel)
