-- The table of shapes agrees with the opcode list.
use Prim.Native.Nat.{ℕ, ◌<◌}
use Rattle.opcodes.specs.declared.types.Operation.{Operation}
use Rattle.std.proofs.Common.{Option, Some, None}
use native.Mathlib.Omega.{arith}
use mathlib.Core.Path.{◌≡◌}
use mathlib.Core.Bool.{Bool}
use mathlib.Core.List.{List, [], ◌∷◌}
use lib.Dec.{eqb, eqb→eq}
use lib.ListN.{get_or}
use Rattle.opcodes.specs.Opcodes.{decode_of, opcodes, one_bytes}
use Rattle.opcodes.specs.declared.types.Shape.{Shape}
use Rattle.opcodes.specs.declared.types.Shape.TheVariants.{Immediate, Absolute, Direct, StoreAbsolute, StoreDirect, Implied, Xba, Mask, Wdm, Push, Pull, PullP, PullB, PullD, Pea, Pei, Per, Jump, JumpLong, JumpIndirect, JumpIndirectLong, JumpIndexed, Call, CallIndexed, CallLong, Return, ReturnLong, Branch, BranchLong, Move}
use Rattle.shapes.specs.Shapes.{shape_number, number_of_shape}
use Rattle.shapes.proofs.Every.{at}

abbrev pub shapes : List ℕ
shapes =
    0 ∷ 0 ∷ 0 ∷ 0 ∷ 0 ∷ 3 ∷ 0 ∷ 0 ∷ 10 ∷ 1 ∷ 6 ∷ 10 ∷ 0 ∷ 2 ∷ 0 ∷ 0 ∷ 28 ∷ 0 ∷ 0 ∷ 0 ∷ 0 ∷ 0 ∷ 0 ∷ 0 ∷ 6 ∷ 0 ∷ 6 ∷ 6 ∷ 0 ∷ 0 ∷ 0 ∷ 0 ∷
    23 ∷ 0 ∷ 25 ∷ 0 ∷ 3 ∷ 3 ∷ 0 ∷ 0 ∷ 12 ∷ 1 ∷ 6 ∷ 14 ∷ 2 ∷ 2 ∷ 0 ∷ 0 ∷ 28 ∷ 0 ∷ 0 ∷ 0 ∷ 0 ∷ 0 ∷ 0 ∷ 0 ∷ 6 ∷ 0 ∷ 6 ∷ 6 ∷ 0 ∷ 0 ∷ 0 ∷ 0 ∷
    0 ∷ 0 ∷ 9 ∷ 0 ∷ 30 ∷ 3 ∷ 0 ∷ 0 ∷ 10 ∷ 1 ∷ 6 ∷ 10 ∷ 18 ∷ 2 ∷ 0 ∷ 0 ∷ 28 ∷ 0 ∷ 0 ∷ 0 ∷ 30 ∷ 0 ∷ 0 ∷ 0 ∷ 6 ∷ 0 ∷ 10 ∷ 6 ∷ 19 ∷ 0 ∷ 0 ∷ 0 ∷
    26 ∷ 0 ∷ 17 ∷ 0 ∷ 5 ∷ 3 ∷ 0 ∷ 0 ∷ 11 ∷ 1 ∷ 6 ∷ 27 ∷ 20 ∷ 2 ∷ 0 ∷ 0 ∷ 28 ∷ 0 ∷ 0 ∷ 0 ∷ 0 ∷ 0 ∷ 0 ∷ 0 ∷ 6 ∷ 0 ∷ 11 ∷ 6 ∷ 22 ∷ 0 ∷ 0 ∷ 0 ∷
    28 ∷ 0 ∷ 29 ∷ 0 ∷ 5 ∷ 5 ∷ 5 ∷ 0 ∷ 6 ∷ 1 ∷ 6 ∷ 10 ∷ 4 ∷ 4 ∷ 4 ∷ 0 ∷ 28 ∷ 0 ∷ 0 ∷ 0 ∷ 0 ∷ 0 ∷ 0 ∷ 0 ∷ 6 ∷ 0 ∷ 6 ∷ 6 ∷ 4 ∷ 0 ∷ 0 ∷ 0 ∷
    1 ∷ 0 ∷ 1 ∷ 0 ∷ 3 ∷ 3 ∷ 3 ∷ 0 ∷ 6 ∷ 1 ∷ 6 ∷ 13 ∷ 2 ∷ 2 ∷ 2 ∷ 0 ∷ 28 ∷ 0 ∷ 0 ∷ 0 ∷ 0 ∷ 0 ∷ 0 ∷ 0 ∷ 6 ∷ 0 ∷ 6 ∷ 6 ∷ 0 ∷ 0 ∷ 0 ∷ 0 ∷
    1 ∷ 0 ∷ 8 ∷ 0 ∷ 3 ∷ 3 ∷ 0 ∷ 0 ∷ 6 ∷ 1 ∷ 6 ∷ 0 ∷ 2 ∷ 2 ∷ 0 ∷ 0 ∷ 28 ∷ 0 ∷ 0 ∷ 0 ∷ 16 ∷ 0 ∷ 0 ∷ 0 ∷ 6 ∷ 0 ∷ 10 ∷ 0 ∷ 21 ∷ 0 ∷ 0 ∷ 0 ∷
    1 ∷ 0 ∷ 8 ∷ 0 ∷ 3 ∷ 3 ∷ 0 ∷ 0 ∷ 6 ∷ 1 ∷ 6 ∷ 7 ∷ 2 ∷ 2 ∷ 0 ∷ 0 ∷ 28 ∷ 0 ∷ 0 ∷ 0 ∷ 15 ∷ 0 ∷ 0 ∷ 0 ∷ 6 ∷ 0 ∷ 11 ∷ 6 ∷ 24 ∷ 0 ∷ 0 ∷ 0 ∷ []

abbrev right : ℕ → ℕ → Bool
right k x = eqb x (shape_number (decode_of k))

-- The test over the 256 entries, and what it says of each byte.
pub shapes_table : (k : ℕ) → k < 256 → get_or shapes k 0 ≡ shape_number (decode_of k)
unfolding decode_of opcodes one_bytes
shapes_table k h = eqb→eq (get_or shapes k 0) (shape_number (decode_of k)) (at right shapes tt k h)

shape_small : (s : Shape) → number_of_shape s < 31
shape_small Immediate = omega arith
shape_small Absolute = omega arith
shape_small Direct = omega arith
shape_small StoreAbsolute = omega arith
shape_small StoreDirect = omega arith
shape_small Implied = omega arith
shape_small Xba = omega arith
shape_small Mask = omega arith
shape_small Wdm = omega arith
shape_small Push = omega arith
shape_small Pull = omega arith
shape_small PullP = omega arith
shape_small PullB = omega arith
shape_small PullD = omega arith
shape_small Pea = omega arith
shape_small Pei = omega arith
shape_small Per = omega arith
shape_small Jump = omega arith
shape_small JumpLong = omega arith
shape_small JumpIndirect = omega arith
shape_small JumpIndirectLong = omega arith
shape_small JumpIndexed = omega arith
shape_small Call = omega arith
shape_small CallIndexed = omega arith
shape_small CallLong = omega arith
shape_small Return = omega arith
shape_small ReturnLong = omega arith
shape_small Branch = omega arith
shape_small BranchLong = omega arith
shape_small Move = omega arith

pub number_small : (p : Option (Shape × Operation)) → shape_number p < 31
number_small None = omega arith
number_small (Some (s, o)) = shape_small s
