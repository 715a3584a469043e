-- A byte is listed exactly where its shape's number isn't 0.
use mathlib.Core.Path.{◌≡◌, refl}
use Rattle.opcodes.specs.declared.types.Operation.{Operation}
use Rattle.std.proofs.Common.{Option, Some, None}
use mathlib.Core.Bool.{true, not}
use lib.Dec.{eqb}
use Rattle.opcodes.specs.Opcodes.{is_listed}
use Rattle.opcodes.specs.declared.types.Shape.{Shape}
use Rattle.opcodes.specs.declared.types.Shape.TheVariants.{Immediate, Absolute, Direct, StoreAbsolute, StoreDirect, Implied, Xba, Mask, Wdm, Push, Pull, PullP, PullB, PullD, Pea, Pei, Per, Jump, JumpLong, JumpIndirect, JumpIndirectLong, JumpIndexed, Call, CallIndexed, CallLong, Return, ReturnLong, Branch, BranchLong, Move}
use Rattle.shapes.specs.Shapes.{shape_number, number_of_shape}

shape_not_0 : (s : Shape) → not (eqb (number_of_shape s) 0) ≡ true
shape_not_0 Immediate = refl
shape_not_0 Absolute = refl
shape_not_0 Direct = refl
shape_not_0 StoreAbsolute = refl
shape_not_0 StoreDirect = refl
shape_not_0 Implied = refl
shape_not_0 Xba = refl
shape_not_0 Mask = refl
shape_not_0 Wdm = refl
shape_not_0 Push = refl
shape_not_0 Pull = refl
shape_not_0 PullP = refl
shape_not_0 PullB = refl
shape_not_0 PullD = refl
shape_not_0 Pea = refl
shape_not_0 Pei = refl
shape_not_0 Per = refl
shape_not_0 Jump = refl
shape_not_0 JumpLong = refl
shape_not_0 JumpIndirect = refl
shape_not_0 JumpIndirectLong = refl
shape_not_0 JumpIndexed = refl
shape_not_0 Call = refl
shape_not_0 CallIndexed = refl
shape_not_0 CallLong = refl
shape_not_0 Return = refl
shape_not_0 ReturnLong = refl
shape_not_0 Branch = refl
shape_not_0 BranchLong = refl
shape_not_0 Move = refl

pub number_lists : (p : Option (Shape × Operation)) → not (eqb (shape_number p) 0) ≡ is_listed p
number_lists None = refl
number_lists (Some (s, o)) = shape_not_0 s
