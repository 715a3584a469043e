-- The number of a shape, in the order of the enum Shape; 0 stands for a byte that isn't listed.
use Rattle.std.specs.Prelude.{ℕ, Option, Some, None}
use Rattle.opcodes.specs.declared.types.Operation.{Operation}
use Rattle.opcodes.specs.declared.types.Shape.{Shape}
use Rattle.opcodes.specs.declared.types.Shape.TheVariants.{Immediate, Absolute, Direct, StoreAbsolute, StoreDirect, Implied, Xba, Mask, Wdm, Push, Pull, PullP, PullB, PullD, Pea, Pei, Per, Jump, JumpLong, JumpIndirect, JumpIndirectLong, JumpIndexed, Call, CallIndexed, CallLong, Return, ReturnLong, Branch, BranchLong, Move}

abbrev pub number_of_shape : Shape → ℕ
number_of_shape Immediate = 1
number_of_shape Absolute = 2
number_of_shape Direct = 3
number_of_shape StoreAbsolute = 4
number_of_shape StoreDirect = 5
number_of_shape Implied = 6
number_of_shape Xba = 7
number_of_shape Mask = 8
number_of_shape Wdm = 9
number_of_shape Push = 10
number_of_shape Pull = 11
number_of_shape PullP = 12
number_of_shape PullB = 13
number_of_shape PullD = 14
number_of_shape Pea = 15
number_of_shape Pei = 16
number_of_shape Per = 17
number_of_shape Jump = 18
number_of_shape JumpLong = 19
number_of_shape JumpIndirect = 20
number_of_shape JumpIndirectLong = 21
number_of_shape JumpIndexed = 22
number_of_shape Call = 23
number_of_shape CallIndexed = 24
number_of_shape CallLong = 25
number_of_shape Return = 26
number_of_shape ReturnLong = 27
number_of_shape Branch = 28
number_of_shape BranchLong = 29
number_of_shape Move = 30

abbrev pub shape_number : Option (Shape × Operation) → ℕ
shape_number None = 0
shape_number (Some (s, o)) = number_of_shape s
