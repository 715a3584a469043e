-- The quick opcodes: those whose shape is an operand, a store, one byte but XBA, a branch, or the jump JMP a.
use Rattle.std.specs.Prelude.{ℕ, Bool, true, Option, Some, None}
use Rattle.opcodes.specs.declared.types.Operation.{Operation}
use Rattle.opcodes.specs.declared.types.Shape.{Shape}
use Rattle.flags.specs.declared.Flags.{Flags}
use Rattle.cpu.specs.Record.{same}
use Rattle.cpu.specs.declared.types.Cond.{Cond}
use Rattle.cpu.specs.declared.types.Cond.TheVariants as if
use Rattle.opcodes.specs.Opcodes.{decode_of, alu_of, reg_of, source_in, one_in, cond_in}
use Rattle.opcodes.specs.declared.types.Shape.TheVariants as shape
use Rattle.quick.specs.declared.types.Mode.TheVariants.{Immediate, Direct, Absolute}
use Rattle.quick.specs.declared.types.Test.{Test}
use Rattle.quick.specs.declared.types.Test.TheVariants as test
use Rattle.quick.specs.declared.types.Quick.{Quick}
use Rattle.quick.specs.declared.types.Quick.TheVariants.{Slow, Read, Store, Do, If, Jump}

-- a branch's condition in its parts, and whether these let it be taken
abbrev pub test_in : Cond → Test
test_in if.Always = test.Always
test_in (if.Carry t) = test.Carry
test_in (if.Zero t) = test.Zero
test_in (if.Negative t) = test.Negative
test_in (if.Overflow t) = test.Overflow

abbrev pub want_in : Cond → Bool
want_in if.Always = true
want_in (if.Carry t) = t
want_in (if.Zero t) = t
want_in (if.Negative t) = t
want_in (if.Overflow t) = t

abbrev pub goes : Test → (want : Bool) → Flags → Bool
goes test.Always t f = true
goes test.Carry t f = same t f.carry
goes test.Zero t f = same t f.zero
goes test.Negative t f = same t f.negative
goes test.Overflow t f = same t f.overflow

-- an opcode by its shape, on the quick path
abbrev pub quickened : Option (Shape × Operation) → Quick
quickened None = Slow
quickened (Some (shape.Immediate, o)) = Read Immediate (alu_of o) (reg_of o)
quickened (Some (shape.Direct, o)) = Read Direct (alu_of o) (reg_of o)
quickened (Some (shape.Absolute, o)) = Read Absolute (alu_of o) (reg_of o)
quickened (Some (shape.StoreDirect, o)) = Store Direct (source_in o)
quickened (Some (shape.StoreAbsolute, o)) = Store Absolute (source_in o)
quickened (Some (shape.Implied, o)) = Do (one_in o)
quickened (Some (shape.Branch, o)) = If (test_in (cond_in o)) (want_in (cond_in o))
quickened (Some (shape.Jump, o)) = Jump
quickened (Some (shape.Move, o)) = Slow
quickened (Some (shape.Xba, o)) = Slow
quickened (Some (shape.Mask, o)) = Slow
quickened (Some (shape.Wdm, o)) = Slow
quickened (Some (shape.Push, o)) = Slow
quickened (Some (shape.Pull, o)) = Slow
quickened (Some (shape.PullP, o)) = Slow
quickened (Some (shape.PullB, o)) = Slow
quickened (Some (shape.PullD, o)) = Slow
quickened (Some (shape.Pea, o)) = Slow
quickened (Some (shape.Pei, o)) = Slow
quickened (Some (shape.Per, o)) = Slow
quickened (Some (shape.JumpLong, o)) = Slow
quickened (Some (shape.JumpIndirect, o)) = Slow
quickened (Some (shape.JumpIndirectLong, o)) = Slow
quickened (Some (shape.JumpIndexed, o)) = Slow
quickened (Some (shape.Call, o)) = Slow
quickened (Some (shape.CallIndexed, o)) = Slow
quickened (Some (shape.CallLong, o)) = Slow
quickened (Some (shape.Return, o)) = Slow
quickened (Some (shape.ReturnLong, o)) = Slow
quickened (Some (shape.BranchLong, o)) = Slow

-- what a byte is on the quick path
unfoldable pub quick_of : ℕ → Quick
quick_of op = quickened (decode_of op)
