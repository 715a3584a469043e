-- The list of opcodes by number: a shape's in the high byte, an operation's in the low one.
use Rattle.std.specs.Prelude.{ℕ, Bool, true, false, ◌&&◌, ◌||◌, List, [], ◌∷◌, eqb, leb, ltb, ◌/◌, ◌%◌, get_or, Option, Some, None}
use Rattle.words.specs.Words.{pick}
use Rattle.alu.specs.declared.types.Alu.TheVariants as alu
use Rattle.alu.specs.declared.types.Shift.TheVariants as shift
use Rattle.cpu.specs.declared.types.Reg.TheVariants as reg
use Rattle.cpu.specs.declared.types.Source.TheVariants as source
use Rattle.cpu.specs.declared.types.One.TheVariants as one
use Rattle.cpu.specs.declared.types.Cond.TheVariants as cond
use Rattle.opcodes.specs.declared.types.Shape.{Shape}
use Rattle.opcodes.specs.declared.types.Shape.TheVariants as shape
use Rattle.opcodes.specs.declared.types.Operation.{Operation}
use Rattle.opcodes.specs.declared.types.Operation.TheVariants.{Plain, Read, Give, Take, Do, If, Flag}

-- by number; the first only fills the place of 0
unfoldable pub shapes : List Shape
shapes = shape.Immediate ∷ shape.Immediate ∷ shape.Absolute ∷ shape.Direct ∷ shape.StoreAbsolute ∷ shape.StoreDirect ∷ shape.Implied ∷ shape.Xba ∷ shape.Mask ∷ shape.Wdm ∷ shape.Push ∷ shape.Pull ∷ shape.PullP ∷ shape.PullB ∷ shape.PullD ∷ shape.Pea ∷ shape.Pei ∷ shape.Per ∷ shape.Jump ∷ shape.JumpLong ∷ shape.JumpIndirect ∷ shape.JumpIndirectLong ∷ shape.JumpIndexed ∷ shape.Call ∷ shape.CallIndexed ∷ shape.CallLong ∷ shape.Return ∷ shape.ReturnLong ∷ shape.Branch ∷ shape.BranchLong ∷ shape.Move ∷ []

unfoldable pub operations : List Operation
operations = Plain ∷ (Read alu.Ora reg.A) ∷ (Read alu.And reg.A) ∷ (Read alu.Eor reg.A) ∷ (Read alu.Adc reg.A) ∷ (Read alu.Load reg.A) ∷ (Read alu.Load reg.X) ∷ (Read alu.Load reg.Y) ∷ (Read alu.Cmp reg.A) ∷ (Read alu.Cmp reg.X) ∷ (Read alu.Cmp reg.Y) ∷ (Read alu.Sbc reg.A) ∷ (Read alu.Bit reg.A) ∷ (Read alu.BitImmediate reg.A) ∷ (Give source.D) ∷ (Give source.Dbr) ∷ (Give source.P) ∷ (Give source.Pbr) ∷ (Give (source.Register reg.A)) ∷ (Give (source.Register reg.X)) ∷ (Give (source.Register reg.Y)) ∷ (Give source.Zero) ∷ (Take reg.A) ∷ (Take reg.X) ∷ (Take reg.Y) ∷ (If cond.Always) ∷ (If (cond.Carry false)) ∷ (If (cond.Carry true)) ∷ (If (cond.Negative false)) ∷ (If (cond.Negative true)) ∷ (If (cond.Overflow false)) ∷ (If (cond.Overflow true)) ∷ (If (cond.Zero false)) ∷ (If (cond.Zero true)) ∷ (Flag false) ∷ (Flag true) ∷ (Do (one.Accumulator shift.Asl)) ∷ (Do (one.Accumulator shift.Dec)) ∷ (Do (one.Accumulator shift.Inc)) ∷ (Do (one.Accumulator shift.Lsr)) ∷ (Do (one.Accumulator shift.Rol)) ∷ (Do (one.Accumulator shift.Ror)) ∷ (Do (one.Carry false)) ∷ (Do (one.Carry true)) ∷ (Do one.Clv) ∷ (Do (one.Decimal false)) ∷ (Do (one.Decimal true)) ∷ (Do (one.Index reg.X false)) ∷ (Do (one.Index reg.X true)) ∷ (Do (one.Index reg.Y false)) ∷ (Do (one.Index reg.Y true)) ∷ (Do (one.Interrupt false)) ∷ (Do (one.Interrupt true)) ∷ (Do one.Nop) ∷ (Do one.Tcd) ∷ (Do one.Tcs) ∷ (Do one.Tdc) ∷ (Do (one.Transfer reg.A reg.X)) ∷ (Do (one.Transfer reg.A reg.Y)) ∷ (Do (one.Transfer reg.X reg.A)) ∷ (Do (one.Transfer reg.X reg.Y)) ∷ (Do (one.Transfer reg.Y reg.A)) ∷ (Do (one.Transfer reg.Y reg.X)) ∷ (Do one.Tsc) ∷ (Do one.Tsx) ∷ (Do one.Txs) ∷ (Do one.Xba) ∷ (Do one.Xce) ∷ []

unfoldable pub shape_at : ℕ → Shape
shape_at n = get_or shapes n shape.Immediate

unfoldable pub operation_at : ℕ → Operation
operation_at n = get_or operations n Plain

-- the opcode of a number
unfoldable pub entry_at : ℕ → Option (Shape × Operation)
entry_at n = pick (eqb n 0) None (Some (shape_at (n / 256), operation_at (n % 256)))

-- the numbers that the two lists have: 30 shapes, the first place left out, and 68 operations; and 0
abbrev pub in_book : ℕ → Bool
in_book n = eqb n 0 || (leb 256 n && (ltb n 7936 && ltb (n % 256) 68))
