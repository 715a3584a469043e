-- An instruction is as long as the bytes that its cycles fetch: the opcode, and each operand byte asked at PBR:PC.
use Prim.Native.Nat.{ℕ, suc, ◌+◌}
use Rattle.std.proofs.Common.{Some, Option, None}
use mathlib.Core.Path.{◌≡◌, refl}
use mathlib.Core.Bool.{Bool, true, false}
use mathlib.Core.List.{List, [], ◌∷◌}
use Rattle.words.specs.Words.{bit}
use Rattle.opcodes.specs.declared.types.Shape.{Shape}
use Rattle.opcodes.specs.declared.types.Shape.TheVariants as shape
use Rattle.cycles.specs.Cycles.{cycles_of}
use Rattle.cycles.specs.declared.types.Ask.{Ask}
use Rattle.cycles.specs.declared.types.Ask.TheVariants as ask
use Rattle.cycles.specs.declared.types.Cycle.{Cycle}
use Rattle.sheet.specs.Counts.{length_of}

-- a byte of the instruction itself; a table's entry lies elsewhere
abbrev of_operand : Ask → Bool
of_operand ask.Program = true
of_operand ask.Idle = false
of_operand ask.IdleBack = false
of_operand ask.IdleAfter = false
of_operand ask.IdleStack = false
of_operand ask.IdleHome = false
of_operand ask.Opcode = false
of_operand ask.Far = false
of_operand ask.FarNext = false
of_operand ask.Near = false
of_operand ask.NearNext = false
of_operand ask.NearThird = false
of_operand ask.Table = false
of_operand ask.TableNext = false
of_operand ask.PullPaged = false
of_operand ask.PullRaw = false
of_operand ask.PullHome = false
of_operand ask.StoreFar = false
of_operand ask.StoreFarNext = false
of_operand ask.StoreNear = false
of_operand ask.StoreNearNext = false
of_operand ask.PushLow = false
of_operand ask.PushHigh = false
of_operand ask.PushPcLow = false
of_operand ask.PushPcHigh = false
of_operand ask.PushDataLow = false
of_operand ask.PushDataHigh = false
of_operand ask.PushPbr = false
of_operand ask.MoveRead = false
of_operand ask.MoveWrite = false
of_operand ask.MoveIdle = false

abbrev operands : List (Option Cycle) → ℕ
operands [] = 0
operands (None ∷ cs) = operands cs
operands (Some c ∷ cs) = bit (of_operand c.ask) + operands cs

pub fetched : (s : Shape) (w d e : Bool) → length_of s w ≡ suc (operands (cycles_of s w d e))
fetched shape.Immediate true d e = refl
fetched shape.Immediate false d e = refl
fetched shape.Absolute true d e = refl
fetched shape.Absolute false d e = refl
fetched shape.Direct true true e = refl
fetched shape.Direct true false e = refl
fetched shape.Direct false true e = refl
fetched shape.Direct false false e = refl
fetched shape.StoreAbsolute true d e = refl
fetched shape.StoreAbsolute false d e = refl
fetched shape.StoreDirect true true e = refl
fetched shape.StoreDirect true false e = refl
fetched shape.StoreDirect false true e = refl
fetched shape.StoreDirect false false e = refl
fetched shape.Implied w d e = refl
fetched shape.Xba w d e = refl
fetched shape.Mask w d e = refl
fetched shape.Wdm w d e = refl
fetched shape.Push true d e = refl
fetched shape.Push false d e = refl
fetched shape.Pull true d e = refl
fetched shape.Pull false d e = refl
fetched shape.PullP w d e = refl
fetched shape.PullB w d e = refl
fetched shape.PullD w d e = refl
fetched shape.Pea w d e = refl
fetched shape.Pei w true e = refl
fetched shape.Pei w false e = refl
fetched shape.Per w d e = refl
fetched shape.Jump w d e = refl
fetched shape.JumpLong w d e = refl
fetched shape.JumpIndirect w d e = refl
fetched shape.JumpIndirectLong w d e = refl
fetched shape.JumpIndexed w d e = refl
fetched shape.Call w d e = refl
fetched shape.CallIndexed w d e = refl
fetched shape.CallLong w d e = refl
fetched shape.Return w d e = refl
fetched shape.ReturnLong w d e = refl
fetched shape.Branch w d true = refl
fetched shape.Branch w d false = refl
fetched shape.BranchLong w d e = refl
fetched shape.Move w d e = refl
