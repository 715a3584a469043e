-- An operation on a register at its width, by the bytes that were read: what the cycles of its operand make of the registers one after the other.
use Rattle.std.specs.Prelude.{ℕ, Bool, true, false}
use Rattle.alu.specs.declared.types.Alu.{Alu}
use Rattle.cpu.specs.Registers.{get, operates, stepped}
use Rattle.cpu.specs.declared.types.Regs.{Regs}
use Rattle.cpu.specs.declared.types.Reg.{Reg}
use Rattle.cpu.specs.declared.types.Reg.TheVariants.{X}
use Rattle.cpu.specs.declared.types.One.{One}
use Rattle.cpu.specs.declared.types.One.TheVariants as one
use Rattle.cpu.specs.declared.types.Part.TheVariants.{Only, Low, High}

-- two bytes, the low one first, or the only one: at 8 bits h is not looked at
abbrev pub effected : Alu → Reg → (wide : Bool) → (l h : ℕ) → Regs → Regs
effected k r true l h g = operates k r High h (operates k r Low l g)
effected k r false l h g = operates k r Only l g

-- ---- transfers and steps of the index registers: where the value goes, and the value; the other instructions have none, and what
-- stands for it is never looked at
abbrev pub into_of : One → Reg
into_of (one.Transfer from into) = into
into_of (one.Index r ups) = r
into_of one.Tsx = X
into_of (one.Accumulator k) = X
into_of (one.Carry c) = X
into_of (one.Interrupt i) = X
into_of (one.Decimal d) = X
into_of one.Clv = X
into_of one.Nop = X
into_of one.Xce = X
into_of one.Xba = X
into_of one.Txs = X
into_of one.Tcs = X
into_of one.Tsc = X
into_of one.Tcd = X
into_of one.Tdc = X

abbrev pub value_in : One → (s : ℕ) → Regs → ℕ
value_in (one.Transfer from into) s g = get from g
value_in (one.Index r ups) s g = stepped ups (get r g)
value_in one.Tsx s g = s
value_in (one.Accumulator k) s g = s
value_in (one.Carry c) s g = s
value_in (one.Interrupt i) s g = s
value_in (one.Decimal d) s g = s
value_in one.Clv s g = s
value_in one.Nop s g = s
value_in one.Xce s g = s
value_in one.Xba s g = s
value_in one.Txs s g = s
value_in one.Tcs s g = s
value_in one.Tsc s g = s
value_in one.Tcd s g = s
value_in one.Tdc s g = s
