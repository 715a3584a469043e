-- The chip's columns: how the decode finds what neighbouring opcodes differ in. The opcode list of crates/opcodes/specs/Opcodes.antt decides; these are shorter ways to it.
use Rattle.std.specs.Prelude.{ℕ, ◌/◌, ◌%◌, Bool, eqb}
use Rattle.words.specs.Words.{pick}
use Rattle.alu.specs.declared.types.Alu.{Alu}
use Rattle.alu.specs.declared.types.Alu.TheVariants.{Adc, Sbc, Cmp, And, Ora, Eor, Load}
use Rattle.cpu.specs.declared.types.Reg.{Reg}
use Rattle.cpu.specs.declared.types.Reg.TheVariants.{A, X, Y}
use Rattle.cpu.specs.declared.types.One.{One}
use Rattle.cpu.specs.declared.types.One.TheVariants as one
use Rattle.cpu.specs.declared.types.Cond.{Cond}
use Rattle.cpu.specs.declared.types.Cond.TheVariants as if
use Rattle.opcodes.specs.Opcodes.{find, one_bytes}

-- loads and stores of Y, A and X stand side by side; bits 5 to 7 choose an operation; CPY is a row above CPX;
-- bits 6 and 7 choose a branch's flag and bit 5 its value
abbrev pub column_of : ℕ → Reg
column_of n = pick (eqb (n % 4) 0) Y (pick (eqb (n % 4) 1) A X)

abbrev pub operation_of : ℕ → Alu
operation_of n =
    pick (eqb (n / 32) 0) Ora
    (pick (eqb (n / 32) 1) And (pick (eqb (n / 32) 2) Eor (pick (eqb (n / 32) 3) Adc (pick (eqb (n / 32) 5) Load (pick (eqb (n / 32) 6) Cmp Sbc)))))

abbrev pub bit5 : ℕ → Bool
bit5 n = eqb (n / 32 % 2) 1

abbrev pub index_of : ℕ → Reg
index_of n = pick (bit5 n) X Y

abbrev pub condition_of : ℕ → Cond
condition_of n =
    pick (eqb (n / 64) 0) (if.Negative (bit5 n)) (pick (eqb (n / 64) 1) (if.Overflow (bit5 n)) (pick (eqb (n / 64) 2) (if.Carry (bit5 n)) (if.Zero (bit5 n))))

-- an instruction of one byte; NOP for a byte that is none
unfoldable pub one_of : ℕ → One
one_of n = find one.Nop n one_bytes
