-- Arithmetic and logic: a byte of each operation, then the width by chaining bytes.
-- `first` says that no byte came before, so that Z starts anew; `top` that this byte has the sign, so that N is its.
use Rattle.std.specs.Prelude.{ℕ, ◌+◌, ◌*◌, ◌/◌, ◌%◌, Bool, true, false, ◌&&◌, ◌||◌, eqb, leb}
use Rattle.std.specs.Int.Bits.{bit_and, bit_or, bit_xor}
use Rattle.words.specs.Words.{pick, bit, low_of, high_of, word, low_set}
use Rattle.flags.specs.Flags.{set_nvzc}
use Rattle.flags.specs.declared.Flags.{Flags}
use Rattle.adder.specs.Adder.{adc_of, sbc_of}
use Rattle.adder.specs.declared.Sum.{Sum}
use Rattle.alu.specs.declared.types.Alu.{Alu}
use Rattle.alu.specs.declared.types.Alu.TheVariants.{Adc, Sbc, Cmp, And, Ora, Eor, Bit, BitImmediate, Load}
use Rattle.alu.specs.declared.types.Shift.{Shift}
use Rattle.alu.specs.declared.types.Shift.TheVariants.{Asl, Rol, Lsr, Ror, Inc, Dec}
use Rattle.alu.specs.declared.types.Byte.{Byte}
use Rattle.alu.specs.declared.types.Word.{Word}

abbrev pub byte_with : ℕ → Flags → Byte
byte_with v f = record { byte = v; flags = f }

-- Z of all bytes so far
abbrev pub chained : (first before now : Bool) → Bool
chained first before now = (first || before) && now

-- N and Z after a byte
unfoldable pub nz : (first top : Bool) → ℕ → Flags → Flags
nz first top v f = set_nvzc f (pick top (leb 128 v) f.negative) f.overflow (chained first f.zero (eqb v 0)) f.carry

-- ---- a byte of each operation: a is the register's, b the one that was read

-- ADC and SBC set N, V, Z and C with every byte
unfoldable pub summed : (first : Bool) → Sum → Flags → Byte
summed first s f = byte_with s.byte (set_nvzc f (leb 128 s.byte) s.overflow (chained first f.zero (eqb s.byte 0)) s.carry)

unfoldable pub adc_byte : (first : Bool) → (a b : ℕ) → Flags → Byte
adc_byte first a b f = summed first (adc_of f.decimal a b f.carry) f

unfoldable pub sbc_byte : (first : Bool) → (a b : ℕ) → Flags → Byte
sbc_byte first a b f = summed first (sbc_of f.decimal a b f.carry) f

-- a compare is a binary difference that starts with no borrow; the register and V stay
unfoldable pub cmp_byte : (first top : Bool) → (a b : ℕ) → Flags → Byte
cmp_byte first top a b f =
    let s : Sum = sbc_of false a b (first || f.carry) in
    byte_with a (set_nvzc f (pick top (leb 128 s.byte) f.negative) f.overflow (chained first f.zero (eqb s.byte 0)) s.carry)

unfoldable pub and_byte : (first top : Bool) → (a b : ℕ) → Flags → Byte
and_byte first top a b f = byte_with (bit_and a b) (nz first top (bit_and a b) f)

unfoldable pub ora_byte : (first top : Bool) → (a b : ℕ) → Flags → Byte
ora_byte first top a b f = byte_with (bit_or a b) (nz first top (bit_or a b) f)

unfoldable pub eor_byte : (first top : Bool) → (a b : ℕ) → Flags → Byte
eor_byte first top a b f = byte_with (bit_xor a b) (nz first top (bit_xor a b) f)

-- BIT: Z of the AND; N and V are the value's top bits, where `signs` says that they are taken at all
unfoldable pub bit_byte : (first signs : Bool) → (a b : ℕ) → Flags → Byte
bit_byte first signs a b f =
    byte_with a
    (set_nvzc f (pick signs (leb 128 b) f.negative) (pick signs (eqb (b / 64 % 2) 1) f.overflow) (chained first f.zero (eqb (bit_and a b) 0)) f.carry)

unfoldable pub load_byte : (first top : Bool) → ℕ → Flags → Byte
load_byte first top b f = byte_with b (nz first top b f)

abbrev pub operated : Alu → (first top : Bool) → (a b : ℕ) → Flags → Byte
operated Adc first top a b f = adc_byte first a b f
operated Sbc first top a b f = sbc_byte first a b f
operated Cmp first top a b f = cmp_byte first top a b f
operated And first top a b f = and_byte first top a b f
operated Ora first top a b f = ora_byte first top a b f
operated Eor first top a b f = eor_byte first top a b f
operated Bit first top a b f = bit_byte first top a b f
operated BitImmediate first top a b f = bit_byte first false a b f
operated Load first top a b f = load_byte first top b f

-- ---- the width: one byte, the register's high byte kept, or two, the low one first
abbrev pub operated_at : Alu → (wide : Bool) → (a b : ℕ) → Flags → Word
operated_at k true a b f =
    let l : Byte = operated k true false (low_of a) (low_of b) f in
    let h : Byte = operated k false true (high_of a) (high_of b) l.flags in
    record { word = word l.byte h.byte; flags = h.flags }
operated_at k false a b f =
    let l : Byte = operated k true true (low_of a) (low_of b) f in
    record { word = low_set a l.byte; flags = l.flags }

-- ---- shifts and steps of the accumulator: the carry flag leads from byte to byte
abbrev pub with_carry : Bool → Flags → Flags
with_carry c f = set_nvzc f f.negative f.overflow f.zero c

abbrev pub carried : (first top : Bool) → ℕ → Bool → Flags → Byte
carried first top v c f = byte_with v (nz first top v (with_carry c f))

unfoldable pub left_byte : (first top : Bool) → ℕ → Flags → Byte
left_byte first top b f = carried first top (b % 128 * 2 + bit f.carry) (leb 128 b) f

unfoldable pub right_byte : (first top : Bool) → ℕ → Flags → Byte
right_byte first top b f = carried first top (b / 2 + bit f.carry * 128) (eqb (b % 2) 1) f

unfoldable pub step_byte : (by : ℕ) → (first top : Bool) → ℕ → Flags → Byte
step_byte by first top b f = let s : Sum = adc_of false b by f.carry in carried first top s.byte s.carry f

abbrev pub shifted : Shift → (first top : Bool) → ℕ → Flags → Byte
shifted Asl first top b f = left_byte first top b f
shifted Rol first top b f = left_byte first top b f
shifted Lsr first top b f = right_byte first top b f
shifted Ror first top b f = right_byte first top b f
shifted Inc first top b f = step_byte 0 first top b f
shifted Dec first top b f = step_byte 255 first top b f

-- the carry that goes into the first byte, and the one that is left at the end; C is the flag before
abbrev pub carry_in : Shift → Bool → Bool
carry_in Asl c = false
carry_in Rol c = c
carry_in Lsr c = false
carry_in Ror c = c
carry_in Inc c = true
carry_in Dec c = false

abbrev pub carry_out : Shift → (before chained : Bool) → Bool
carry_out Asl c d = d
carry_out Rol c d = d
carry_out Lsr c d = d
carry_out Ror c d = d
carry_out Inc c d = c
carry_out Dec c d = c

-- whether the high byte comes first
abbrev pub from_top : Shift → Bool
from_top Asl = false
from_top Rol = false
from_top Lsr = true
from_top Ror = true
from_top Inc = false
from_top Dec = false

abbrev pub both_bytes : Shift → (from_top : Bool) → ℕ → Flags → Word
both_bytes k true v f =
    let h : Byte = shifted k true true (high_of v) f in
    let l : Byte = shifted k false false (low_of v) h.flags in
    record { word = word l.byte h.byte; flags = l.flags }
both_bytes k false v f =
    let l : Byte = shifted k true false (low_of v) f in
    let h : Byte = shifted k false true (high_of v) l.flags in
    record { word = word l.byte h.byte; flags = h.flags }

abbrev pub one_byte : Shift → ℕ → Flags → Word
one_byte k v f = let l : Byte = shifted k true true (low_of v) f in record { word = low_set v l.byte; flags = l.flags }

abbrev pub ending : Shift → (before : Bool) → Word → Word
ending k c t = record { word = t.word; flags = with_carry (carry_out k c t.flags.carry) t.flags }

abbrev pub shifted_at : Shift → (wide : Bool) → ℕ → Flags → Word
shifted_at k true v f = ending k f.carry (both_bytes k (from_top k) v (with_carry (carry_in k f.carry) f))
shifted_at k false v f = ending k f.carry (one_byte k v (with_carry (carry_in k f.carry) f))
