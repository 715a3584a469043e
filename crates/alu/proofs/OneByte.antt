-- What one byte of each operation says: the width laws stand on these facts and open no operation.
use Prim.Native.Nat.{ℕ, ◌<◌}
use mathlib.Core.Path.{◌≡◌, refl}
use mathlib.Core.Bool.{Bool, true, false, ◌&&◌, ◌||◌}
use native.Mathlib.Omega.{arith}
use lib.Dec.{T, eqb, leb}
use lib.Bits.{and_lt, or_lt, xor_lt}
use Rattle.words.specs.Words.{pick}
use Rattle.flags.specs.declared.Flags.{Flags}
use Rattle.adder.proofs.BinaryLaws.{adc_small, sbc_small, bit_not}
use Rattle.alu.specs.Alu.{nz, summed, adc_byte, sbc_byte, cmp_byte, and_byte, ora_byte, eor_byte, bit_byte, load_byte, operated, left_byte, right_byte, step_byte, shifted}
use Rattle.alu.specs.declared.types.Alu.{Alu}
use Rattle.alu.specs.declared.types.Alu.TheVariants.{Adc, Sbc, Cmp, And, Ora, Eor, Bit, BitImmediate, Load}
use Rattle.alu.specs.declared.types.Shift.{Shift}
use Rattle.alu.specs.declared.types.Shift.TheVariants.{Asl, Rol, Lsr, Ror, Inc, Dec}
use Rattle.alu.specs.declared.types.Byte.{Byte}

-- an operation's byte is a byte
pub operated_small : (k : Alu) (first top : Bool) (a b : ℕ) (f : Flags) → a < 256 → b < 256 → (operated k first top a b f).byte < 256
unfolding adc_byte sbc_byte cmp_byte and_byte ora_byte eor_byte bit_byte load_byte summed
operated_small Adc first top a b f p q = adc_small f.decimal a b f.carry
operated_small Sbc first top a b f p q = sbc_small f.decimal a b f.carry
operated_small Cmp first top a b f p q = p
operated_small And first top a b f p q = and_lt 8 a b p q
operated_small Ora first top a b f p q = or_lt 8 a b p q
operated_small Eor first top a b f p q = xor_lt 8 a b p q
operated_small Bit first top a b f p q = p
operated_small BitImmediate first top a b f p q = p
operated_small Load first top a b f p q = q

-- and so is a shift's, and a step's whatever it steps by
pub left_small : (first top : Bool) (b : ℕ) (f : Flags) → b < 256 → (left_byte first top b f).byte < 256
unfolding left_byte
left_small first top b f p = omega (arith, bit_not f.carry)

pub right_small : (first top : Bool) (b : ℕ) (f : Flags) → b < 256 → (right_byte first top b f).byte < 256
unfolding right_byte
right_small first top b f p = omega (arith, bit_not f.carry)

pub step_small : (by : ℕ) (first top : Bool) (b : ℕ) (f : Flags) → (step_byte by first top b f).byte < 256
unfolding step_byte
step_small by first top b f = adc_small false b by f.carry

pub shifted_small : (k : Shift) (first top : Bool) (b : ℕ) (f : Flags) → b < 256 → (shifted k first top b f).byte < 256
shifted_small Asl first top b f p = left_small first top b f p
shifted_small Rol first top b f p = left_small first top b f p
shifted_small Lsr first top b f p = right_small first top b f p
shifted_small Ror first top b f p = right_small first top b f p
shifted_small Inc first top b f p = step_small 0 first top b f
shifted_small Dec first top b f p = step_small 255 first top b f

-- no operation changes D
pub operated_mode : (k : Alu) (first top : Bool) (a b : ℕ) (f : Flags) → (operated k first top a b f).flags.decimal ≡ f.decimal
unfolding adc_byte sbc_byte cmp_byte and_byte ora_byte eor_byte bit_byte load_byte summed nz
operated_mode Adc first top a b f = refl
operated_mode Sbc first top a b f = refl
operated_mode Cmp first top a b f = refl
operated_mode And first top a b f = refl
operated_mode Ora first top a b f = refl
operated_mode Eor first top a b f = refl
operated_mode Bit first top a b f = refl
operated_mode BitImmediate first top a b f = refl
operated_mode Load first top a b f = refl

-- an operation whose bytes are bytes, and which keeps D
pub record Plain (byte : (first top : Bool) → (a b : ℕ) → Flags → Byte) : Type 0 where
  pub small : (first top : Bool) (a b : ℕ) (f : Flags) → a < 256 → b < 256 → (byte first top a b f).byte < 256
  pub mode : (first top : Bool) (a b : ℕ) (f : Flags) → (byte first top a b f).flags.decimal ≡ f.decimal

pub operated_plain : (k : Alu) → Plain (operated k)
operated_plain k = record { small = operated_small k; mode = operated_mode k }

-- which operations write their result; CMP and BIT keep the register
abbrev pub writes : Alu → Bool
writes Adc = true
writes Sbc = true
writes Cmp = false
writes And = true
writes Ora = true
writes Eor = true
writes Bit = false
writes BitImmediate = false
writes Load = true

-- what they say of it: Z is that of the bytes so far, and N of the top byte is its sign
pub record Tells (k : Alu) : Type 0 where
  pub zero : (first top : Bool) (a b : ℕ) (f : Flags)
      → let r : Byte = operated k first top a b f in r.flags.zero ≡ ((first || f.zero) && eqb r.byte 0)
  pub sign : (first : Bool) (a b : ℕ) (f : Flags) → let r : Byte = operated k first true a b f in r.flags.negative ≡ leb 128 r.byte

pub tells : (k : Alu) → T (writes k) → Tells k
unfolding adc_byte sbc_byte and_byte ora_byte eor_byte load_byte summed nz
tells Adc w = record { zero = λ first top a b f. refl; sign = λ first a b f. refl }
tells Sbc w = record { zero = λ first top a b f. refl; sign = λ first a b f. refl }
tells Cmp w = absurd w
tells And w = record { zero = λ first top a b f. refl; sign = λ first a b f. refl }
tells Ora w = record { zero = λ first top a b f. refl; sign = λ first a b f. refl }
tells Eor w = record { zero = λ first top a b f. refl; sign = λ first a b f. refl }
tells Bit w = absurd w
tells BitImmediate w = absurd w
tells Load w = record { zero = λ first top a b f. refl; sign = λ first a b f. refl }

-- a shift or a step says the same of its byte; below the top byte N stays, and D stays
pub record Shown (first top : Bool) (f : Flags) (r : Byte) : Type 0 where
  pub zero : r.flags.zero ≡ ((first || f.zero) && eqb r.byte 0)
  pub sign : r.flags.negative ≡ pick top (leb 128 r.byte) f.negative
  pub mode : r.flags.decimal ≡ f.decimal

pub shown : (k : Shift) (first top : Bool) (b : ℕ) (f : Flags) → Shown first top f (shifted k first top b f)
unfolding left_byte right_byte step_byte nz
shown Asl first top b f = record { zero = refl; sign = refl; mode = refl }
shown Rol first top b f = record { zero = refl; sign = refl; mode = refl }
shown Lsr first top b f = record { zero = refl; sign = refl; mode = refl }
shown Ror first top b f = record { zero = refl; sign = refl; mode = refl }
shown Inc first top b f = record { zero = refl; sign = refl; mode = refl }
shown Dec first top b f = record { zero = refl; sign = refl; mode = refl }

pub shifted_plain : (k : Shift) → Plain (λ first top a b f. shifted k first top a f)
shifted_plain k = record { small = λ first top a b f p q. shifted_small k first top a f p; mode = λ first top a b f. (shown k first top a f).mode }
