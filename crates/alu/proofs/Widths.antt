-- Each operation over n bytes: ADC and SBC, binary on any bytes and decimal on digits; the logical ones; N, V and Z.
use Prim.Native.Nat.{ℕ, suc, ◌+◌, ◌*◌, ◌^◌, ◌<◌}
use mathlib.Core.Path.{◌≡◌, refl, ap, ◌∙◌}
use mathlib.Core.Bool.{Bool, true, false, not, ◌&&◌, ◌||◌, beq}
use native.Mathlib.Omega.{arith}
use lib.Dec.{T, eqb, leb}
use lib.Bits.{bit_and, bit_or, bit_xor, and_block, or_block, xor_block}
use Rattle.words.specs.Words.{bit}
use Rattle.flags.specs.Flags.{set_nvzc}
use Rattle.flags.specs.declared.Flags.{Flags}
use Rattle.adder.specs.Adder.{adc_of, sbc_of, adc_binary}
use Rattle.adder.specs.Digits.{Pair, value_of, Digits}
use Rattle.adder.proofs.BinaryLaws.{adc_adds, sbc_takes, sign_complement}
use Rattle.adder.proofs.DigitLaws.{adc_digits, sbc_digits}
use Rattle.alu.specs.Alu.{adc_byte, sbc_byte, and_byte, ora_byte, eor_byte, load_byte, nz, summed, operated}
use Rattle.alu.specs.declared.types.Alu.{Alu}
use Rattle.alu.specs.declared.types.Alu.TheVariants.{Adc, Sbc, Cmp, And, Ora, Eor, Bit, BitImmediate, Load}
use Rattle.alu.specs.declared.types.Byte.{Byte}
use Rattle.alu.specs.declared.types.Word.{Word}
use Rattle.alu.specs.Widths.{chain}
use Rattle.alu.proofs.CarryLaws.{Equation, Rule, OfByte, OfBytes, carried, Any, itself, Binary, binary}
use Rattle.alu.proofs.FlagLaws.{flag_stays, top_bit, chain_small, top_flag, sign_flag, zero_flag, made}
use Rattle.alu.proofs.OneByte.{operated_small, operated_plain, writes, tells}

-- a sum: the carry is what the bytes can't hold
abbrev pub Added : Equation
Added m a b w c d = w + m * bit d ≡ a + b + bit c

-- a difference: a carry that is clear is a borrow
abbrev pub Taken : Equation
Taken m a b w c d = w + b + bit (not c) ≡ a + m * bit (not d)

added : (base : ℕ) → Rule base Added
added base = record {
  none = λ c. omega arith;
  more = λ m a b w a' b' w' c d e s t. omega (arith, ap (λ (x : ℕ). base * x) t);
}

taken : (base : ℕ) → Rule base Taken
taken base = record {
  none = λ c. omega arith;
  more = λ m a b w a' b' w' c d e s t. omega (arith, ap (λ (x : ℕ). base * x) t);
}

module _ (first top : Bool) (a b : ℕ) (f : Flags) where
  module _ (p : a < 256) (q : b < 256) (m : f.decimal ≡ false) where
    adc_byte_lem : OfByte Any 256 itself Added false a b f (operated Adc first top a b f)
    unfolding adc_byte summed
    adc_byte_lem = record { such = operated_small Adc first top a b f p q; mode = m; same = rw m (adc_adds a b f.carry p q) }

    sbc_byte_lem : OfByte Any 256 itself Taken false a b f (operated Sbc first top a b f)
    unfolding sbc_byte summed
    sbc_byte_lem = record { such = operated_small Sbc first top a b f p q; mode = m; same = rw m (sbc_takes a b f.carry p q) }

  module _ (p : Pair a) (q : Pair b) (m : f.decimal ≡ true) where
    adc_pair : OfByte Pair 100 value_of Added true a b f (operated Adc first top a b f)
    unfolding adc_byte summed adc_of
    adc_pair = let t = adc_digits a b f.carry p q in record { such = rw m t.digits; mode = m; same = rw m t.same }

    sbc_pair : OfByte Pair 100 value_of Taken true a b f (operated Sbc first top a b f)
    unfolding sbc_byte summed sbc_of
    sbc_pair = let t = sbc_digits a b f.carry p q in record { such = rw m t.digits; mode = m; same = rw m t.same }

-- n bytes of digits, with an equation between decimal values
abbrev pub Decimal : Equation → (n a b : ℕ) → Flags → Word → Type 0
Decimal Says n a b f r = OfBytes Pair 100 value_of Says n a b f r

pair_fits : (b : ℕ) → Pair b → b < 256
pair_fits b p = omega arith

-- binary ADC: the word with 256^n for a carry is the sum
pub adc_binary_lem : (n : ℕ) (first : Bool) (a b : ℕ) (f : Flags) → a < 256 ^ n → b < 256 ^ n → f.decimal ≡ false
    → Binary Added n a b f (chain (operated Adc) n first a b f)
adc_binary_lem = binary Added (added 256) false (operated Adc) adc_byte_lem

-- binary SBC: the word is the difference, with 256^n lent for a borrow
pub sbc_binary : (n : ℕ) (first : Bool) (a b : ℕ) (f : Flags) → a < 256 ^ n → b < 256 ^ n → f.decimal ≡ false
    → Binary Taken n a b f (chain (operated Sbc) n first a b f)
sbc_binary = binary Taken (taken 256) false (operated Sbc) sbc_byte_lem

-- decimal ADC on digits gives digits: their value with 100^n for a carry is the sum
pub adc_decimal_lem : (n : ℕ) (first : Bool) (a b : ℕ) (f : Flags) → Digits n a → Digits n b → f.decimal ≡ true
    → Decimal Added n a b f (chain (operated Adc) n first a b f)
adc_decimal_lem = carried Pair 100 value_of Added pair_fits (added 100) true (operated Adc) adc_pair

-- decimal SBC on digits gives digits: their value is the difference, with 100^n lent for a borrow
pub sbc_decimal_lem : (n : ℕ) (first : Bool) (a b : ℕ) (f : Flags) → Digits n a → Digits n b → f.decimal ≡ true
    → Decimal Taken n a b f (chain (operated Sbc) n first a b f)
sbc_decimal_lem = carried Pair 100 value_of Taken pair_fits (taken 100) true (operated Sbc) sbc_pair

-- ---- Z and N of what is written

-- Z: it was set so far, where there was a byte before, and the word is 0
pub result_zero : (k : Alu) → T (writes k) → (n : ℕ) (first : Bool) (a b : ℕ) (f : Flags)
    → let r : Word = chain (operated k) (suc n) first a b f in r.flags.zero ≡ ((first || f.zero) && eqb r.word 0)
result_zero k w = zero_flag (operated k) (tells k w).zero

-- N: the word's top bit
pub result_sign : (k : Alu) → T (writes k) → (n : ℕ) (first : Bool) (a b : ℕ) (f : Flags)
    → let r : Word = chain (operated k) (suc n) first a b f in r.flags.negative ≡ leb (128 * 256 ^ n) r.word
result_sign k w n first a b f =
    top_flag (operated k) (operated_plain k) (λ g. g.negative) (λ x y z. leb 128 z) f.decimal (λ first a b g p q m. (tells k w).sign first a b g)
    n first a b f refl
    ∙ top_bit n _ (chain_small (operated k) (operated_plain k) (suc n) first a b f)

-- ---- V of binary sums: two words of one sign whose sum has the other; a difference is a sum with the other sign
abbrev pub signs : (a b w : Bool) → Bool
signs a b w = beq a b && not (beq a w)

module _ (first : Bool) (a b : ℕ) (f : Flags) (p : a < 256) (q : b < 256) (m : f.decimal ≡ false) where
  adc_sign : let r : Byte = operated Adc first true a b f in r.flags.overflow ≡ signs (leb 128 a) (leb 128 b) (leb 128 r.byte)
  unfolding adc_byte summed adc_of adc_binary
  adc_sign = rw m

  sbc_sign : let r : Byte = operated Sbc first true a b f in r.flags.overflow ≡ signs (leb 128 a) (not (leb 128 b)) (leb 128 r.byte)
  unfolding sbc_byte summed sbc_of adc_binary
  sbc_sign = rw (m, sign_complement b q)

-- ADC
pub adc_overflow : (n : ℕ) (first : Bool) (a b : ℕ) (f : Flags) → a < 256 ^ suc n → b < 256 ^ suc n → f.decimal ≡ false
    → let r : Word = chain (operated Adc) (suc n) first a b f in
    r.flags.overflow ≡ signs (leb (128 * 256 ^ n) a) (leb (128 * 256 ^ n) b) (leb (128 * 256 ^ n) r.word)
adc_overflow = sign_flag (operated Adc) (operated_plain Adc) (λ g. g.overflow) signs false adc_sign

-- SBC
pub sbc_overflow : (n : ℕ) (first : Bool) (a b : ℕ) (f : Flags) → a < 256 ^ suc n → b < 256 ^ suc n → f.decimal ≡ false
    → let r : Word = chain (operated Sbc) (suc n) first a b f in
    r.flags.overflow ≡ signs (leb (128 * 256 ^ n) a) (not (leb (128 * 256 ^ n) b)) (leb (128 * 256 ^ n) r.word)
sbc_overflow = sign_flag (operated Sbc) (operated_plain Sbc) (λ g. g.overflow) (λ x y z. signs x (not y) z) false sbc_sign

-- ---- the logical operations and a load, on words
module _ (n : ℕ) (first : Bool) (a b : ℕ) (f : Flags) (p : a < 256 ^ n) (q : b < 256 ^ n) where
  -- AND
  pub and_word : (chain (operated And) n first a b f).word ≡ bit_and a b
  unfolding and_byte
  and_word = made (operated And) bit_and refl (and_block 8) (λ first top a b f. refl) n first a b f p q

  -- ORA
  pub ora_word : (chain (operated Ora) n first a b f).word ≡ bit_or a b
  unfolding ora_byte
  ora_word = made (operated Ora) bit_or refl (or_block 8) (λ first top a b f. refl) n first a b f p q

  -- EOR
  pub eor_word : (chain (operated Eor) n first a b f).word ≡ bit_xor a b
  unfolding eor_byte
  eor_word = made (operated Eor) bit_xor refl (xor_block 8) (λ first top a b f. refl) n first a b f p q

  -- a load takes the value as it is
  pub load_word : (chain (operated Load) n first a b f).word ≡ b
  unfolding load_byte
  load_word = made (operated Load) (λ x y. y) refl (λ h k l m s t. refl) (λ first top a b f. refl) n first a b f p q

-- they leave V and C
abbrev pub logical : Alu → Bool
logical Adc = false
logical Sbc = false
logical Cmp = false
logical And = true
logical Ora = true
logical Eor = true
logical Bit = false
logical BitImmediate = false
logical Load = true

pub record Leaves (f : Flags) (r : Word) : Type 0 where
  pub overflow : r.flags.overflow ≡ f.overflow
  pub carry : r.flags.carry ≡ f.carry

byte_leaves : (k : Alu) → T (logical k) → (flag : Flags → Bool) → ((g : Flags) (n z : Bool) → flag (set_nvzc g n g.overflow z g.carry) ≡ flag g)
    → (first top : Bool) (a b : ℕ) (f : Flags) → flag (operated k first top a b f).flags ≡ flag f
unfolding and_byte ora_byte eor_byte load_byte nz
byte_leaves And l flag law first top a b f = law f _ _
byte_leaves Ora l flag law first top a b f = law f _ _
byte_leaves Eor l flag law first top a b f = law f _ _
byte_leaves Load l flag law first top a b f = law f _ _
byte_leaves Adc l flag law first top a b f = absurd l
byte_leaves Sbc l flag law first top a b f = absurd l
byte_leaves Cmp l flag law first top a b f = absurd l
byte_leaves Bit l flag law first top a b f = absurd l
byte_leaves BitImmediate l flag law first top a b f = absurd l

pub leaves : (k : Alu) → T (logical k) → (n : ℕ) (first : Bool) (a b : ℕ) (f : Flags) → Leaves f (chain (operated k) n first a b f)
leaves k l n first a b f = record {
  overflow = flag_stays (operated k) (λ g. g.overflow) (byte_leaves k l (λ g. g.overflow) (λ g n z. refl)) n first a b f;
  carry = flag_stays (operated k) (λ g. g.carry) (byte_leaves k l (λ g. g.carry) (λ g n z. refl)) n first a b f;
}
