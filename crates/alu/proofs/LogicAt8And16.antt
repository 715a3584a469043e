-- V of sums, the logical operations, loads and BIT at 8 and at 16 bits; and the registers that CMP and BIT leave whole.
use Prim.Native.Nat.{ℕ, ◌%◌, ◌<◌}
use mathlib.Core.Path.{◌≡◌}
use mathlib.Core.Bool.{true, false, not}
use native.Mathlib.Omega.{arith}
use lib.Dec.{T, leb}
use lib.Bits.{bit_and, bit_or, bit_xor}
use Rattle.flags.specs.declared.Flags.{Flags}
use Rattle.alu.specs.Alu.{operated_at}
use Rattle.alu.specs.declared.types.Alu.{Alu}
use Rattle.alu.specs.declared.types.Alu.TheVariants.{Adc, Sbc, Cmp, And, Ora, Eor, Bit, BitImmediate, Load}
use Rattle.alu.specs.declared.types.Word.{Word}
use Rattle.alu.proofs.At8And16.{low_part, operated_high, at_8, at_16, cmp_8}
use Rattle.alu.proofs.BitTest.{Tested, tested, OnlyZero, only_zero}
use Rattle.alu.proofs.Widths.{signs, adc_overflow, sbc_overflow, and_word, ora_word, eor_word, load_word, logical, Leaves, leaves}

-- ---- V of binary sums and differences: operands of one sign, the second one's turned in SBC, and a result of the other
module _ (a b : ℕ) (f : Flags) (m : f.decimal ≡ false) where
  -- ADC
  pub adc_overflow_8 : let r : Word = operated_at Adc false a b f in
      r.flags.overflow ≡ signs (leb 128 (a % 256)) (leb 128 (b % 256)) (leb 128 (r.word % 256))
  adc_overflow_8 =
      at_8 Adc a b f (λ r. r.flags.overflow ≡ signs (leb 128 (a % 256)) (leb 128 (b % 256)) (leb 128 r.word))
      (adc_overflow 0 true (a % 256) (b % 256) f (omega arith) (omega arith) m)

  -- SBC
  pub sbc_overflow_8 : let r : Word = operated_at Sbc false a b f in
      r.flags.overflow ≡ signs (leb 128 (a % 256)) (not (leb 128 (b % 256))) (leb 128 (r.word % 256))
  sbc_overflow_8 =
      at_8 Sbc a b f (λ r. r.flags.overflow ≡ signs (leb 128 (a % 256)) (not (leb 128 (b % 256))) (leb 128 r.word))
      (sbc_overflow 0 true (a % 256) (b % 256) f (omega arith) (omega arith) m)

  module _ (p : a < 65536) (q : b < 65536) where
    -- ADC
    pub adc_overflow_16 : let r : Word = operated_at Adc true a b f in
        r.flags.overflow ≡ signs (leb 32768 a) (leb 32768 b) (leb 32768 r.word)
    adc_overflow_16 =
        at_16 Adc a b f (λ r. r.flags.overflow ≡ signs (leb 32768 a) (leb 32768 b) (leb 32768 r.word)) p q (adc_overflow 1 true a b f p q m)

    -- SBC
    pub sbc_overflow_16 : let r : Word = operated_at Sbc true a b f in
        r.flags.overflow ≡ signs (leb 32768 a) (not (leb 32768 b)) (leb 32768 r.word)
    sbc_overflow_16 =
        at_16 Sbc a b f (λ r. r.flags.overflow ≡ signs (leb 32768 a) (not (leb 32768 b)) (leb 32768 r.word)) p q (sbc_overflow 1 true a b f p q m)

module _ (a b : ℕ) (f : Flags) where
  -- ---- at 8 bits, on the low bytes
  -- AND
  pub and_8 : (operated_at And false a b f).word % 256 ≡ bit_and (a % 256) (b % 256)
  and_8 = at_8 And a b f (λ r. r.word ≡ bit_and (a % 256) (b % 256)) (and_word 1 true (a % 256) (b % 256) f (omega arith) (omega arith))

  -- ORA
  pub ora_8 : (operated_at Ora false a b f).word % 256 ≡ bit_or (a % 256) (b % 256)
  ora_8 = at_8 Ora a b f (λ r. r.word ≡ bit_or (a % 256) (b % 256)) (ora_word 1 true (a % 256) (b % 256) f (omega arith) (omega arith))

  -- EOR
  pub eor_8 : (operated_at Eor false a b f).word % 256 ≡ bit_xor (a % 256) (b % 256)
  eor_8 = at_8 Eor a b f (λ r. r.word ≡ bit_xor (a % 256) (b % 256)) (eor_word 1 true (a % 256) (b % 256) f (omega arith) (omega arith))

  -- a load takes the byte as it is
  pub load_8 : (operated_at Load false a b f).word % 256 ≡ b % 256
  load_8 = at_8 Load a b f (λ r. r.word ≡ b % 256) (load_word 1 true (a % 256) (b % 256) f (omega arith) (omega arith))

  -- these leave V and C
  pub leaves_8 : (k : Alu) → T (logical k) → Leaves f (low_part (operated_at k false a b f))
  leaves_8 k l = at_8 k a b f (Leaves f) (leaves k l 1 true (a % 256) (b % 256) f)

  -- BIT: Z of the AND, N and V bits 7 and 6 of the byte
  pub bit_8 : Tested 0 true (a % 256) (b % 256) f (low_part (operated_at Bit false a b f))
  bit_8 = at_8 Bit a b f (Tested 0 true (a % 256) (b % 256) f) (tested 0 true (a % 256) (b % 256) f (omega arith) (omega arith))

  -- BIT with its operand in the program: Z alone
  pub bit_immediate_8 : OnlyZero true (a % 256) (b % 256) f (low_part (operated_at BitImmediate false a b f))
  bit_immediate_8 =
      at_8 BitImmediate a b f (OnlyZero true (a % 256) (b % 256) f) (only_zero 0 true (a % 256) (b % 256) f (omega arith) (omega arith))

  -- CMP and BIT leave both bytes of the register
  pub cmp_kept_8 : (operated_at Cmp false a b f).word ≡ a
  cmp_kept_8 = omega (arith, (cmp_8 a b f).kept, operated_high Cmp a b f)

  pub bit_kept_8 : (operated_at Bit false a b f).word ≡ a
  bit_kept_8 = omega (arith, bit_8.kept, operated_high Bit a b f)

  pub bit_immediate_kept_8 : (operated_at BitImmediate false a b f).word ≡ a
  bit_immediate_kept_8 = omega (arith, bit_immediate_8.kept, operated_high BitImmediate a b f)

  -- ---- at 16 bits, on the words
  module _ (p : a < 65536) (q : b < 65536) where
    -- AND
    pub and_16 : (operated_at And true a b f).word ≡ bit_and a b
    and_16 = at_16 And a b f (λ r. r.word ≡ bit_and a b) p q (and_word 2 true a b f p q)

    -- ORA
    pub ora_16 : (operated_at Ora true a b f).word ≡ bit_or a b
    ora_16 = at_16 Ora a b f (λ r. r.word ≡ bit_or a b) p q (ora_word 2 true a b f p q)

    -- EOR
    pub eor_16 : (operated_at Eor true a b f).word ≡ bit_xor a b
    eor_16 = at_16 Eor a b f (λ r. r.word ≡ bit_xor a b) p q (eor_word 2 true a b f p q)

    -- a load takes the word as it is
    pub load_16 : (operated_at Load true a b f).word ≡ b
    load_16 = at_16 Load a b f (λ r. r.word ≡ b) p q (load_word 2 true a b f p q)

    -- these leave V and C
    pub leaves_16 : (k : Alu) → T (logical k) → Leaves f (operated_at k true a b f)
    leaves_16 k l = at_16 k a b f (Leaves f) p q (leaves k l 2 true a b f)

    -- BIT: Z of the AND, N and V bits 15 and 14 of the word, and the register stays
    pub bit_16 : Tested 1 true a b f (operated_at Bit true a b f)
    bit_16 = at_16 Bit a b f (Tested 1 true a b f) p q (tested 1 true a b f p q)

    -- BIT with its operand in the program: Z alone
    pub bit_immediate_16 : OnlyZero true a b f (operated_at BitImmediate true a b f)
    bit_immediate_16 = at_16 BitImmediate a b f (OnlyZero true a b f) p q (only_zero 1 true a b f p q)
