-- The operations at 8 and at 16 bits are their chains of one byte and of two; so each law over n bytes is one at either width.
-- At 8 bits the low byte is the result, and the high byte stays.
use Prim.Native.Nat.{ℕ, ◌+◌, ◌*◌, ◌/◌, ◌%◌, ◌<◌}
use mathlib.Core.Path.{◌≡◌, ap, sym, subst, ◌∙◌}
use mathlib.Core.Bool.{true, false, not}
use native.Mathlib.Nat.{add-zero}
use native.Mathlib.Omega.{arith}
use lib.Dec.{T, eqb, leb}
use Rattle.words.specs.Words.{bit, word, low_set}
use Rattle.flags.specs.declared.Flags.{Flags}
use Rattle.adder.specs.Digits.{Pair, Digits}
use Rattle.alu.specs.Alu.{operated, operated_at}
use Rattle.alu.specs.declared.types.Alu.{Alu}
use Rattle.alu.specs.declared.types.Alu.TheVariants.{Adc, Sbc, Cmp}
use Rattle.alu.specs.declared.types.Byte.{Byte}
use Rattle.alu.specs.declared.types.Word.{Word}
use Rattle.alu.specs.Widths.{chain}
use Rattle.alu.proofs.CarryLaws.{Binary, below}
use Rattle.alu.proofs.Compare.{Compared, compared}
use Rattle.alu.proofs.FlagLaws.{chain_small}
use Rattle.alu.proofs.OneByte.{operated_small, operated_plain, writes}
use Rattle.alu.proofs.Widths.{Added, Taken, Decimal, adc_binary_lem, sbc_binary, adc_decimal_lem, sbc_decimal_lem, result_zero, result_sign}

-- a result below a register's high byte, and the result alone
abbrev pub above : ℕ → Word → Word
above a r = record { word = low_set a r.word; flags = r.flags }

abbrev pub low_part : Word → Word
low_part r = record { word = r.word % 256; flags = r.flags }

-- the one is what the other was put below
module _ (a : ℕ) (r : Word) (p : r.word < 256) where
  pub low_above : low_part (above a r) ≡ r
  unfolding low_set
  low_above = let same : (a / 256 * 256 + r.word % 256) % 256 ≡ r.word = omega arith in λ i. record { word = same i; flags = r.flags }

  pub high_above : (above a r).word / 256 ≡ a / 256
  unfolding low_set
  high_above = omega arith

module _ (k : Alu) (a b : ℕ) (f : Flags) where
  -- 16 bits are two bytes
  pub operated_16 : a < 65536 → b < 65536 → operated_at k true a b f ≡ chain (operated k) 2 true a b f
  unfolding word
  operated_16 p q =
      let l : Byte = operated k true false (a % 256) (b % 256) f in
      let h : Byte = operated k false true (a / 256) (b / 256) l.flags in
      let small : l.byte < 256 = operated_small k true false (a % 256) (b % 256) f (omega arith) (omega arith) in
      let high-a : a / 256 % 256 ≡ a / 256 = omega arith in
      let high-b : b / 256 % 256 ≡ b / 256 = omega arith in
      let same : l.byte % 256 + h.byte * 256 ≡ l.byte + 256 * (h.byte + 0) = omega arith in
      rw (high-a, high-b) (λ i. record { word = same i; flags = h.flags })

  -- 8 bits are one, below the register's high byte
  pub operated_8 : operated_at k false a b f ≡ above a (chain (operated k) 1 true (a % 256) (b % 256) f)
  operated_8 =
      let low-a : a % 256 % 256 ≡ a % 256 = omega arith in
      let low-b : b % 256 % 256 ≡ b % 256 = omega arith in
      rw (low-a, low-b, add-zero)

  small : (chain (operated k) 1 true (a % 256) (b % 256) f).word < 256
  small = chain_small (operated k) (operated_plain k) 1 true (a % 256) (b % 256) f

  -- at 8 bits the high byte stays
  pub operated_high : (operated_at k false a b f).word / 256 ≡ a / 256
  operated_high = ap (λ (r : Word). r.word / 256) operated_8 ∙ high_above a (chain (operated k) 1 true (a % 256) (b % 256) f) small

  -- what holds of the chain holds at the width
  module _ (Says : Word → Type 0) where
    pub at_8 : Says (chain (operated k) 1 true (a % 256) (b % 256) f) → Says (low_part (operated_at k false a b f))
    at_8 = subst Says (sym (ap low_part operated_8 ∙ low_above a (chain (operated k) 1 true (a % 256) (b % 256) f) small))

    pub at_16 : a < 65536 → b < 65536 → Says (chain (operated k) 2 true a b f) → Says (operated_at k true a b f)
    at_16 p q = subst Says (sym (operated_16 p q))

-- ---- sums and differences, binary
module _ (a b : ℕ) (f : Flags) (m : f.decimal ≡ false) where
  -- ADC: the byte with 256 for a carry is the sum
  pub adc_8 : let r : Word = operated_at Adc false a b f in r.word % 256 + 256 * bit r.flags.carry ≡ a % 256 + b % 256 + bit f.carry
  adc_8 = (at_8 Adc a b f (Binary Added 1 (a % 256) (b % 256) f) (adc_binary_lem 1 true (a % 256) (b % 256) f (omega arith) (omega arith) m)).same

  -- SBC: the byte is the difference, with 256 lent for a borrow
  pub sbc_8 : let r : Word = operated_at Sbc false a b f in
      r.word % 256 + b % 256 + bit (not f.carry) ≡ a % 256 + 256 * bit (not r.flags.carry)
  sbc_8 = (at_8 Sbc a b f (Binary Taken 1 (a % 256) (b % 256) f) (sbc_binary 1 true (a % 256) (b % 256) f (omega arith) (omega arith) m)).same

  module _ (p : a < 65536) (q : b < 65536) where
    -- ADC: the word with 65,536 for a carry is the sum
    pub adc_16 : let r : Word = operated_at Adc true a b f in r.word + 65536 * bit r.flags.carry ≡ a + b + bit f.carry
    adc_16 = (at_16 Adc a b f (Binary Added 2 a b f) p q (adc_binary_lem 2 true a b f p q m)).same

    -- SBC: the word is the difference, with 65,536 lent for a borrow
    pub sbc_16 : let r : Word = operated_at Sbc true a b f in r.word + b + bit (not f.carry) ≡ a + 65536 * bit (not r.flags.carry)
    sbc_16 = (at_16 Sbc a b f (Binary Taken 2 a b f) p q (sbc_binary 2 true a b f p q m)).same

-- ---- and decimal: digits in, digits out, with 100 or 10,000 for a carry or a borrow
module _ (a b : ℕ) (f : Flags) (m : f.decimal ≡ true) where
  module _ (p : Digits 1 (a % 256)) (q : Digits 1 (b % 256)) where
    -- ADC
    pub adc_decimal_8 : Decimal Added 1 (a % 256) (b % 256) f (low_part (operated_at Adc false a b f))
    adc_decimal_8 = at_8 Adc a b f (Decimal Added 1 (a % 256) (b % 256) f) (adc_decimal_lem 1 true (a % 256) (b % 256) f p q m)

    -- SBC
    pub sbc_decimal_8 : Decimal Taken 1 (a % 256) (b % 256) f (low_part (operated_at Sbc false a b f))
    sbc_decimal_8 = at_8 Sbc a b f (Decimal Taken 1 (a % 256) (b % 256) f) (sbc_decimal_lem 1 true (a % 256) (b % 256) f p q m)

  module _ (p : Digits 2 a) (q : Digits 2 b) where
    -- ADC
    pub adc_decimal_16 : Decimal Added 2 a b f (operated_at Adc true a b f)
    adc_decimal_16 = at_16 Adc a b f (Decimal Added 2 a b f) (below Pair 2 a p) (below Pair 2 b q) (adc_decimal_lem 2 true a b f p q m)

    -- SBC
    pub sbc_decimal_16 : Decimal Taken 2 a b f (operated_at Sbc true a b f)
    sbc_decimal_16 = at_16 Sbc a b f (Decimal Taken 2 a b f) (below Pair 2 a p) (below Pair 2 b q) (sbc_decimal_lem 2 true a b f p q m)

-- ---- compares, and Z and N of what is written
module _ (a b : ℕ) (f : Flags) where
  -- CMP compares the low bytes
  pub cmp_8 : Compared 0 (a % 256) (b % 256) f (low_part (operated_at Cmp false a b f))
  cmp_8 = at_8 Cmp a b f (Compared 0 (a % 256) (b % 256) f) (compared 0 (a % 256) (b % 256) f (omega arith) (omega arith))

  -- CMP compares the words
  pub cmp_16 : a < 65536 → b < 65536 → Compared 1 a b f (operated_at Cmp true a b f)
  cmp_16 p q = at_16 Cmp a b f (Compared 1 a b f) p q (compared 1 a b f p q)

  module _ (k : Alu) (w : T (writes k)) where
    -- Z and N are the low byte's
    pub result_8 : let r : Word = operated_at k false a b f in (r.flags.zero ≡ eqb (r.word % 256) 0) × (r.flags.negative ≡ leb 128 (r.word % 256))
    result_8 =
        at_8 k a b f (λ r. (r.flags.zero ≡ eqb r.word 0) × (r.flags.negative ≡ leb 128 r.word))
        (result_zero k w 0 true (a % 256) (b % 256) f, result_sign k w 0 true (a % 256) (b % 256) f)

    -- Z and N are the word's
    pub result_16 : a < 65536 → b < 65536
        → let r : Word = operated_at k true a b f in (r.flags.zero ≡ eqb r.word 0) × (r.flags.negative ≡ leb 32768 r.word)
    result_16 p q =
        at_16 k a b f (λ r. (r.flags.zero ≡ eqb r.word 0) × (r.flags.negative ≡ leb 32768 r.word)) p q
        (result_zero k w 1 true a b f, result_sign k w 1 true a b f)
