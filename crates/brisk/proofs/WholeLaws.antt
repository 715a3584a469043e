-- What operations on whole words have to do with the chains of bytes: they are the same, for words below 65,536.
use Rattle.std.proofs.Common.{◌≡◌, ℕ, ◌+◌, ◌-◌, ◌*◌, ◌/◌, ◌%◌, ◌<◌, Bool, true, false, eqb, leb, ◌↔◌, refl, ap, ◌∙◌, div-add-mod', arith}
use lib.Bits.{bit_and, bit_or, bit_xor, and_block, or_block, xor_block, and_lt, or_lt, xor_lt}
use Rattle.words.specs.Words.{word, low_set}
use Rattle.words.proofs.WordLaws.{word_low}
use Rattle.flags.specs.Flags.{set_nvzc, set_nz}
use Rattle.flags.specs.declared.Flags.{Flags}
use Rattle.alu.specs.Alu.{operated_at, nz, cmp_byte, and_byte, ora_byte, eor_byte, bit_byte, load_byte}
use Rattle.alu.specs.declared.types.Alu.{Alu}
use Rattle.alu.specs.declared.types.Alu.TheVariants.{Cmp, And, Ora, Eor, Bit, BitImmediate, Load}
use Rattle.alu.specs.declared.types.Word.{Word}
use Rattle.alu.proofs.At8And16.{result_16, cmp_8, cmp_16}
use Rattle.alu.proofs.FlagLaws.{leb_same, eqb_same}
use Rattle.alu.proofs.LogicAt8And16.{and_16, ora_16, eor_16, load_16, bit_16, bit_immediate_16, cmp_kept_8, bit_kept_8, bit_immediate_kept_8}
use Rattle.cpu.specs.Registers.{get}
use Rattle.cpu.specs.declared.types.Regs.{Regs}
use Rattle.cpu.specs.declared.types.Reg.{Reg}
use Rattle.cpu.proofs.Bytes.{with, two_bytes, one_byte}
use Rattle.brisk.specs.Brisk.{effected}
use Rattle.brisk.specs.Whole.{placed, less, compared, tested}

-- ---- what is made bit by bit
-- the low byte of a result is made of the low bytes
module _ (make : ℕ → ℕ → ℕ)
    (block : (h k l m : ℕ) → l < 256 → m < 256 → make (h * 256 + l) (k * 256 + m) ≡ make h k * 256 + make l m)
    (small : (a b : ℕ) → a < 256 → b < 256 → make a b < 256) where
  low_made : (a b : ℕ) → make (a % 256) (b % 256) ≡ make a b % 256
  low_made a b =
      let joined = block (a / 256) (b / 256) (a % 256) (b % 256) (omega arith) (omega arith) in
      omega (arith, small (a % 256) (b % 256) (omega arith) (omega arith), rw (div-add-mod' a 256, div-add-mod' b 256) at joined)

-- a result with V and C as they were
abbrev result : Flags → ℕ → (n z : Bool) → Word
result f w n z = record { word = w; flags = set_nvzc f n f.overflow z f.carry }

-- a difference of bytes inside 65,536 is one inside 256 in its low byte, and says whether they are equal
low_less : (x y : ℕ) → x < 256 → y < 256 → (x + (256 - y)) % 256 ≡ less x y % 256
low_less x y p q = omega arith

no_difference : (x y : ℕ) → x < 256 → y < 256 → (x ≡ y) ↔ ((x + (256 - y)) % 256 ≡ 0)
no_difference x y p q = omega arith

module _ (a b : ℕ) (f : Flags) (p : a < 65536) (q : b < 65536) where
  -- AND
  pub and_placed : (wide : Bool) → operated_at And wide a b f ≡ placed wide a (bit_and a b) f
  unfolding and_byte nz set_nz
  and_placed true =
      let t = result_16 a b f And tt p q in
      (λ i. result f (operated_at And true a b f).word (t.1 i) (t.0 i))
      ∙ ap (λ (w : ℕ). result f w (leb 32768 w) (eqb w 0)) (and_16 a b f p q)
  and_placed false = ap (λ (w : ℕ). result f (low_set a w) (leb 128 w) (eqb w 0)) (low_made bit_and (and_block 8) (and_lt 8) a b)

  -- ORA
  pub ora_placed : (wide : Bool) → operated_at Ora wide a b f ≡ placed wide a (bit_or a b) f
  unfolding ora_byte nz set_nz
  ora_placed true =
      let t = result_16 a b f Ora tt p q in
      (λ i. result f (operated_at Ora true a b f).word (t.1 i) (t.0 i))
      ∙ ap (λ (w : ℕ). result f w (leb 32768 w) (eqb w 0)) (ora_16 a b f p q)
  ora_placed false = ap (λ (w : ℕ). result f (low_set a w) (leb 128 w) (eqb w 0)) (low_made bit_or (or_block 8) (or_lt 8) a b)

  -- EOR
  pub eor_placed : (wide : Bool) → operated_at Eor wide a b f ≡ placed wide a (bit_xor a b) f
  unfolding eor_byte nz set_nz
  eor_placed true =
      let t = result_16 a b f Eor tt p q in
      (λ i. result f (operated_at Eor true a b f).word (t.1 i) (t.0 i))
      ∙ ap (λ (w : ℕ). result f w (leb 32768 w) (eqb w 0)) (eor_16 a b f p q)
  eor_placed false = ap (λ (w : ℕ). result f (low_set a w) (leb 128 w) (eqb w 0)) (low_made bit_xor (xor_block 8) (xor_lt 8) a b)

  -- a load
  pub load_placed : (wide : Bool) → operated_at Load wide a b f ≡ placed wide a b f
  unfolding load_byte nz set_nz
  load_placed true =
      let t = result_16 a b f Load tt p q in
      (λ i. result f (operated_at Load true a b f).word (t.1 i) (t.0 i))
      ∙ ap (λ (w : ℕ). result f w (leb 32768 w) (eqb w 0)) (load_16 a b f p q)
  load_placed false = refl

  -- CMP
  pub cmp_compared : (wide : Bool) → operated_at Cmp wide a b f ≡ compared wide a b f
  unfolding cmp_byte set_nz
  cmp_compared true =
      let t = cmp_16 a b f p q in
      let zero : eqb a b ≡ eqb ((a + (65536 - b)) % 65536) 0 = eqb_same a b ((a + (65536 - b)) % 65536) 0 (omega arith) in
      λ i. record { word = t.kept i; flags = set_nvzc f (t.negative i) (t.overflow i) ((t.zero ∙ zero) i) (t.carry i) }
  cmp_compared false =
      let t = cmp_8 a b f in
      let x : ℕ = a % 256 in
      let y : ℕ = b % 256 in
      let same : (x + (256 - y)) % 256 ≡ less x y % 256 = low_less x y (omega arith) (omega arith) in
      let zero : eqb x y ≡ eqb ((x + (256 - y)) % 256) 0 = eqb_same x y ((x + (256 - y)) % 256) 0 (no_difference x y (omega arith) (omega arith)) in
      λ i. record {
        word = cmp_kept_8 a b f i;
        flags = set_nvzc f ((t.negative ∙ ap (leb 128) same) i) (t.overflow i) ((t.zero ∙ zero ∙ ap (λ (w : ℕ). eqb w 0) same) i) (t.carry i);
      }

  -- BIT
  pub bit_tested : (wide : Bool) → operated_at Bit wide a b f ≡ tested wide true a b f
  unfolding bit_byte set_nz
  bit_tested true =
      let t = bit_16 a b f p q in
      let over : b / 256 / 64 % 2 ≡ b / 16384 % 2 = omega arith in
      λ i. record {
        word = t.kept i;
        flags = set_nvzc f (t.negative i) ((t.overflow ∙ ap (λ (x : ℕ). eqb x 1) over) i) (t.zero i) (t.carry i);
      }
  bit_tested false =
      let zero = low_made bit_and (and_block 8) (and_lt 8) a b in
      let sign : leb 128 (b % 256) ≡ leb 32768 (b % 256 * 256) = leb_same 128 (b % 256) 32768 (b % 256 * 256) (omega arith) (omega arith) in
      let over : b % 256 / 64 % 2 ≡ b % 256 * 256 / 16384 % 2 = omega arith in
      λ i. record {
        word = bit_kept_8 a b f i;
        flags = set_nvzc f (sign i) (eqb (over i) 1) (eqb (zero i) 0) f.carry;
      }

  -- BIT with its operand in the program
  pub bit_immediate_tested : (wide : Bool) → operated_at BitImmediate wide a b f ≡ tested wide false a b f
  unfolding bit_byte set_nz
  bit_immediate_tested true =
      let t = bit_immediate_16 a b f p q in
      λ i. record { word = t.kept i; flags = set_nvzc f f.negative f.overflow (t.zero i) f.carry }
  bit_immediate_tested false =
      let zero = low_made bit_and (and_block 8) (and_lt 8) a b in
      λ i. record { word = bit_immediate_kept_8 a b f i; flags = set_nvzc f f.negative f.overflow (eqb (zero i) 0) f.carry }

-- ---- a register's operation by the bytes that were read is the one on their word
pub effected_at : (k : Alu) (r : Reg) (wide : Bool) (l h : ℕ) (g : Regs) → l < 256
    → effected k r wide l h g ≡ with r (operated_at k wide (get r g) (word l h) g.flags) g
effected_at k r true l h g p = two_bytes k l h g p r
effected_at k r false l h g p =
    let low : l % 256 ≡ word l h % 256 = omega (arith, word_low l h p) in
    one_byte k l g p r ∙ rw low
