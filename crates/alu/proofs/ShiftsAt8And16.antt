-- Shifts and steps at 8 and at 16 bits are those through one byte and through two; so each law over n bytes is one at either width.
-- At 8 bits the low byte is the result, and the high byte stays.
use Prim.Native.Nat.{ℕ, ◌+◌, ◌*◌, ◌/◌, ◌%◌, ◌<◌}
use mathlib.Core.Path.{◌≡◌, refl, ap, sym, subst, ◌∙◌}
use mathlib.Core.Bool.{Bool, true, false}
use native.Mathlib.Nat.{add-zero, zero-add, one-mul, div-one}
use native.Mathlib.Omega.{arith}
use lib.Dec.{eqb, leb}
use Rattle.words.specs.Words.{pick, bit, word}
use Rattle.flags.specs.declared.Flags.{Flags}
use Rattle.alu.specs.Alu.{shifted, shifted_at, both_bytes, one_byte, ending, with_carry, carry_in, from_top}
use Rattle.alu.specs.declared.types.Shift.{Shift}
use Rattle.alu.specs.declared.types.Shift.TheVariants.{Asl, Rol, Lsr, Ror, Inc, Dec}
use Rattle.alu.specs.declared.types.Byte.{Byte}
use Rattle.alu.specs.declared.types.Word.{Word}
use Rattle.alu.specs.Widths.{lefts, rights, through}
use Rattle.alu.proofs.At8And16.{above, low_part, low_above, high_above}
use Rattle.alu.proofs.FlagLaws.{chain_small}
use Rattle.alu.proofs.OneByte.{shifted_small, shifted_plain}
use Rattle.alu.proofs.Shifting.{left_word, right_word, inc_word, dec_word, right_below, through_zero, through_sign}

-- both bytes and one byte, from the end at which the carry goes in
module _ (k : Shift) (v : ℕ) where
  both : (t : Bool) (g : Flags) → v < 65536 → both_bytes k t v g ≡ pick t (rights (shifted k) 2 true v g) (lefts (shifted k) 2 true v g)
  unfolding word
  both true g p =
      let h : Byte = shifted k true true (v / 256) g in
      let l : Byte = shifted k false false (v % 256) h.flags in
      let small : l.byte < 256 = shifted_small k false false (v % 256) h.flags (omega arith) in
      let same : l.byte % 256 + h.byte * 256 ≡ 0 + 1 * l.byte + 256 * h.byte = omega arith in
      rw (div-one (v % 256)) (λ i. record { word = same i; flags = l.flags })
  both false g p =
      let l : Byte = shifted k true false (v % 256) g in
      let h : Byte = shifted k false true (v / 256) l.flags in
      let small : l.byte < 256 = shifted_small k true false (v % 256) g (omega arith) in
      let high : v / 256 % 256 ≡ v / 256 = omega arith in
      let same : l.byte % 256 + h.byte * 256 ≡ l.byte + 256 * (h.byte + 0) = omega arith in
      rw high (λ i. record { word = same i; flags = h.flags })

  one : (t : Bool) (g : Flags) → one_byte k v g ≡ above v (pick t (rights (shifted k) 1 true (v % 256) g) (lefts (shifted k) 1 true (v % 256) g))
  one true g = rw (div-one (v % 256), one-mul, zero-add)
  one false g = let low : v % 256 % 256 ≡ v % 256 = omega arith in rw (low, add-zero)

  small : (t : Bool) (g : Flags) → (pick t (rights (shifted k) 1 true (v % 256) g) (lefts (shifted k) 1 true (v % 256) g)).word < 256
  small true g = right_below k 1 true (v % 256) g (omega arith)
  small false g = chain_small (λ first top a b f. shifted k first top a f) (shifted_plain k) 1 true (v % 256) 0 g

module _ (k : Shift) (v : ℕ) (f : Flags) where
  -- the flags with the carry that goes in
  abbrev into : Flags
  into = with_carry (carry_in k f.carry) f

  -- 16 bits are two bytes
  pub shifted_16 : v < 65536 → shifted_at k true v f ≡ ending k f.carry (through k 2 v into)
  shifted_16 p = ap (ending k f.carry) (both k v (from_top k) into p)

  -- 8 bits are one, below the register's high byte
  pub shifted_8 : shifted_at k false v f ≡ above v (ending k f.carry (through k 1 (v % 256) into))
  shifted_8 = ap (ending k f.carry) (one k v (from_top k) into)

  -- at 8 bits the high byte stays
  pub shifted_high : (shifted_at k false v f).word / 256 ≡ v / 256
  shifted_high =
      ap (λ (r : Word). r.word / 256) shifted_8 ∙ high_above v (ending k f.carry (through k 1 (v % 256) into)) (small k v (from_top k) into)

  -- what holds of the bytes holds at the width
  module _ (Says : Word → Type 0) where
    pub shift_at_8 : Says (ending k f.carry (through k 1 (v % 256) into)) → Says (low_part (shifted_at k false v f))
    shift_at_8 =
        subst Says
        (sym (ap low_part shifted_8 ∙ low_above v (ending k f.carry (through k 1 (v % 256) into)) (small k v (from_top k) into)))

    pub shift_at_16 : v < 65536 → Says (ending k f.carry (through k 2 v into)) → Says (shifted_at k true v f)
    shift_at_16 p = subst Says (sym (shifted_16 p))

  -- Z and N are those of the result
  pub shift_result_8 : let r : Word = shifted_at k false v f in (r.flags.zero ≡ eqb (r.word % 256) 0) × (r.flags.negative ≡ leb 128 (r.word % 256))
  shift_result_8 =
      shift_at_8 (λ r. (r.flags.zero ≡ eqb r.word 0) × (r.flags.negative ≡ leb 128 r.word))
      (through_zero k 0 (v % 256) into, through_sign k 0 (v % 256) into (omega arith))

  pub shift_result_16 : v < 65536 → let r : Word = shifted_at k true v f in (r.flags.zero ≡ eqb r.word 0) × (r.flags.negative ≡ leb 32768 r.word)
  shift_result_16 p =
      shift_at_16 (λ r. (r.flags.zero ≡ eqb r.word 0) × (r.flags.negative ≡ leb 32768 r.word)) p
      (through_zero k 1 v into, through_sign k 1 v into p)

module _ (v : ℕ) (f : Flags) where
  low : v % 256 < 256
  low = omega arith

  -- ASL: twice the value, a bit that goes out is C
  pub asl_8 : let r : Word = shifted_at Asl false v f in r.word % 256 + 256 * bit r.flags.carry ≡ 2 * (v % 256)
  asl_8 = shift_at_8 Asl v f (λ r. r.word + 256 * bit r.flags.carry ≡ 2 * (v % 256)) ((left_word 1 true (v % 256) (with_carry false f) low).same ∙ add-zero _)

  -- ROL: and C goes in below
  pub rol_8 : let r : Word = shifted_at Rol false v f in r.word % 256 + 256 * bit r.flags.carry ≡ 2 * (v % 256) + bit f.carry
  rol_8 = shift_at_8 Rol v f (λ r. r.word + 256 * bit r.flags.carry ≡ 2 * (v % 256) + bit f.carry) (left_word 1 true (v % 256) f low).same

  -- LSR: half the value, the bit that goes out is C
  pub lsr_8 : let r : Word = shifted_at Lsr false v f in 2 * (r.word % 256) + bit r.flags.carry ≡ v % 256
  lsr_8 = shift_at_8 Lsr v f (λ r. 2 * r.word + bit r.flags.carry ≡ v % 256) (right_word 1 true (v % 256) (with_carry false f) low ∙ add-zero _)

  -- ROR: and C goes in at the top
  pub ror_8 : let r : Word = shifted_at Ror false v f in 2 * (r.word % 256) + bit r.flags.carry ≡ v % 256 + 256 * bit f.carry
  ror_8 = shift_at_8 Ror v f (λ r. 2 * r.word + bit r.flags.carry ≡ v % 256 + 256 * bit f.carry) (right_word 1 true (v % 256) f low)

  -- INC: one more, and C stays
  pub inc_8 : let r : Word = shifted_at Inc false v f in (r.word % 256 ≡ (v % 256 + 1) % 256) × (r.flags.carry ≡ f.carry)
  inc_8 = shift_at_8 Inc v f (λ r. (r.word ≡ (v % 256 + 1) % 256) × (r.flags.carry ≡ f.carry)) (inc_word 1 true (v % 256) (with_carry true f) low refl, refl)

  -- DEC: one less, and C stays
  pub dec_8 : let r : Word = shifted_at Dec false v f in (r.word % 256 ≡ (v % 256 + 255) % 256) × (r.flags.carry ≡ f.carry)
  dec_8 = shift_at_8 Dec v f (λ r. (r.word ≡ (v % 256 + 255) % 256) × (r.flags.carry ≡ f.carry)) (dec_word 1 true (v % 256) (with_carry false f) low refl, refl)

  module _ (p : v < 65536) where
    -- ASL: twice the value, a bit that goes out is C
    pub asl_16 : let r : Word = shifted_at Asl true v f in r.word + 65536 * bit r.flags.carry ≡ 2 * v
    asl_16 = shift_at_16 Asl v f (λ r. r.word + 65536 * bit r.flags.carry ≡ 2 * v) p ((left_word 2 true v (with_carry false f) p).same ∙ add-zero _)

    -- ROL: and C goes in below
    pub rol_16 : let r : Word = shifted_at Rol true v f in r.word + 65536 * bit r.flags.carry ≡ 2 * v + bit f.carry
    rol_16 = shift_at_16 Rol v f (λ r. r.word + 65536 * bit r.flags.carry ≡ 2 * v + bit f.carry) p (left_word 2 true v f p).same

    -- LSR: half the value, the bit that goes out is C
    pub lsr_16 : let r : Word = shifted_at Lsr true v f in 2 * r.word + bit r.flags.carry ≡ v
    lsr_16 = shift_at_16 Lsr v f (λ r. 2 * r.word + bit r.flags.carry ≡ v) p (right_word 2 true v (with_carry false f) p ∙ add-zero _)

    -- ROR: and C goes in at the top
    pub ror_16 : let r : Word = shifted_at Ror true v f in 2 * r.word + bit r.flags.carry ≡ v + 65536 * bit f.carry
    ror_16 = shift_at_16 Ror v f (λ r. 2 * r.word + bit r.flags.carry ≡ v + 65536 * bit f.carry) p (right_word 2 true v f p)

    -- INC: one more, and C stays
    pub inc_16 : let r : Word = shifted_at Inc true v f in (r.word ≡ (v + 1) % 65536) × (r.flags.carry ≡ f.carry)
    inc_16 = shift_at_16 Inc v f (λ r. (r.word ≡ (v + 1) % 65536) × (r.flags.carry ≡ f.carry)) p (inc_word 2 true v (with_carry true f) p refl, refl)

    -- DEC: one less, and C stays
    pub dec_16 : let r : Word = shifted_at Dec true v f in (r.word ≡ (v + 65535) % 65536) × (r.flags.carry ≡ f.carry)
    dec_16 = shift_at_16 Dec v f (λ r. (r.word ≡ (v + 65535) % 65536) × (r.flags.carry ≡ f.carry)) p (dec_word 2 true v (with_carry false f) p refl, refl)
