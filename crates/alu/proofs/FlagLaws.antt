-- Words and flags over n bytes, for any operation: what a byte-wise one makes of words, Z of all bytes, N and V of the top one.
use Prim.Native.Nat.{ℕ, zero, suc, ◌+◌, ◌*◌, ◌/◌, ◌%◌, ◌^◌, ◌≤◌, ◌<◌}
use mathlib.Core.Path.{◌≡◌, refl, ap, sym, ◌∙◌}
use mathlib.Core.Bool.{Bool, true, false, ◌&&◌, ◌||◌, and_assoc}
use mathlib.Core.Logic.{◌↔◌}
use native.Mathlib.Nat.{add-zero, mul-le-mul_right, div-add-mod', pow-zero, pow-succ'}
use native.Mathlib.Omega.{arith}
use lib.Dec.{eqb, leb}
use borrow.Author.Tests.{leb-true, leb-false, le-leb, lt-leb, eqb-true, eqb-false, eq-eqb, ne_eqb}
use Rattle.flags.specs.declared.Flags.{Flags}
use Rattle.alu.specs.declared.types.Byte.{Byte}
use Rattle.alu.specs.declared.types.Word.{Word}
use Rattle.alu.specs.Widths.{chain}
use Rattle.alu.proofs.CarryLaws.{low_byte, high_bytes}
use Rattle.alu.proofs.OneByte.{Plain}

-- facts that go together have tests that go together
pub leb_same : (a b c d : ℕ) → (a ≤ b → c ≤ d) → (b < a → d < c) → leb a b ≡ leb c d
leb_same a b c d yea nay = go (leb a b) refl
  where
    go : (t : Bool) → leb a b ≡ t → t ≡ leb c d
    go true q = sym (le-leb c d (yea (leb-true a b q)))
    go false q = sym (lt-leb c d (nay (leb-false a b q)))

pub eqb_same : (a b c d : ℕ) → (a ≡ b) ↔ (c ≡ d) → eqb a b ≡ eqb c d
eqb_same a b c d e = go (eqb c d) refl
  where
    go : (t : Bool) → eqb c d ≡ t → eqb a b ≡ t
    go true q = eq-eqb a b (e.1 (eqb-true c d q))
    go false q = ne_eqb a b (λ h. eqb-false c d q (e.0 h))

-- the bytes below and the bytes above are 0 together
pub zero_joined : (m v w : ℕ) → 0 < m → (eqb v 0 && eqb w 0) ≡ eqb (v + m * w) 0
zero_joined m v w p = go (eqb v 0) refl
  where
    go : (s : Bool) → eqb v 0 ≡ s → (s && eqb w 0) ≡ eqb (v + m * w) 0
    go true q =
        let none : v ≡ 0 = eqb-true v 0 q in
        eqb_same w 0 (v + m * w) 0 (λ e. omega (arith, ap (λ (x : ℕ). m * x) e), λ e. omega (arith, mul-le-mul_right w p))
    go false q = sym (ne_eqb (v + m * w) 0 (λ e. eqb-false v 0 q (omega arith)))

-- the top one of n + 1 bytes
abbrev pub top_of : ℕ → ℕ → ℕ
top_of zero a = a % 256
top_of (suc n) a = top_of n (a / 256)

-- its top bit says that the word is at least half of 256^(n + 1)
pub top_bit : (n a : ℕ) → a < 256 ^ suc n → leb 128 (top_of n a) ≡ leb (128 * 256 ^ n) a
top_bit zero a p = leb_same 128 (a % 256) (128 * 256 ^ 0) a (omega arith) (omega arith)
top_bit (suc n) a p =
    let q : a < 256 * (256 * 256 ^ n) = rw (pow-succ', pow-succ') at p in
    top_bit n (a / 256) (rw pow-succ' (omega arith))
    ∙ leb_same (128 * 256 ^ n) (a / 256) (128 * 256 ^ suc n) a (rw pow-succ' (omega arith)) (rw pow-succ' (omega arith))

module _ (byte : (first top : Bool) → (a b : ℕ) → Flags → Byte) where
  -- a flag that every byte leaves as it was stays
  module _ (flag : Flags → Bool) (law : (first top : Bool) (a b : ℕ) (f : Flags) → flag (byte first top a b f).flags ≡ flag f) where
    pub flag_stays : (n : ℕ) (first : Bool) (a b : ℕ) (f : Flags) → flag (chain byte n first a b f).flags ≡ flag f
    flag_stays zero first a b f = refl
    flag_stays (suc n) first a b f = flag_stays n false (a / 256) (b / 256) _ ∙ law first (eqb n 0) (a % 256) (b % 256) f

  module _ (plain : Plain byte) where
    -- n bytes are below 256^n
    pub chain_small : (n : ℕ) (first : Bool) (a b : ℕ) (f : Flags) → (chain byte n first a b f).word < 256 ^ n
    chain_small zero first a b f = rw pow-zero (omega arith)
    chain_small (suc n) first a b f =
        let l : Byte = byte first (eqb n 0) (a % 256) (b % 256) f in
        rw pow-succ' (omega (
          arith,
          plain.small first (eqb n 0) (a % 256) (b % 256) f (omega arith) (omega arith),
          chain_small n false (a / 256) (b / 256) l.flags,
        ))

    -- a flag that the top byte sets by the operands' bytes and its own is set by the words' top bytes
    module _ (flag : Flags → Bool) (rule : (a b w : ℕ) → Bool) (d : Bool)
        (law : (first : Bool) (a b : ℕ) (f : Flags) → a < 256 → b < 256 → f.decimal ≡ d
        → flag (byte first true a b f).flags ≡ rule a b (byte first true a b f).byte) where
      pub top_flag : (n : ℕ) (first : Bool) (a b : ℕ) (f : Flags) → f.decimal ≡ d
          → let r : Word = chain byte (suc n) first a b f in
          flag r.flags ≡ rule (top_of n a) (top_of n b) (top_of n r.word)
      top_flag zero first a b f m =
          rw (low_byte 0 (plain.small first true (a % 256) (b % 256) f (omega arith) (omega arith)))
          (law first (a % 256) (b % 256) f (omega arith) (omega arith) m)
      top_flag (suc n) first a b f m =
          let l : Byte = byte first (eqb (suc n) 0) (a % 256) (b % 256) f in
          let h : Word = chain byte (suc n) false (a / 256) (b / 256) l.flags in
          rw (high_bytes h.word (plain.small first (eqb (suc n) 0) (a % 256) (b % 256) f (omega arith) (omega arith)))
          (top_flag n false (a / 256) (b / 256) l.flags (plain.mode first (eqb (suc n) 0) (a % 256) (b % 256) f ∙ m))

    -- and so by the words' signs, where it looks at signs alone
    module _ (flag : Flags → Bool) (rule : (a b w : Bool) → Bool) (d : Bool)
        (law : (first : Bool) (a b : ℕ) (f : Flags) → a < 256 → b < 256 → f.decimal ≡ d
        → flag (byte first true a b f).flags ≡ rule (leb 128 a) (leb 128 b) (leb 128 (byte first true a b f).byte)) where
      pub sign_flag : (n : ℕ) (first : Bool) (a b : ℕ) (f : Flags) → a < 256 ^ suc n → b < 256 ^ suc n → f.decimal ≡ d
          → let r : Word = chain byte (suc n) first a b f in
          flag r.flags ≡ rule (leb (128 * 256 ^ n) a) (leb (128 * 256 ^ n) b) (leb (128 * 256 ^ n) r.word)
      sign_flag n first a b f p q m =
          rw (← (top_bit n a p), ← (top_bit n b q), ← (top_bit n _ (chain_small (suc n) first a b f)))
          (top_flag flag (λ x y z. rule (leb 128 x) (leb 128 y) (leb 128 z)) d law n first a b f m)

  -- Z of the bytes is Z of the word
  module _ (law : (first top : Bool) (a b : ℕ) (f : Flags)
      → let r : Byte = byte first top a b f in r.flags.zero ≡ ((first || f.zero) && eqb r.byte 0)) where
    pub zero_flag : (n : ℕ) (first : Bool) (a b : ℕ) (f : Flags)
        → let r : Word = chain byte (suc n) first a b f in r.flags.zero ≡ ((first || f.zero) && eqb r.word 0)
    zero_flag zero first a b f = rw (law first true (a % 256) (b % 256) f, add-zero)
    zero_flag (suc n) first a b f =
        let l : Byte = byte first (eqb (suc n) 0) (a % 256) (b % 256) f in
        zero_flag n false (a / 256) (b / 256) l.flags
        ∙ rw (law first (eqb (suc n) 0) (a % 256) (b % 256) f, and_assoc, zero_joined 256 l.byte _ (omega arith))

  -- an operation that makes each byte of two bytes makes the word of two words
  module _ (make : ℕ → ℕ → ℕ) (none : make 0 0 ≡ 0)
      (block : (h k l m : ℕ) → l < 256 → m < 256 → make (h * 256 + l) (k * 256 + m) ≡ make h k * 256 + make l m)
      (law : (first top : Bool) (a b : ℕ) (f : Flags) → (byte first top a b f).byte ≡ make a b) where
    pub made : (n : ℕ) (first : Bool) (a b : ℕ) (f : Flags) → a < 256 ^ n → b < 256 ^ n → (chain byte n first a b f).word ≡ make a b
    made zero first a b f p q =
        let a-none : a ≡ 0 = omega (arith, rw pow-zero at p) in
        let b-none : b ≡ 0 = omega (arith, rw pow-zero at q) in
        rw (a-none, b-none, none)
    made (suc n) first a b f p q =
        let p' : a < 256 * 256 ^ n = rw pow-succ' at p in
        let q' : b < 256 * 256 ^ n = rw pow-succ' at q in
        let l : Byte = byte first (eqb n 0) (a % 256) (b % 256) f in
        let joined = block (a / 256) (b / 256) (a % 256) (b % 256) (omega arith) (omega arith) in
        rw (made n false (a / 256) (b / 256) l.flags (omega arith) (omega arith), law)
        (omega (arith, rw (div-add-mod' a 256, div-add-mod' b 256) at joined))
