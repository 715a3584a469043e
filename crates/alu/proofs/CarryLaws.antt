-- The carry leads from byte to byte: what a byte adds or takes, n bytes add or take. Binary numbers and decimal ones alike:
-- a byte's worth is `of` it, and each byte counts `base` times as much as the one below.
use Prim.Native.Nat.{ℕ, zero, suc, ◌+◌, ◌-◌, ◌*◌, ◌/◌, ◌%◌, ◌^◌, ◌≤◌, ◌<◌}
use mathlib.Core.Path.{◌≡◌, refl, ap}
use mathlib.Core.Bool.{Bool, true, false, not}
use native.Mathlib.Nat.{pow-zero, pow-succ', add-mod_right, mod-eq_of_lt}
use native.Mathlib.Omega.{arith}
use lib.Dec.{eqb}
use Rattle.words.specs.Words.{bit}
use Rattle.flags.specs.declared.Flags.{Flags}
use Rattle.adder.specs.Digits.{Bytes, worth}
use Rattle.adder.proofs.BinaryLaws.{bit_not}
use Rattle.alu.specs.declared.types.Byte.{Byte}
use Rattle.alu.specs.declared.types.Word.{Word}
use Rattle.alu.specs.Widths.{chain}

-- a byte below n bytes is the first of n + 1
module _ {v : ℕ} (w : ℕ) (s : v < 256) where
  pub low_byte : (v + 256 * w) % 256 ≡ v
  low_byte = omega arith

  pub high_bytes : (v + 256 * w) / 256 ≡ w
  high_bytes = omega arith

-- an equation between operands a and b, a result w, and the carries before and after, at a weight m of the carry after.
-- It may be told of a byte, or of n bytes; told of a byte and of the bytes above, it holds of all of them.
abbrev pub Equation : Type 1
Equation = (m a b w : ℕ) → (before after : Bool) → Type 0

pub record Rule (base : ℕ) (Says : Equation) : Type 0 where
  pub none : (c : Bool) → Says 1 0 0 0 c c
  pub more : (m a b w a' b' w' : ℕ) (c d e : Bool) → Says base a b w c d → Says m a' b' w' d e
      → Says (base * m) (a + base * a') (b + base * b') (w + base * w') c e

module _ (Such : ℕ → Type 0) (base : ℕ) (of : ℕ → ℕ) (Says : Equation) where
  -- of a byte's result: it is of the kind again, D is as it was, and the equation holds
  pub record OfByte (d : Bool) (a b : ℕ) (f : Flags) (r : Byte) : Type 0 where
    pub such : Such r.byte
    pub mode : r.flags.decimal ≡ d
    pub same : Says base (of a) (of b) (of r.byte) f.carry r.flags.carry

  pub record OfBytes (n a b : ℕ) (f : Flags) (r : Word) : Type 0 where
    pub bytes : Bytes Such n r.word
    pub same : Says (base ^ n) (worth base of n a) (worth base of n b) (worth base of n r.word) f.carry r.flags.carry

  module _ (fits : (b : ℕ) → Such b → b < 256) (rule : Rule base Says) where
    module _ (n v w : ℕ) (p : Such v) where
      bytes_joined : Bytes Such n w → Bytes Such (suc n) (v + 256 * w)
      bytes_joined q = rw (low_byte w (fits v p), high_bytes w (fits v p)) (p, q)

      worth_joined : worth base of (suc n) (v + 256 * w) ≡ of v + base * worth base of n w
      worth_joined = rw (low_byte w (fits v p), high_bytes w (fits v p))

    module _ (d : Bool) (byte : (first top : Bool) → (a b : ℕ) → Flags → Byte)
        (law : (first top : Bool) (a b : ℕ) (f : Flags) → Such a → Such b → f.decimal ≡ d → OfByte d a b f (byte first top a b f)) where
      -- what holds of each byte holds of n bytes
      pub carried : (n : ℕ) (first : Bool) (a b : ℕ) (f : Flags) → Bytes Such n a → Bytes Such n b → f.decimal ≡ d
          → OfBytes n a b f (chain byte n first a b f)
      carried zero first a b f p q m = record { bytes = refl; same = rw pow-zero (rule.none f.carry) }
      carried (suc n) first a b f p q m =
          let l : Byte = byte first (eqb n 0) (a % 256) (b % 256) f in
          let h : Word = chain byte n false (a / 256) (b / 256) l.flags in
          let t = law first (eqb n 0) (a % 256) (b % 256) f p.0 q.0 m in
          let r = carried n false (a / 256) (b / 256) l.flags p.1 q.1 t.mode in
          record {
            bytes = bytes_joined n l.byte h.word t.such r.bytes;
            same = rw (worth_joined n l.byte h.word t.such, pow-succ') (rule.more _ _ _ _ _ _ _ _ _ _ t.same r.same);
          }

-- binary numbers: any byte, worth itself, so that n bytes are worth what they are
abbrev pub Any : ℕ → Type 0
Any b = b < 256

abbrev pub itself : ℕ → ℕ
itself b = b

-- a number below 256^n is n bytes and nothing above, and the other way round
pub bytes_of : (n a : ℕ) → a < 256 ^ n → Bytes Any n a
bytes_of zero a p = let q : a < 1 = rw pow-zero at p in omega arith
bytes_of (suc n) a p = let q : a < 256 * 256 ^ n = rw pow-succ' at p in (omega arith, bytes_of n (a / 256) (omega arith))

pub below : (Such : ℕ → Type 0) (n a : ℕ) → Bytes Such n a → a < 256 ^ n
below Such zero a p = rw pow-zero (omega arith)
below Such (suc n) a p = let q : a / 256 < 256 ^ n = below Such n (a / 256) p.1 in rw pow-succ' (omega arith)

-- n bytes that are worth themselves are worth the number
whole : (n a : ℕ) → Bytes Any n a → worth 256 itself n a ≡ a
whole zero a p = omega arith
whole (suc n) a p = omega (arith, whole n (a / 256) p.1)

module _ (Says : Equation) where
  -- a word below 256^n, with an equation between numbers
  pub record Binary (n a b : ℕ) (f : Flags) (r : Word) : Type 0 where
    pub small : r.word < 256 ^ n
    pub same : Says (256 ^ n) a b r.word f.carry r.flags.carry

  module _ (rule : Rule 256 Says) (d : Bool) (byte : (first top : Bool) → (a b : ℕ) → Flags → Byte)
      (law : (first top : Bool) (a b : ℕ) (f : Flags) → Any a → Any b → f.decimal ≡ d → OfByte Any 256 itself Says d a b f (byte first top a b f)) where
    -- what holds of each byte holds of binary numbers
    pub binary : (n : ℕ) (first : Bool) (a b : ℕ) (f : Flags) → a < 256 ^ n → b < 256 ^ n → f.decimal ≡ d
        → Binary n a b f (chain byte n first a b f)
    binary n first a b f p q m =
        let r = carried Any 256 itself Says (λ b s. s) rule d byte law n first a b f (bytes_of n a p) (bytes_of n b q) m in
        let w : ℕ = (chain byte n first a b f).word in
        record {
          small = below Any n w r.bytes;
          same = rw (whole n a (bytes_of n a p), whole n b (bytes_of n b q), whole n w r.bytes) at r.same;
        }

-- a number inside m is what is left when a carry of m is dropped, or a borrow of m lent
pub wrapped : (m w x : ℕ) (t : Bool) → w < m → w + m * bit t ≡ x → x % m ≡ w
wrapped m w x true p e = let up : x ≡ w + m = omega arith in rw (up, add-mod_right, mod-eq_of_lt p)
wrapped m w x false p e = let same : x ≡ w = omega arith in rw (same, mod-eq_of_lt p)

pub difference : (m a b w : ℕ) (t : Bool) → w < m → b ≤ m → w + b ≡ a + m * bit (not t) → (a + (m - b)) % m ≡ w
difference m a b w t p q e = wrapped m w (a + (m - b)) t p (omega (arith, ap (λ (x : ℕ). m * x) (bit_not t)))
