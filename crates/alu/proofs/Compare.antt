-- CMP over n bytes: C, Z and N of a binary difference that starts with no borrow, and the register and V as they were.
use Prim.Native.Nat.{ℕ, zero, suc, ◌+◌, ◌-◌, ◌*◌, ◌/◌, ◌%◌, ◌^◌, ◌<◌}
use mathlib.Core.Path.{◌≡◌, refl, sym, ◌∙◌}
use mathlib.Core.Bool.{Bool, true, false, not, ◌||◌}
use native.Mathlib.Omega.{arith}
use lib.Dec.{eqb, leb}
use borrow.Author.Tests.{le-leb, lt-leb}
use Rattle.words.specs.Words.{bit}
use Rattle.flags.specs.Flags.{set_nvzc, set_id}
use Rattle.flags.specs.declared.Flags.{Flags}
use Rattle.alu.specs.Alu.{cmp_byte, sbc_byte, summed, operated}
use Rattle.alu.specs.declared.types.Alu.TheVariants.{Cmp, Sbc}
use Rattle.alu.specs.declared.types.Word.{Word}
use Rattle.alu.specs.Widths.{chain}
use Rattle.alu.proofs.CarryLaws.{difference}
use Rattle.alu.proofs.FlagLaws.{eqb_same, flag_stays, made}
use Rattle.alu.proofs.Widths.{sbc_binary, result_zero, result_sign}

-- the flags of a compare that goes on, and those of a difference beside it
pub record Beside (first : Bool) (f g : Flags) : Type 0 where
  pub mode : g.decimal ≡ false
  pub carry : g.carry ≡ (first || f.carry)
  pub zero : g.zero ≡ f.zero

-- the same after the top byte, which has set N
pub record Alike (f g : Flags) : Type 0 where
  pub beside : Beside false f g
  pub negative : g.negative ≡ f.negative

module _ (first top : Bool) (a b : ℕ) (f g : Flags) (s : Beside first f g) where
  byte_beside : Beside false (operated Cmp first top a b f).flags (operated Sbc first top a b g).flags
  unfolding cmp_byte sbc_byte summed
  byte_beside = record { mode = s.mode; carry = rw (s.mode, s.carry); zero = rw (s.mode, s.carry, s.zero) }

byte_sign : (first : Bool) (a b : ℕ) (f g : Flags) → Beside first f g
    → (operated Sbc first true a b g).flags.negative ≡ (operated Cmp first true a b f).flags.negative
unfolding cmp_byte sbc_byte summed
byte_sign first a b f g s = rw (s.mode, s.carry)

-- a compare has the flags C, Z and N of the difference
alike : (n : ℕ) (first : Bool) (a b : ℕ) (f g : Flags) → Beside first f g
    → Alike (chain (operated Cmp) (suc n) first a b f).flags (chain (operated Sbc) (suc n) first a b g).flags
alike zero first a b f g s = record {
  beside = byte_beside first true (a % 256) (b % 256) f g s;
  negative = byte_sign first (a % 256) (b % 256) f g s;
}
alike (suc n) first a b f g s =
    alike n false (a / 256) (b / 256) _ _ (byte_beside first (eqb (suc n) 0) (a % 256) (b % 256) f g s)

-- the register stays
kept : (n : ℕ) (first : Bool) (a b : ℕ) (f : Flags) → a < 256 ^ n → b < 256 ^ n → (chain (operated Cmp) n first a b f).word ≡ a
unfolding cmp_byte
kept = made (operated Cmp) (λ x y. x) refl (λ h k l m s t. refl) (λ first top a b f. refl)

-- and so does V
same_overflow : (n : ℕ) (first : Bool) (a b : ℕ) (f : Flags) → (chain (operated Cmp) n first a b f).flags.overflow ≡ f.overflow
unfolding cmp_byte
same_overflow = flag_stays (operated Cmp) (λ g. g.overflow) (λ first top a b f. refl)

-- a difference inside m, with m lent where `t` is false: what it says of the operands
module _ (m a b w : ℕ) (small : w < m) (fits : b < m) where
  no_borrow : (t : Bool) → w + b ≡ a + m * bit (not t) → t ≡ leb b a
  no_borrow true e = sym (le-leb b a (omega arith))
  no_borrow false e = sym (lt-leb b a (omega arith))

  no_difference : (t : Bool) → w + b ≡ a + m * bit (not t) → a < m → eqb w 0 ≡ eqb a b
  no_difference true e p = eqb_same w 0 a b (omega arith)
  no_difference false e p = eqb_same w 0 a b (omega arith)

-- of two words that are compared
pub record Compared (n a b : ℕ) (f : Flags) (r : Word) : Type 0 where
  pub kept : r.word ≡ a
  pub carry : r.flags.carry ≡ leb b a
  pub zero : r.flags.zero ≡ eqb a b
  pub negative : r.flags.negative ≡ leb (128 * 256 ^ n) ((a + (256 ^ suc n - b)) % 256 ^ suc n)
  pub overflow : r.flags.overflow ≡ f.overflow

-- CMP: C says that the register is not below the value, Z that they are equal, N is the difference's top bit; the register and V stay
pub compared : (n a b : ℕ) (f : Flags) → a < 256 ^ suc n → b < 256 ^ suc n → Compared n a b f (chain (operated Cmp) (suc n) true a b f)
compared n a b f p q =
    let g : Flags = set_id (set_nvzc f f.negative f.overflow f.zero true) f.interruptdisable false in
    let d : Word = chain (operated Sbc) (suc n) true a b g in
    let t = sbc_binary (suc n) true a b g p q refl in
    let e : d.word + b ≡ a + 256 ^ suc n * bit (not d.flags.carry) = omega (arith, t.same) in
    let same = alike n true a b f g (record { mode = refl; carry = refl; zero = refl }) in
    record {
      kept = kept (suc n) true a b f p q;
      carry = sym same.beside.carry ∙ no_borrow (256 ^ suc n) a b d.word t.small q d.flags.carry e;
      zero =
          sym same.beside.zero
          ∙ result_zero Sbc tt n true a b g
          ∙ no_difference (256 ^ suc n) a b d.word t.small q d.flags.carry e p;
      negative =
          rw (difference (256 ^ suc n) a b d.word d.flags.carry t.small (omega arith) e)
          (sym same.negative ∙ result_sign Sbc tt n true a b g);
      overflow = same_overflow (suc n) true a b f;
    }
