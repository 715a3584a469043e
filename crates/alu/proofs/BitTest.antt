-- BIT over n bytes: Z of the AND, N and V the value's top bits, and the register and C as they were; with an operand in the program Z alone.
use Prim.Native.Nat.{ℕ, zero, suc, ◌*◌, ◌/◌, ◌%◌, ◌^◌, ◌<◌}
use mathlib.Core.Path.{◌≡◌, refl, ◌∙◌}
use mathlib.Core.Bool.{Bool, false, ◌&&◌, ◌||◌}
use native.Mathlib.Nat.{pow-succ', div-div-eq-div-mul}
use native.Mathlib.Omega.{arith}
use lib.Dec.{eqb, leb}
use lib.Bits.{bit_and}
use Rattle.flags.specs.declared.Flags.{Flags}
use Rattle.alu.specs.Alu.{and_byte, bit_byte, nz, operated}
use Rattle.alu.specs.declared.types.Alu.{Alu}
use Rattle.alu.specs.declared.types.Alu.TheVariants.{And, Bit, BitImmediate}
use Rattle.alu.specs.declared.types.Word.{Word}
use Rattle.alu.specs.Widths.{chain}
use Rattle.alu.proofs.FlagLaws.{top_of, flag_stays, top_flag, sign_flag, made}
use Rattle.alu.proofs.OneByte.{operated_plain}
use Rattle.alu.proofs.Widths.{and_word, result_zero}

-- the top byte, as a quotient
top_quotient : (n a : ℕ) → a < 256 ^ suc n → top_of n a ≡ a / 256 ^ n
top_quotient zero a p = omega arith
top_quotient (suc n) a p =
    let q : a < 256 * (256 * 256 ^ n) = rw (pow-succ', pow-succ') at p in
    top_quotient n (a / 256) (rw pow-succ' (omega arith)) ∙ rw (div-div-eq-div-mul, pow-succ')

-- Z goes from byte to byte as AND's does
module _ (k : Alu) (law : (first top : Bool) (a b : ℕ) (f : Flags) → (operated k first top a b f).flags.zero ≡ ((first || f.zero) && eqb (bit_and a b) 0)) where
  as_and : (n : ℕ) (first : Bool) (a b : ℕ) (f g : Flags) → f.zero ≡ g.zero
      → (chain (operated k) n first a b f).flags.zero ≡ (chain (operated And) n first a b g).flags.zero
  unfolding and_byte nz
  as_and zero first a b f g e = e
  as_and (suc n) first a b f g e =
      as_and n false (a / 256) (b / 256) _ _ (law first (eqb n 0) (a % 256) (b % 256) f ∙ rw e)

  bit_zero : (n : ℕ) (first : Bool) (a b : ℕ) (f : Flags) → a < 256 ^ suc n → b < 256 ^ suc n
      → (chain (operated k) (suc n) first a b f).flags.zero ≡ ((first || f.zero) && eqb (bit_and a b) 0)
  bit_zero n first a b f p q = as_and (suc n) first a b f f refl ∙ result_zero And tt n first a b f ∙ rw (and_word (suc n) first a b f p q)

-- of a value that is tested
pub record Tested (n : ℕ) (first : Bool) (a b : ℕ) (f : Flags) (r : Word) : Type 0 where
  pub kept : r.word ≡ a
  pub zero : r.flags.zero ≡ ((first || f.zero) && eqb (bit_and a b) 0)
  pub negative : r.flags.negative ≡ leb (128 * 256 ^ n) b
  pub overflow : r.flags.overflow ≡ eqb (b / 256 ^ n / 64 % 2) 1
  pub carry : r.flags.carry ≡ f.carry

module _ (n : ℕ) (first : Bool) (a b : ℕ) (f : Flags) (p : a < 256 ^ suc n) (q : b < 256 ^ suc n) where
  -- BIT: the register and C stay, Z is of the AND, N and V are the value's two top bits
  pub tested : Tested n first a b f (chain (operated Bit) (suc n) first a b f)
  unfolding bit_byte
  tested = record {
    kept = made (operated Bit) (λ x y. x) refl (λ h k l m s t. refl) (λ first top a b f. refl) (suc n) first a b f p q;
    zero = bit_zero Bit (λ first top a b f. refl) n first a b f p q;
    negative =
        sign_flag (operated Bit) (operated_plain Bit) (λ g. g.negative) (λ x y z. y) f.decimal (λ first a b g s t m. refl) n first a b f p q refl;
    overflow =
        rw (← (top_quotient n b q))
        (top_flag (operated Bit) (operated_plain Bit) (λ g. g.overflow) (λ x y z. eqb (y / 64 % 2) 1) f.decimal (λ first a b g s t m. refl) n first a b f refl);
    carry = flag_stays (operated Bit) (λ g. g.carry) (λ first top a b f. refl) (suc n) first a b f;
  }

-- of a value that is tested for Z alone
pub record OnlyZero (first : Bool) (a b : ℕ) (f : Flags) (r : Word) : Type 0 where
  pub kept : r.word ≡ a
  pub zero : r.flags.zero ≡ ((first || f.zero) && eqb (bit_and a b) 0)
  pub negative : r.flags.negative ≡ f.negative
  pub overflow : r.flags.overflow ≡ f.overflow
  pub carry : r.flags.carry ≡ f.carry

-- BIT with its operand in the program changes Z alone
pub only_zero : (n : ℕ) (first : Bool) (a b : ℕ) (f : Flags) → a < 256 ^ suc n → b < 256 ^ suc n
    → OnlyZero first a b f (chain (operated BitImmediate) (suc n) first a b f)
unfolding bit_byte
only_zero n first a b f p q = record {
  kept = made (operated BitImmediate) (λ x y. x) refl (λ h k l m s t. refl) (λ first top a b f. refl) (suc n) first a b f p q;
  zero = bit_zero BitImmediate (λ first top a b f. refl) n first a b f p q;
  negative = flag_stays (operated BitImmediate) (λ g. g.negative) (λ first top a b f. refl) (suc n) first a b f;
  overflow = flag_stays (operated BitImmediate) (λ g. g.overflow) (λ first top a b f. refl) (suc n) first a b f;
  carry = flag_stays (operated BitImmediate) (λ g. g.carry) (λ first top a b f. refl) (suc n) first a b f;
}
