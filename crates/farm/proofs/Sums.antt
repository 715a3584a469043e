-- What a delivery's sum or difference makes of the accumulator at its width: alu's decimal laws, said once over the width.
use Prim.Native.Nat.{ℕ, ◌+◌, ◌*◌, ◌%◌, ◌<◌}
use mathlib.Core.Path.{◌≡◌, refl, ap}
use mathlib.Core.Bool.{Bool, true, false, not}
use native.Mathlib.Omega.{arith}
use Rattle.words.specs.Words.{pick, bit, low_of}
use Rattle.flags.specs.declared.Flags.{Flags}
use Rattle.adder.specs.Digits.{Digits, value}
use Rattle.alu.specs.Alu.{operated_at, adc_byte, sbc_byte, summed}
use Rattle.alu.specs.declared.types.Alu.{Alu}
use Rattle.alu.specs.declared.types.Alu.TheVariants.{Adc, Sbc}
use Rattle.alu.specs.declared.types.Word.{Word}
use Rattle.alu.proofs.At8And16.{adc_decimal_8, sbc_decimal_8, adc_decimal_16, sbc_decimal_16}
use Rattle.cpu.specs.Record.{widths_set}
use Rattle.farm.specs.Pairs.{Delivery, Added, Taken, amount, bytes_of, modulus, adds, takes, wraps_up, wraps_down}

-- the carry that goes before a delivery, and its operation
abbrev pub carry_for : Delivery → Bool
carry_for (Added n) = false
carry_for (Taken n) = true

abbrev pub alu_for : Delivery → Alu
alu_for (Added n) = Adc
alu_for (Taken n) = Sbc

-- a word at its width
abbrev pub narrow : Bool → ℕ → ℕ
narrow w a = pick w a (low_of a)

-- the flags that a sum leaves
pub record Leaves (f g : Flags) : Type 0 where
  pub d : g.decimal ≡ f.decimal
  pub m : g.memsel ≡ f.memsel
  pub widths : widths_set g ≡ widths_set f

pub sum_leaves : (w : Bool) (d : Delivery) (a n : ℕ) (f : Flags) → Leaves f (operated_at (alu_for d) w a n f).flags
unfolding adc_byte sbc_byte summed
sum_leaves true (Added k) a n f = record { d = refl; m = refl; widths = refl }
sum_leaves false (Added k) a n f = record { d = refl; m = refl; widths = refl }
sum_leaves true (Taken k) a n f = record { d = refl; m = refl; widths = refl }
sum_leaves false (Taken k) a n f = record { d = refl; m = refl; widths = refl }

-- digits again, and none lost
pub record Sums (w : Bool) (d : Delivery) (a : ℕ) (r : Word) : Type 0 where
  pub digits : Digits (bytes_of w) (narrow w r.word)
  pub same : value (bytes_of w) (narrow w r.word) + modulus w * wraps_up d r.flags.carry + takes w d
      ≡ value (bytes_of w) (narrow w a) + adds w d + modulus w * wraps_down d r.flags.carry

-- one byte of digits is a byte
pub byte_small : (n : ℕ) → Digits 1 n → n < 256
byte_small n q = omega arith

-- a sum that starts with carry clear and a difference that starts with carry set, as the tally counts them
sum_counts : (M v a n k : ℕ) (c t : Bool) → c ≡ false → n ≡ k → v + M * bit t ≡ a + n + bit c → v + M * bit t + 0 ≡ a + k + M * 0
sum_counts M v a n k c t e f h = omega (arith, h, f, ap bit e)

difference_counts : (M v a n k : ℕ) (c t : Bool) → c ≡ true → n ≡ k → v + n + bit (not c) ≡ a + M * bit (not t) → v + M * 0 + k ≡ a + 0 + M * bit (not t)
difference_counts M v a n k c t e f h = omega (arith, h, f, ap (λ (x : Bool). bit (not x)) e)

pub sums : (w : Bool) (d : Delivery) (a : ℕ) (f : Flags) → f.decimal ≡ true → f.carry ≡ carry_for d → Digits (bytes_of w) (narrow w a)
    → Digits (bytes_of w) (amount d) → Sums w d a (operated_at (alu_for d) w a (amount d) f)
sums true (Added n) a f m c p q =
    let k = adc_decimal_16 a n f m p q in record { digits = k.bytes; same = sum_counts _ _ _ _ _ f.carry (operated_at Adc true a n f).flags.carry c refl k.same }
sums true (Taken n) a f m c p q =
    let k = sbc_decimal_16 a n f m p q in record { digits = k.bytes; same = difference_counts _ _ _ _ _ f.carry (operated_at Sbc true a n f).flags.carry c refl k.same }
sums false (Added n) a f m c p q =
    let small : n % 256 ≡ n = omega (arith, byte_small n q) in
    let k = adc_decimal_8 a n f m p (rw small q) in
    record { digits = k.bytes; same = sum_counts _ _ _ _ _ f.carry (operated_at Adc false a n f).flags.carry c (ap (value 1) small) k.same }
sums false (Taken n) a f m c p q =
    let small : n % 256 ≡ n = omega (arith, byte_small n q) in
    let k = sbc_decimal_8 a n f m p (rw small q) in
    record { digits = k.bytes; same = difference_counts _ _ _ _ _ f.carry (operated_at Sbc false a n f).flags.carry c (ap (value 1) small) k.same }
