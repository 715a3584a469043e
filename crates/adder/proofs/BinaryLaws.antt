-- On bytes binary ADC adds and SBC takes away, with 256 for a carry or less 256 for a borrow; in either mode the result is a byte.
use Prim.Native.Nat.{ℕ, ◌+◌, ◌*◌, ◌%◌, ◌≤◌, ◌<◌}
use mathlib.Core.Path.{◌≡◌, refl}
use mathlib.Core.Bool.{Bool, true, false, not}
use native.Mathlib.Omega.{arith}
use lib.Dec.{ltb, leb}
use borrow.Author.Tests.{ltb-true, ltb-false, leb-true, leb-false, le-leb, lt-leb}
use Rattle.words.specs.Words.{bit}
use Rattle.adder.specs.Adder.{plain, half, take_six, take_sixty, complement, adc_binary, adc_decimal, sbc_decimal, adc_of, sbc_of}
use Rattle.adder.specs.declared.Sum.{Sum}

-- a carry is 256, for a sum of two bytes and a carry
carry_out_lem : (s : ℕ) → s < 512 → s % 256 + 256 * bit (ltb 255 s) ≡ s
carry_out_lem s h = go (ltb 255 s) refl
  where
    go : (t : Bool) → ltb 255 s ≡ t → s % 256 + 256 * bit t ≡ s
    go true e = omega (arith, ltb-true 255 s e)
    go false e = omega (arith, ltb-false 255 s e)

-- a bit and its complement are 1 together
pub bit_not : (t : Bool) → bit t + bit (not t) ≡ 1
bit_not true = refl
bit_not false = refl

module _ (a b : ℕ) (c : Bool) (p : a < 256) (q : b < 256) where
  -- the byte with 256 for a carry is the sum
  pub adc_adds : let s : Sum = adc_of false a b c in s.byte + 256 * bit s.carry ≡ a + b + bit c
  unfolding adc_of adc_binary
  adc_adds = carry_out_lem (plain a b c) (omega (arith, bit_not c))

  -- the byte is the difference, with 256 lent for a borrow
  pub sbc_takes : let s : Sum = sbc_of false a b c in s.byte + b + bit (not c) ≡ a + 256 * bit (not s.carry)
  unfolding sbc_of adc_binary
  sbc_takes =
      let s : ℕ = plain a (complement b) c in
      omega (arith, carry_out_lem s (omega (arith, bit_not c)), bit_not c, bit_not (ltb 255 s))

-- the complement has the other sign
pub sign_complement : (b : ℕ) → b < 256 → leb 128 (complement b) ≡ not (leb 128 b)
sign_complement b q = go (leb 128 b) refl
  where
    go : (t : Bool) → leb 128 b ≡ t → leb 128 (complement b) ≡ not t
    go true e = let h : 128 ≤ b = leb-true 128 b e in lt-leb 128 (complement b) (omega arith)
    go false e = let h : b < 128 = leb-false 128 b e in le-leb 128 (complement b) (omega arith)

-- what is taken from a digit leaves a byte
take_six_small : (h : Bool) (s : ℕ) → s < 256 → take_six h s < 256
take_six_small true s t = t
take_six_small false s t = omega arith

take_sixty_small : (h : Bool) (s : ℕ) → s < 256 → take_sixty h s < 256
take_sixty_small true s t = omega arith
take_sixty_small false s t = t

-- in either mode the result is a byte, whatever the operands
pub adc_small : (d : Bool) (a b : ℕ) (c : Bool) → (adc_of d a b c).byte < 256
unfolding adc_of adc_decimal adc_binary
adc_small true a b c = omega arith
adc_small false a b c = omega arith

pub sbc_small : (d : Bool) (a b : ℕ) (c : Bool) → (sbc_of d a b c).byte < 256
unfolding sbc_of sbc_decimal adc_binary
sbc_small true a b c =
    let s : ℕ = plain a (complement b) c in
    take_sixty_small (not (ltb 255 s)) _ (take_six_small (half a (complement b) c) (s % 256) (omega arith))
sbc_small false a b c = omega arith
