-- One byte of ADC and of SBC, binary and decimal, in the words of document 01.
use Rattle.std.specs.Prelude.{ℕ, ◌+◌, ◌-◌, ◌*◌, ◌/◌, ◌%◌, Bool, true, false, not, ◌&&◌, ◌||◌, ltb, leb}
use Rattle.std.specs.Bool.{beq}
use Rattle.words.specs.Words.{pick, bit}
use Rattle.adder.specs.declared.Sum.{Sum}

-- the binary sum of two bytes and a carry, and its half carry
abbrev pub plain : (a b : ℕ) → Bool → ℕ
plain a b c = a + b + bit c

abbrev pub half : (a b : ℕ) → Bool → Bool
half a b c = ltb 15 (a % 16 + b % 16 + bit c)

-- two bytes of one sign whose sum has the other
abbrev pub overflow : (a b s : ℕ) → Bool
overflow a b s = beq (leb 128 a) (leb 128 b) && not (beq (leb 128 a) (leb 128 (s % 256)))

-- "if exactly one of half carry and low digit above 9 holds, add 6; if both, add 6 to the low digit only"
abbrev pub add_six : (half above : Bool) → ℕ → ℕ
add_six true true s = s / 16 * 16 + (s % 16 + 6) % 16
add_six true false s = s + 6
add_six false true s = s + 6
add_six false false s = s

-- "then add 60 hex if the sum exceeds FF or its second digit exceeds 9"
abbrev pub add_sixty : ℕ → ℕ
add_sixty s = pick (ltb 255 s || ltb 9 (s / 16 % 16)) (s + 0x60) s

-- "without half carry take 6 from the low digit alone"
abbrev pub take_six : (half : Bool) → ℕ → ℕ
take_six true s = s
take_six false s = s / 16 * 16 + (s % 16 + 10) % 16

-- "on a borrow take 60 hex from the high digit alone"
abbrev pub take_sixty : (borrow : Bool) → ℕ → ℕ
take_sixty true s = (s / 16 + 10) % 16 * 16 + s % 16
take_sixty false s = s

-- ADC: V is taken after the first correction, carry after the last
unfoldable pub adc_binary : (a b : ℕ) → Bool → Sum
adc_binary a b c = record {
  byte = plain a b c % 256;
  carry = ltb 255 (plain a b c);
  overflow = overflow a b (plain a b c);
}

unfoldable pub adc_decimal : (a b : ℕ) → Bool → Sum
adc_decimal a b c =
    let first : ℕ = add_six (half a b c) (ltb 9 (plain a b c % 16)) (plain a b c) in
    let last : ℕ = add_sixty first in
    record { byte = last % 256; carry = ltb 255 last; overflow = overflow a b first }

-- SBC adds the byte's complement; carry, clear on a borrow, and V are the binary ones in either mode
abbrev pub complement : ℕ → ℕ
complement b = 255 - b

unfoldable pub sbc_decimal : (a b : ℕ) → Bool → Sum
sbc_decimal a b c =
    let s : Sum = adc_binary a (complement b) c in record {
      byte = take_sixty (not s.carry) (take_six (half a (complement b) c) s.byte);
      carry = s.carry;
      overflow = s.overflow;
    }

-- in either mode
unfoldable pub adc_of : (decimal : Bool) → (a b : ℕ) → Bool → Sum
adc_of true a b c = adc_decimal a b c
adc_of false a b c = adc_binary a b c

unfoldable pub sbc_of : (decimal : Bool) → (a b : ℕ) → Bool → Sum
sbc_of true a b c = sbc_decimal a b c
sbc_of false a b c = adc_binary a (complement b) c
