-- Figures of one byte. The digit laws can't see a correction of the wrong part of the sum: operands that are no digits can.
use Prim.Native.Nat.{ℕ}
use mathlib.Core.Path.{◌≡◌, refl}
use mathlib.Core.Bool.{Bool, true, false}
use mathlib.Core.List.{List, [], ◌∷◌, map}
use Rattle.adder.specs.Adder.{adc_binary, adc_decimal, sbc_decimal}
use Rattle.adder.specs.declared.Sum.{Sum}

pub record Figure : Type 0 where
  pub gives : Sum
  pub says : Sum

abbrev is : Sum → (byte : ℕ) → (c v : Bool) → Figure
is s b c v = record { gives = s; says = record { byte = b; carry = c; overflow = v } }

abbrev pub figures : List Figure
figures =
    -- document 01
    is (adc_decimal 0x99 0x01 false) 0x00 true false
    ∷ is (sbc_decimal 0x00 0x01 true) 0x99 false false
    ∷ is (adc_decimal 0x0F 0x0F true) 0x15 false false
    ∷ is (adc_binary 0x7F 0x01 false) 0x80 false true
    -- V after the first correction: after the last it would be clear
    ∷ is (adc_decimal 0x50 0x50 false) 0x00 true true
    -- operands that are no digits: 6 from the low digit alone, 60 from the high digit alone
    ∷ is (sbc_decimal 0x00 0x0F true) 0x9B false false
    ∷ is (sbc_decimal 0x00 0xFF true) 0xAB false false
    -- two vectors on which several cores agree: 6 added to the low digit only; V with operands that are no digits
    ∷ is (adc_decimal 0xFD 0xFF true) 0x53 true false
    ∷ is (adc_decimal 0x27 0x7B true) 0x09 true true
    ∷ []

pub figures_hold : map (λ (f : Figure). f.gives) figures ≡ map (λ (f : Figure). f.says) figures
unfolding adc_binary adc_decimal sbc_decimal
figures_hold = refl
