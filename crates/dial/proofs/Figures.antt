-- Figures of dials and of a line by one, by computation of the definitions.
use Prim.Native.Nat.{ℕ}
use mathlib.Core.Path.{◌≡◌, refl}
use mathlib.Core.Bool.{false}
use mathlib.Core.List.{[], ◌∷◌}
use Rattle.cpu.specs.declared.types.Kind.TheVariants.{Opcode}
use Rattle.trace.specs.Text.{digits_of, decimal, hex_digit, hex2}
use Rattle.dial.specs.declared.Dial.{Dial}
use Rattle.dial.specs.Dial.{front_of, of_tens, dial_of, turn_of, tail_text, near_text, marks_of}

abbrev shown : (front width tens last : ℕ) → Dial
shown f w t l = record { front = f; width = w; tens = t; last = l }

-- a last digit alone
pub none_figure : dial_of 0 ≡ shown 0 0 0 48
unfolding digits_of decimal front_of of_tens dial_of
none_figure = refl

pub nine_figure : dial_of 9 ≡ shown 0 0 0 57
unfolding digits_of decimal front_of of_tens dial_of
nine_figure = refl

pub ten_figure : dial_of 10 ≡ shown 0x31 1 1 48
unfolding digits_of decimal front_of of_tens dial_of
ten_figure = refl

-- the first digit lies lowest
pub many_figure : dial_of 1234567 ≡ shown 0x363534333231 6 123456 55
unfolding digits_of decimal front_of of_tens dial_of
many_figure = refl

-- after 9 comes 10, after 1999 comes 2000, and after the last number of the dial its first
pub nine_turned : turn_of (shown 0 0 0 57) ≡ shown 0x31 1 1 48
unfolding digits_of decimal front_of of_tens turn_of
nine_turned = refl

pub carry_turned : turn_of (shown 0x393931 3 199 57) ≡ shown 0x303032 3 200 48
unfolding digits_of decimal front_of of_tens turn_of
carry_turned = refl

pub last_turned : turn_of (shown 0x39393939393939 7 9999999 57) ≡ shown 0 0 0 48
unfolding digits_of decimal front_of of_tens turn_of
last_turned = refl

-- tab O tab R tab 0 0
pub opcode_marks : marks_of Opcode false ≡ 0x30300952094F09
unfolding marks_of
opcode_marks = refl

-- 123456 O R 00ABCD 5F
pub line_figure :
    near_text 0x3534333231 5 54 0x30300952094F09 0xABCD 0x5F
    ≡
    49 ∷ 50 ∷ 51 ∷ 52 ∷ 53 ∷ 54 ∷ 9 ∷ 79 ∷ 9 ∷ 82 ∷ 9 ∷ 48 ∷ 48 ∷ 65 ∷ 66 ∷ 67 ∷ 68 ∷ 9 ∷ 53 ∷ 70 ∷ 10 ∷ []
unfolding hex_digit hex2 tail_text near_text
line_figure = refl
