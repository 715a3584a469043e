-- Figures of the text, by computation of the definitions.
use Prim.Native.Nat.{ℕ}
use mathlib.Core.Path.{◌≡◌, refl}
use mathlib.Core.Bool.{Bool, true, false}
use mathlib.Core.List.{List, [], ◌∷◌}
use lib.Seq.{sets}
use Rattle.cpu.specs.declared.types.Kind.{Kind}
use Rattle.cpu.specs.declared.types.Kind.TheVariants.{Opcode, Program, Data, Invalid}
use Rattle.cpu.specs.declared.types.Request.{Request}
use Rattle.trace.specs.Text.{digits_of, decimal, hex_digit, hex2, hex6, line_text, lines_text, header, trace_text, fits}

abbrev line : Kind → (write : Bool) → (addr byte : ℕ) → Request
line k w a b = record { write = w; kind = k; addr = a; byte = b }

-- document 01's trace: PC 8000, 8-bit, CLC then ADC #01, budget 4
pub trace_figure :
    trace_text
    (line Opcode false 0x8000 0x18
    ∷ line Invalid false 0x8001 0x69
    ∷ line Opcode false 0x8001 0x69
    ∷ line Program false 0x8002 0x01
    ∷ [])
    ≡
    98 ∷ 117 ∷ 115 ∷ 9 ∷ 49 ∷ 10
    ∷ 49 ∷ 9 ∷ 79 ∷ 9 ∷ 82 ∷ 9 ∷ 48 ∷ 48 ∷ 56 ∷ 48 ∷ 48 ∷ 48 ∷ 9 ∷ 49 ∷ 56 ∷ 10
    ∷ 50 ∷ 9 ∷ 73 ∷ 9 ∷ 82 ∷ 9 ∷ 48 ∷ 48 ∷ 56 ∷ 48 ∷ 48 ∷ 49 ∷ 9 ∷ 54 ∷ 57 ∷ 10
    ∷ 51 ∷ 9 ∷ 79 ∷ 9 ∷ 82 ∷ 9 ∷ 48 ∷ 48 ∷ 56 ∷ 48 ∷ 48 ∷ 49 ∷ 9 ∷ 54 ∷ 57 ∷ 10
    ∷ 52 ∷ 9 ∷ 80 ∷ 9 ∷ 82 ∷ 9 ∷ 48 ∷ 48 ∷ 56 ∷ 48 ∷ 48 ∷ 50 ∷ 9 ∷ 48 ∷ 49 ∷ 10
    ∷ []
unfolding digits_of decimal hex_digit hex2 hex6 line_text lines_text
trace_figure = refl

-- 1000000 D W 7EABCF F9, the longest line of a run: 22 bytes
pub longest_figure :
    line_text 1000000 (line Data true 0x7EABCF 0xF9)
    ≡
    49 ∷ 48 ∷ 48 ∷ 48 ∷ 48 ∷ 48 ∷ 48 ∷ 9 ∷ 68 ∷ 9 ∷ 87 ∷ 9 ∷ 55 ∷ 69 ∷ 65 ∷ 66 ∷ 67 ∷ 70 ∷ 9 ∷ 70 ∷ 57 ∷ 10 ∷ []
unfolding digits_of decimal hex_digit hex2 hex6 line_text
longest_figure = refl

-- 4294967295 P R 00000D E0: every number of 32 bits has a line, and an address gives its low 24 bits
pub widest_figure :
    line_text 4294967295 (line Program false 0x0100000D 0xE0)
    ≡
    52 ∷ 50 ∷ 57 ∷ 52 ∷ 57 ∷ 54 ∷ 55 ∷ 50 ∷ 57 ∷ 53 ∷ 9 ∷ 80 ∷ 9 ∷ 82 ∷ 9 ∷ 48 ∷ 48 ∷ 48 ∷ 48 ∷ 48 ∷ 68 ∷ 9 ∷ 69 ∷ 48 ∷ 10 ∷ []
unfolding digits_of decimal hex_digit hex2 hex6 line_text
widest_figure = refl

-- 0 has one digit
pub none_figure : decimal 0 ≡ 48 ∷ []
unfolding digits_of decimal
none_figure = refl

-- six bytes have room for the header at place 0 and not at place 1
abbrev six : List ℕ
six = 0 ∷ 0 ∷ 0 ∷ 0 ∷ 0 ∷ 0 ∷ []

pub room_figure : fits six 0 header ≡ true
room_figure = refl

pub full_figure : fits six 1 header ≡ false
full_figure = refl

-- what stands before and after a text stays
pub written_figure : sets (1 ∷ 2 ∷ 3 ∷ 4 ∷ 5 ∷ 6 ∷ 7 ∷ 8 ∷ []) 1 header ≡ 1 ∷ 98 ∷ 117 ∷ 115 ∷ 9 ∷ 49 ∷ 10 ∷ 8 ∷ []
written_figure = refl
