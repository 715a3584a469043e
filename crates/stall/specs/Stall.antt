-- A session by hand: what a typed line means, and how a request is shown.
use Rattle.std.specs.Prelude.{ℕ, ◌+◌, ◌*◌, ◌/◌, ◌%◌, Bool, true, ◌&&◌, List, [], ◌∷◌, ◌==◌, length, nat_eq, Option, Some, None}
use Rattle.std.specs.Cmp.Lexicographic.{pointwise}
use Rattle.words.specs.Words.{pick}
use Rattle.trace.specs.Text.{hex_digit}
use Rattle.packed.specs.Packed.{byte_at}
use Rattle.slip.specs.Slip.{number_of}
use Rattle.stall.specs.declared.meaning.Said.{Said}
use Rattle.stall.specs.declared.meaning.Said.TheVariants.{Byte, Record, Quit, Other}

-- ---- a typed line

abbrev pub byte_by : Option ℕ → Said
byte_by (Some n) = Byte (n % 256)
byte_by None = Other

unfoldable pub byte_meant : List ℕ → Said
byte_meant pair = byte_by (number_of true 2 pair)

-- `quit` and `record`
abbrev pub quit : List ℕ
quit = 113 ∷ 117 ∷ 105 ∷ 116 ∷ []

abbrev pub record_word : List ℕ
record_word = 114 ∷ 101 ∷ 99 ∷ 111 ∷ 114 ∷ 100 ∷ []

-- none is the end of the input
abbrev pub meant_of : (line : Option (List ℕ)) (write : Bool) → Said
meant_of None write = Quit
meant_of (Some line) write =
    pick (length line == 2) (byte_meant line)
    (pick (pointwise nat_eq line quit) Quit
    (pick (pointwise nat_eq line record_word) Record
    (pick (write && (length line == 0)) (Byte 0) Other)))

-- ---- a request: bits 0-23 address, 24-31 byte, 32-39 kind, 40 write

unfoldable pub digit_of : ℕ → ℕ
digit_of n = hex_digit (n % 16)

abbrev pub letter_by : ℕ → ℕ
letter_by kind = pick (kind == 0) 79 (pick (kind == 1) 80 (pick (kind == 2) 68 73))

unfoldable pub letter_of : ℕ → ℕ
letter_of n = letter_by (n / 4294967296 % 256)

unfoldable pub direction_of : ℕ → ℕ
direction_of n = pick (n / 1099511627776 % 2 == 1) 87 82

-- kind, direction, address, byte, with a tab before each and a line's end
unfoldable pub text_of : ℕ → List ℕ
text_of n =
    9 ∷ letter_of n ∷ 9 ∷ direction_of n ∷ 9
    ∷ digit_of (n / 1048576) ∷ digit_of (n / 65536) ∷ digit_of (n / 4096) ∷ digit_of (n / 256) ∷ digit_of (n / 16) ∷ digit_of n
    ∷ 9 ∷ digit_of (n / 268435456) ∷ digit_of (n / 16777216) ∷ 10 ∷ []

-- ---- a session: the count stands in its last 8 bytes, the low one first

unfoldable pub count_of : List ℕ → ℕ
count_of s =
    byte_at s 32 + 256 * (byte_at s 33 + 256 * (byte_at s 34 + 256 * (byte_at s 35
    + 256 * (byte_at s 36 + 256 * (byte_at s 37 + 256 * (byte_at s 38 + 256 * byte_at s 39))))))
