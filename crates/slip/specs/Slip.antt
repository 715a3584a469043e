-- A record as a line of sixteen words of hex, as it is typed and printed. The first ten are a start's, in the order of a vector line.
--
--    0 A   1 X   2 Y   3 S   4 D   5 PC      4 digits
--    6 PBR   7 DBR   8 P                     2
--    9 E   10 held                           1
--   11 opcode   12 cycle                     2
--   13 address scratch   14 data scratch     4
--   15 bank scratch                          2
use Rattle.std.specs.Prelude.{ℕ, ◌+◌, ◌-◌, ◌*◌, ◌/◌, ◌%◌, Bool, List, [], ◌∷◌, ◌++◌, eqb, ltb, leb, length, Option, Some, None}
use Rattle.words.specs.Words.{pick}
use Rattle.trace.specs.Text.{hex_digit, hex2}
use Rattle.packed.specs.Packed.{byte_at, placed}

-- ---- reading

-- 0 to 9, A to F, a to f
unfoldable pub value_of : ℕ → Option ℕ
value_of b =
    pick (ltb b 48) None (pick (ltb b 58) (Some (b - 48)) (pick (ltb b 65) None (pick (ltb b 71) (Some (b - 55))
    (pick (ltb b 97) None (pick (ltb b 103) (Some (b - 87)) None)))))

abbrev pub base_of : (hex : Bool) → ℕ
base_of hex = pick hex 16 10

-- the number n with a digit after it: none where that isn't a digit of the base, or makes it more than 4,294,967,295
abbrev pub with_digit : (hex : Bool) (n : ℕ) → Option ℕ → Option ℕ
with_digit hex n None = None
with_digit hex n (Some d) = pick (leb (base_of hex) d) None (pick (ltb 4294967295 (n * base_of hex + d)) None (Some (n * base_of hex + d)))

unfoldable pub longer : (hex : Bool) (n b : ℕ) → Option ℕ
longer hex n b = with_digit hex n (value_of b)

-- with the digits of a text after it: none at the first that is none
unfoldable pub number_from : (hex : Bool) (n : ℕ) → List ℕ → Option ℕ
number_from hex n [] = Some n
number_from hex n (b ∷ t) = elim (longer hex n b) [ None ↦ None | Some m ↦ number_from hex m t ]

-- 1 to so many digits, and nothing else
abbrev pub number_of : (hex : Bool) (most : ℕ) → List ℕ → Option ℕ
number_of hex most t = pick (eqb (length t) 0) None (pick (ltb most (length t)) None (number_from hex 0 t))

-- ---- where words stand

-- how many digits a word has
unfoldable pub digits_of : ℕ → ℕ
digits_of k = pick (ltb k 6) 4 (pick (ltb k 9) 2 (pick (ltb k 11) 1 (pick (ltb k 13) 2 (pick (ltb k 15) 4 (pick (ltb k 16) 2 0)))))

-- where it begins in the packed record (crates/packed/specs/Packed.antt): registers at 4, PBR to E at 16, what is held at 1, scratch at 20
unfoldable pub place_of : ℕ → ℕ
place_of k = pick (ltb k 6) (4 + 2 * k) (pick (ltb k 10) (10 + k) (pick (ltb k 13) (k - 9) (pick (ltb k 16) (2 * k - 6) 32)))

-- a word laid into a packed record, its low byte first
unfoldable pub laid : List ℕ → (k n : ℕ) → List ℕ
laid b k n =
    pick (eqb (digits_of k) 4)
    (placed b (place_of k) (n % 256 ∷ n / 256 % 256 ∷ []))
    (placed b (place_of k) (n % 256 ∷ []))

-- ---- the line

-- a word from its bytes
abbrev pub hex4 : (low high : ℕ) → List ℕ
hex4 low high = hex2 high ++ hex2 low

-- the digits of what stands at a place of a packed record
abbrev pub four : List ℕ → ℕ → List ℕ
four b k = hex4 (byte_at b k) (byte_at b (k + 1))

abbrev pub two : List ℕ → ℕ → List ℕ
two b k = hex2 (byte_at b k)

abbrev pub one : List ℕ → ℕ → List ℕ
one b k = hex_digit (byte_at b k % 16) ∷ []

-- a space before what follows
abbrev pub spaced : List ℕ → List ℕ → List ℕ
spaced a b = a ++ (32 ∷ b)

unfoldable pub line_of : List ℕ → List ℕ
line_of b =
    spaced (four b 4) (spaced (four b 6) (spaced (four b 8) (spaced (four b 10) (spaced (four b 12) (spaced (four b 14)
    (spaced (two b 16) (spaced (two b 17) (spaced (two b 18) (spaced (one b 19) (spaced (one b 1)
    (spaced (two b 2) (spaced (two b 3) (spaced (four b 20) (spaced (four b 22) (two b 24)))))))))))))))
