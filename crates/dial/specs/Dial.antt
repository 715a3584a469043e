-- A line's number that turns on, and the line by it: the digits before the last and the marks as words, a byte for each character, the first one lowest.
-- That the line is `line_text`, and that one turn is the next number, are two laws, `near_line` and `turn_on`.
use Rattle.std.specs.Prelude.{ℕ, zero, suc, ◌+◌, ◌*◌, ◌/◌, ◌%◌, Bool, List, [], ◌∷◌, ◌++◌, ltb, eqb, length}
use Rattle.words.specs.Words.{pick}
use Rattle.cpu.specs.declared.types.Kind.{Kind}
use Rattle.trace.specs.Text.{decimal, hex2, letter, direction}
use Rattle.dial.specs.declared.Dial.{Dial}

-- ---- words

-- a text as a number
abbrev pub packed : List ℕ → ℕ
packed [] = 0
packed (c ∷ cs) = c + 256 * packed cs

-- the k lowest bytes of a number
abbrev pub bytes_of : (k v : ℕ) → List ℕ
bytes_of zero v = []
bytes_of (suc k) v = (v % 256) ∷ bytes_of k (v / 256)

-- ---- the dial

-- the dial has seven digits before the last
abbrev pub ring : ℕ
ring = 10000000

-- the digits before the last: 0 has none
unfoldable pub front_of : ℕ → List ℕ
front_of m = pick (eqb m 0) [] (decimal m)

unfoldable pub of_tens : (m last : ℕ) → Dial
of_tens m l =
    record {
      front = packed (front_of (m % ring));
      width = length (front_of (m % ring));
      tens = m % ring;
      last = l;
    }

unfoldable pub dial_of : ℕ → Dial
dial_of n = of_tens (n / 10) (48 + n % 10)

-- 57 is the digit 9: after it 0 and ten more
unfoldable pub turn_of : Dial → Dial
turn_of d =
    pick (ltb d.last 57)
    (record { front = d.front; width = d.width; tens = d.tens; last = suc d.last })
    (of_tens (d.tens % ring + 1) 48)

-- ---- the line

-- an address's low 16 bits, tab (9), byte, LF (10)
unfoldable pub tail_text : (p b : ℕ) → List ℕ
tail_text p b = hex2 (p / 256) ++ (hex2 (p % 256) ++ ((9 ∷ []) ++ (hex2 b ++ (10 ∷ []))))

-- a line of a dial, marks and an end
abbrev pub row_of : (front width last marks : ℕ) → (end : List ℕ) → List ℕ
row_of f w l m e = bytes_of w f ++ ((l ∷ []) ++ (bytes_of 7 m ++ e))

unfoldable pub near_text : (front width last marks p b : ℕ) → List ℕ
near_text f w l m p b = row_of f w l m (tail_text p b)

-- the same with its end as a word
abbrev pub row_text : (front width last marks end : ℕ) → List ℕ
row_text f w l m e = row_of f w l m (bytes_of 8 e)

-- kind and direction with the tabs around them, and the two zeros of bank 0
unfoldable pub marks_of : Kind → Bool → ℕ
marks_of k w = packed (9 ∷ letter k ∷ 9 ∷ direction w ∷ 9 ∷ 48 ∷ 48 ∷ [])
