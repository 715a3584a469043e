-- The text of a trace, document 01 "Trace lines": a header, then a line for each completed cycle. Texts are lists of ASCII bytes.
use Rattle.std.specs.Prelude.{ℕ, zero, suc, ◌+◌, ◌/◌, ◌%◌, ◌≡◌, Bool, true, false, List, [], ◌∷◌, ◌++◌, ltb, leb, length, drop}
use Rattle.std.proofs.lemmas.List.Edits.{sets}
use Rattle.words.specs.Words.{pick}
use Rattle.cpu.specs.declared.types.Kind.{Kind}
use Rattle.cpu.specs.declared.types.Kind.TheVariants.{Opcode, Program, Data, Invalid}
use Rattle.cpu.specs.declared.types.Request.{Request}

-- ---- numbers

-- the decimal digits of n, at most as many as the fuel
unfoldable pub digits_of : (fuel : ℕ) → ℕ → List ℕ
digits_of zero n = []
digits_of (suc f) n = elim (ltb n 10) [ true ↦ (48 + n) ∷ [] | false ↦ digits_of f (n / 10) ++ ((48 + n % 10) ∷ []) ]

-- without leading zeros; n has at most n + 1 digits
unfoldable pub decimal : ℕ → List ℕ
decimal n = digits_of (suc n) n

-- upper-case hex: A is 65
unfoldable pub hex_digit : ℕ → ℕ
hex_digit n = pick (ltb n 10) (48 + n) (55 + n)

unfoldable pub hex2 : ℕ → List ℕ
hex2 b = hex_digit (b / 16) ∷ hex_digit (b % 16) ∷ []

-- the low 24 bits
unfoldable pub hex6 : ℕ → List ℕ
hex6 a = hex2 (a / 65536 % 256) ++ (hex2 (a / 256 % 256) ++ hex2 (a % 256))

-- ---- lines

-- O, P, D, I
abbrev pub letter : Kind → ℕ
letter Opcode = 79
letter Program = 80
letter Data = 68
letter Invalid = 73

-- W for a write, R for a read
abbrev pub direction : Bool → ℕ
direction true = 87
direction false = 82

-- number, kind, direction, address, byte; tabs (9) between, LF (10) at the end
unfoldable pub line_text : ℕ → Request → List ℕ
line_text n q =
    decimal n
    ++ ((9 ∷ letter q.kind ∷ 9 ∷ direction q.write ∷ 9 ∷ [])
    ++ (hex6 q.addr ++ ((9 ∷ []) ++ (hex2 q.byte ++ (10 ∷ [])))))

-- lines numbered from n on
unfoldable pub lines_text : ℕ → List Request → List ℕ
lines_text n [] = []
lines_text n (q ∷ qs) = line_text n q ++ lines_text (suc n) qs

-- bus, tab, 1, LF
abbrev pub header : List ℕ
header = 98 ∷ 117 ∷ 115 ∷ 9 ∷ 49 ∷ 10 ∷ []

abbrev pub trace_text : List Request → List ℕ
trace_text qs = header ++ lines_text 1 qs

-- ---- writing into a buffer

-- x at the front of a buffer, the rest of which stays
abbrev pub over : List ℕ → List ℕ → List ℕ
over x t = x ++ drop (length x) t

-- whether x has room at place i of t
abbrev pub fits : (t : List ℕ) (i : ℕ) (x : List ℕ) → Bool
fits t i x = leb (i + length x) (length t)

-- x put at place i of the buffer t, which is t' since, and j is the place after it; without room nothing happens
pub record Put (t t' : List ℕ) (i j : ℕ) (x : List ℕ) : Type 0 where
  pub place : j ≡ pick (fits t i x) (i + length x) i
  pub text : t' ≡ pick (fits t i x) (sets t i x) t

-- the same where there is room
pub record Wrote (t t' : List ℕ) (i j : ℕ) (x : List ℕ) : Type 0 where
  pub place : j ≡ i + length x
  pub text : t' ≡ sets t i x
