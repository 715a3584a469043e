-- The characters of a line, which are ASCII bytes, at any place: past the line's end too. A place is a number of 64 bits.
use Rattle.std.specs.Prelude.{ℕ, zero, suc, ◌+◌, ◌-◌, ◌*◌, ◌%◌, ◌^◌, Bool, true, ◌&&◌, List, [], ◌∷◌, ◌==◌, nat_lt, slice_index, Option, Some, None, is_some, unwrap_or}
use Rattle.words.specs.Words.{pick, word}

-- the place n characters on, which wraps
unfoldable pub past_of : ℕ → ℕ → ℕ
past_of at n = (at + n) % 2 ^ 64

-- past the end 0, which no field has
unfoldable pub byte_at : List ℕ → ℕ → ℕ
byte_at t at = slice_index t at

unfoldable pub is_at : List ℕ → ℕ → ℕ → Bool
is_at t at b = byte_at t at == b

-- whether the characters of a part stand at a place, each i further on
unfoldable pub same_from : List ℕ → ℕ → ℕ → List ℕ → Bool
same_from t at i [] = true
same_from t at i (b ∷ part) = is_at t (past_of at i) b && same_from t at (suc i) part

unfoldable pub same_at : List ℕ → ℕ → List ℕ → Bool
same_at t at part = same_from t at zero part

-- ---- upper-case hex

-- 0 is 48, A is 65
unfoldable pub digit_of : ℕ → Option ℕ
digit_of b = pick (nat_lt b 48) None (pick (nat_lt b 58) (Some (b - 48)) (pick (nat_lt b 65) None (pick (nat_lt b 71) (Some (b - 55)) None)))

unfoldable pub is_byte : List ℕ → ℕ → Bool
is_byte t at = is_some (digit_of (byte_at t at)) && is_some (digit_of (byte_at t (past_of at 1)))

unfoldable pub is_word : List ℕ → ℕ → Bool
is_word t at = is_byte t at && is_byte t (past_of at 2)

-- what is no digit counts as 0
unfoldable pub byte_of : List ℕ → ℕ → ℕ
byte_of t at = unwrap_or (digit_of (byte_at t at)) 0 * 16 + unwrap_or (digit_of (byte_at t (past_of at 1))) 0

unfoldable pub word_of : List ℕ → ℕ → ℕ
word_of t at = word (byte_of t (past_of at 2)) (byte_of t at)
