-- A decimal number as the code writes it: by the weights of its digits, one after the other, or by a binary fraction.
-- That these are `decimal` are two laws, `decimal_weights` and `decimal_scaled`.
use Rattle.std.specs.Prelude.{ℕ, zero, suc, ◌+◌, ◌*◌, ◌/◌, ◌%◌, List, [], ◌∷◌, ◌++◌, ltb}
use Rattle.words.specs.Words.{pick}

-- the digit of weight w, which a smaller number has not
unfoldable pub digit_at : (w : ℕ) → ℕ → List ℕ
digit_at w n = pick (ltb n w) [] ((48 + n / w % 10) ∷ [])

-- ten times itself k times
abbrev pub tens : ℕ → ℕ
tens zero = 1
tens (suc k) = 10 * tens k

-- the digits of the weights from 10 to the k down; that of weight 1 is always there
abbrev pub places : ℕ → ℕ → List ℕ
places zero n = (48 + n % 10) ∷ []
places (suc k) n = digit_at (tens (suc k)) n ++ places k n

-- the ten weights of a number of 32 bits, in two halves
unfoldable pub upper_of : ℕ → List ℕ
upper_of n = digit_at 1000000000 n ++ (digit_at 100000000 n ++ (digit_at 10000000 n ++ (digit_at 1000000 n ++ digit_at 100000 n)))

unfoldable pub lower_of : ℕ → List ℕ
lower_of n = digit_at 10000 n ++ (digit_at 1000 n ++ (digit_at 100 n ++ (digit_at 10 n ++ ((48 + n % 10) ∷ []))))

-- a number below 100, where 0 has no digit
unfoldable pub front_of : ℕ → List ℕ
front_of n = digit_at 10 n ++ digit_at 1 n

-- the first four decimal digits of a fraction of 2 to the 32nd, each of what the one before leaves
unfoldable pub four_of : ℕ → List ℕ
four_of f =
    (48 + f * 5 / 2147483648)
    ∷ (48 + f * 5 % 2147483648 * 5 / 1073741824)
    ∷ (48 + f * 5 % 2147483648 * 5 % 1073741824 * 5 / 536870912)
    ∷ (48 + f * 5 % 2147483648 * 5 % 1073741824 * 5 % 536870912 * 5 / 268435456)
    ∷ []
