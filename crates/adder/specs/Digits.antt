-- A byte of two decimal digits, and the number that it stands for; then numbers of n bytes, the low one first.
use Rattle.std.specs.Prelude.{ℕ, zero, suc, ◌+◌, ◌*◌, ◌/◌, ◌%◌, ◌<◌, ◌≡◌}

abbrev pub Pair : ℕ → Type 0
Pair b = (b / 16 < 10) × (b % 16 < 10)

abbrev pub value_of : ℕ → ℕ
value_of b = b / 16 * 10 + b % 16

-- each of n bytes is such a one, and nothing stands above them
abbrev pub Bytes : (ℕ → Type 0) → ℕ → ℕ → Type 0
Bytes Such zero a = a ≡ 0
Bytes Such (suc n) a = Such (a % 256) × Bytes Such n (a / 256)

-- what n bytes stand for: each byte's worth, and each byte counts `base` times as much as the one below
abbrev pub worth : (base : ℕ) → (ℕ → ℕ) → ℕ → ℕ → ℕ
worth base of zero a = 0
worth base of (suc n) a = of (a % 256) + base * worth base of n (a / 256)

-- n bytes of two digits, and the decimal number that they stand for
abbrev pub Digits : ℕ → ℕ → Type 0
Digits n a = Bytes Pair n a

abbrev pub value : ℕ → ℕ → ℕ
value n a = worth 100 value_of n a
