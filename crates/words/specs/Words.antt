-- Numbers of 8, 16 and 24 bits: the halves of a word, steps that wrap inside a bank, addresses.
-- A byte is below 256 and a word below 65,536 wherever the code has one; nothing here asks for it.
use Rattle.std.specs.Prelude.{ℕ, zero, suc, ◌+◌, ◌*◌, ◌/◌, ◌%◌, Bool, true, false, ◌==◌, nat_lt}

-- one of two, by a test
abbrev pub pick : {A : Type 0} → Bool → A → A → A
pick true a b = a
pick false a b = b

abbrev pub implied : Bool → Bool → Bool
implied true b = b
implied false b = true

-- a truth value as a bit
abbrev pub bit : Bool → ℕ
bit true = 1
bit false = 0

-- the halves of a word
abbrev pub low_of : ℕ → ℕ
low_of w = w % 256

abbrev pub high_of : ℕ → ℕ
high_of w = w / 256

-- the word of a low and a high byte; of its first argument only the low byte counts
unfoldable pub word : ℕ → ℕ → ℕ
word l h = l % 256 + h * 256

-- a word with another low byte; of its second argument only the low byte counts
unfoldable pub low_set : ℕ → ℕ → ℕ
low_set w b = w / 256 * 256 + b % 256

-- the halves changed over
unfoldable pub swapped : ℕ → ℕ
swapped w = w / 256 + w % 256 * 256

-- a step up and a step down, inside 65,536
unfoldable pub inc : ℕ → ℕ
inc p = (p + 1) % 65536

unfoldable pub dec : ℕ → ℕ
dec p = (p + 65535) % 65536

-- k steps
abbrev pub up : ℕ → ℕ → ℕ
up p zero = p
up p (suc k) = inc (up p k)

abbrev pub down : ℕ → ℕ → ℕ
down p zero = p
down p (suc k) = dec (down p k)

-- a sum inside 65,536; a displacement of a word is such a sum, whatever its sign
unfoldable pub sum16 : ℕ → ℕ → ℕ
sum16 p q = (p + q) % 65536

-- a byte with its sign, as a word: 80 to FF stand for -128 to -1
unfoldable pub signed : ℕ → ℕ
signed b = pick (nat_lt b 128) b (b + 65280)

-- a word with a signed byte added
unfoldable pub displaced : ℕ → ℕ → ℕ
displaced p b = sum16 p (signed b)

-- the address of a word in a bank, and a sum of 24 bits
unfoldable pub at : ℕ → ℕ → ℕ
at bank p = bank * 65536 + p

unfoldable pub sum24 : ℕ → ℕ → ℕ
sum24 p k = (p + k) % 16777216

-- whether two words lie on one page
unfoldable pub same_page : ℕ → ℕ → Bool
same_page p q = p / 256 == q / 256

-- the stack pointer's high byte is 1 in emulation
unfoldable pub page_one : Bool → ℕ → ℕ
page_one e s = pick e (256 + s % 256) s

-- an index register's high byte is 0 where the index flag is set
unfoldable pub index : Bool → ℕ → ℕ
index narrow x = pick narrow (x % 256) x
