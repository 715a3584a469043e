-- What the command's programs reckon: places of arguments, sizes of images and pieces, the numbers of runs, typed words.
use Rattle.std.specs.Prelude.{codes, [], ℕ, ◌+◌, ◌-◌, ◌/◌, ◌%◌, ◌^◌, Bool, true, false, List, ◌==◌, nat_lt, Option, Some, None, Result, Ok, Err}
use Rattle.std.specs.Option.{option_or}
use Rattle.pails.specs.declared.image.NoImage.{NoImage}
use Rattle.pails.specs.declared.image.NoImage.TheVariants.{TooLong, Unread}
use Rattle.pails.specs.declared.ran.Refusal.{Refusal}
use Rattle.pails.specs.declared.ran.Ran.{Ran}
use Rattle.pails.specs.declared.ran.Untold.{Untold}
use Rattle.words.specs.Words.{pick}
use Rattle.slip.specs.Slip.{number_of, digits_of, laid}

-- ---- arguments: a program's name, IMAGE, the words, BUDGET, and somewhere `--out FILE`

abbrev pub argument_at : (out : Option ℕ) (i : ℕ) → ℕ
argument_at (Some out) i = pick (nat_lt i out) i ((i + 2) % 2 ^ 64)
argument_at None i = i

-- whether `--out` is the last of so many arguments
abbrev pub ends_in_out : (count : ℕ) → Option ℕ → Bool
ends_in_out count (Some out) = (out + 1) % 2 ^ 64 == count
ends_in_out count None = false

-- no words where FILE is missing, or where 10 or 16 of them don't come to all the arguments
abbrev pub words_given : (count : ℕ) (out : Option ℕ) → Option ℕ
words_given count out =
    pick (ends_in_out count out) None
    (pick (argument_at out 13 == count) (Some 10) (pick (argument_at out 19 == count) (Some 16) None))

-- ---- an image

-- a read that finds more where the one before it ended short tells of a failure between them
abbrev pub size_of : (got : ℕ) (more : Option Bool) → Result ℕ NoImage
size_of got None = Err Unread
size_of got (Some true) = Err (pick (got == 65536) TooLong Unread)
size_of got (Some false) = Ok got

-- ---- pieces

abbrev pub least_of : (a b : ℕ) → ℕ
least_of a b = pick (nat_lt a b) a b

abbrev pub first_of : (budget size : ℕ) → ℕ
first_of budget size = pick (nat_lt 1000000 budget) budget (least_of budget size)

abbrev pub left_of : (left size : ℕ) → ℕ
left_of left size = pick (size == 0) 0 (left - size)

-- ---- numbers of runs: include/glavorint.h

-- 0 is none
abbrev pub refusal_of : ℕ → Option Refusal
refusal_of n = pick (n == 0) None (Some (record { 0 = n }))

-- document 01's words for each
abbrev pub words_of : (number : ℕ) → List ℕ
words_of n =
    pick (n == 1) (codes "the memory isn't 65,536 bytes")
    (pick (n == 2) (codes "the budget is above 1,000,000 cycles")
    (pick (n == 3) (codes "the text buffer is too short")
    (pick (n == 4) (codes "the record isn't well formed")
    (pick (n == 5) (codes "the opcode held, or just fetched, isn't listed")
    (pick (n == 6) (codes "the held opcode has no such cycle")
    (pick (n == 7) (codes "a request outside bank 0") []))))))

abbrev pub run_of : ℕ → Ran
run_of n = record { cycles = n % 4294967296; refusal = refusal_of (n / 4294967296 % 256) }

abbrev pub trace_of : ℕ → Ran
trace_of n = record { cycles = n % 16777216; refusal = refusal_of (n / 72057594037927936) }

abbrev pub joined_of : (before next : Ran) → Ran
joined_of before next = record { cycles = (before.cycles + next.cycles) % 2 ^ 32; refusal = option_or before.refusal next.refusal }

-- the same of glavorint_run's numbers themselves
abbrev pub sum_of : (before next : ℕ) → ℕ
sum_of before next = (before + next) % 2 ^ 64

abbrev pub written_of : ℕ → ℕ
written_of n = n / 16777216 % 4294967296

-- no run where the text wasn't written, but its cycles
abbrev pub spelt_of : {E : Type 0} → ℕ → (told : Result (Unit {0}) E) → Result Ran (Untold E)
spelt_of n (Ok _) = Ok (trace_of n)
spelt_of n (Err why) = Err (record { cycles = n % 16777216; why = why })

-- ---- a typed word

unfoldable pub fits_at : (k n : ℕ) → Bool
fits_at k n = pick (digits_of k == 1) (nat_lt n 2) true

pub record Taken : Type 0 where
  pub good : Option (Unit {0})
  pub bytes : List ℕ

abbrev pub refused : List ℕ → Taken
refused b = record { good = None; bytes = b }

abbrev pub taken_by : Option ℕ → ℕ → List ℕ → Taken
taken_by (Some n) k b = pick (fits_at k n) (record { good = Some tt; bytes = laid b k n }) (refused b)
taken_by None k b = refused b

unfoldable pub word_taken : ℕ → (t b : List ℕ) → Taken
word_taken k t b = taken_by (number_of true (digits_of k) t) k b
