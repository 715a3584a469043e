-- What glavorint_run answers: a number with fields of bits, and every byte of what was lent. Definitions that the core is proved against give the
-- answers; here they are only taken from bytes and put back into them.
use Rattle.std.specs.Prelude.{ℕ, List, eqb, leb, length, Option, Some, None}
use Rattle.cpu.specs.declared.types.Record.{Record}
use Rattle.words.specs.Words.{pick}
use Rattle.cpu.specs.Record.{number_of, number_in}
use Rattle.cpu.specs.declared.types.Refusal.{Refusal}
use Rattle.cpu.specs.declared.types.Refusal.TheVariants.{Memory, Budget, Malformed}
use Rattle.run.specs.Runs.{End, whole_run, size, most}
use Rattle.packed.specs.Packed.{pack, unpacked}
use Rattle.numbers.specs.Numbers.{run_number}

pub record Ran : Type 0 where
  pub answer : ℕ
  pub bytes : List ℕ
  pub mem : List ℕ

-- a record that isn't a packed one is refused with 4 whatever the budget, but 1 and 2 come before it
abbrev pub unfit : (len budget : ℕ) → Refusal
unfit l n = pick (eqb l size) (pick (leb n most) Malformed Budget) Memory

abbrev pub ran_to : End → Ran
ran_to e = record { answer = run_number (number_in e.refusal) (length e.lines); bytes = pack e.rec; mem = e.mem }

abbrev pub run_from : Option Record → (b m : List ℕ) → ℕ → Ran
run_from (Some r) b m n = ran_to (whole_run n r m)
run_from None b m n = record { answer = run_number (number_of (unfit (length m) n)) 0; bytes = b; mem = m }

unfoldable pub run_bytes : (b m : List ℕ) → ℕ → Ran
run_bytes b m n = run_from (unpacked b) b m n
