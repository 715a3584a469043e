-- A bench session: a record with the count of its completed cycles. A step of it is a cycle, by an answered byte or over a memory; a
-- refused one leaves it as it was.
use Rattle.std.specs.Prelude.{ℕ, zero, suc, ◌+◌, List, eqb, ltb, length, Option, Some, None, Result, Ok, Err}
use Rattle.cpu.specs.declared.types.Request.{Request}
use Rattle.cpu.specs.declared.types.Refusal.{Refusal}
use Rattle.words.specs.Words.{pick}
use Rattle.cpu.specs.declared.types.Record.{Record}
use Rattle.cpu.specs.declared.types.Refusal.TheVariants.{Memory}
use Rattle.cycles.specs.declared.types.Micro.{Micro}
use Rattle.step.specs.Cycle.{answer_of}
use Rattle.memory.specs.Turns.{turn_by, store_of}
use Rattle.run.specs.Runs.{End, whole_run, size}
use Rattle.session.specs.declared.types.Session.{Session}
use Rattle.session.specs.declared.types.Stepped.{Stepped}

-- the greatest count that a session holds
abbrev pub top : ℕ
top = 18446744073709551615

-- one more, but at the top it stands still: a count never wraps
unfoldable pub counted : ℕ → ℕ
counted n = pick (ltb n top) (n + 1) n

-- so many more
unfoldable pub counted_on : ℕ → ℕ → ℕ
counted_on zero n = n
counted_on (suc k) n = counted_on k (counted n)

-- a refused cycle isn't counted
abbrev pub counted_if : Option Refusal → (cycles : ℕ) → ℕ
counted_if None c = counted c
counted_if (Some n) c = c

-- a session at a record, of so many cycles
abbrev pub session_at : Record → ℕ → Session
session_at r n = record { at = r; cycles = n }

abbrev pub started : Record → Session
started r = session_at r 0

abbrev pub stepped : Session → (refusal : Option Refusal) → Stepped
stepped s n = record { session = s; refusal = n }

-- what a caller is told of a step
abbrev pub told_by : Option Refusal → Result Unit Refusal
told_by None = Ok tt
told_by (Some n) = Err n

-- after an answered byte
abbrev pub came_to : Session → Result Record Refusal → Stepped
came_to s (Ok r) = stepped (session_at r (counted s.cycles)) None
came_to s (Err n) = stepped s (Some n)

unfoldable pub answered_to : Session → ℕ → Stepped
answered_to s b = came_to s (answer_of s.at b)

-- after a run of one cycle that ended with a refusal or none, and a record
abbrev pub after_run : (cycles : ℕ) → Option Refusal → Record → Stepped
after_run c n r = stepped (session_at r (counted_if n c)) n

-- after a cycle over a memory; and that memory
abbrev pub one_cycle : Session → List ℕ → End
one_cycle s m = whole_run 1 s.at m

unfoldable pub cycled_over : Session → List ℕ → Stepped
cycled_over s m = after_run s.cycles (one_cycle s m).refusal (one_cycle s m).rec

unfoldable pub memory_over : Session → List ℕ → List ℕ
memory_over s m = (one_cycle s m).mem

-- the same by what the cycle does; a memory that isn't 65,536 bytes is refused first
abbrev pub turned_to : Session → Result (Request × Record) Refusal → Stepped
turned_to s (Ok (l, r)) = stepped (session_at r (counted s.cycles)) None
turned_to s (Err n) = stepped s (Some n)

unfoldable pub cycled_by : Micro → Session → List ℕ → Stepped
cycled_by c s m = pick (eqb (length m) size) (turned_to s (turn_by c s.at m)) (stepped s (Some Memory))

unfoldable pub memory_by : Micro → Session → List ℕ → List ℕ
memory_by c s m = pick (eqb (length m) size) (store_of (turn_by c s.at m) m) m
