-- A bench session as 40 bytes: a packed record, then the count of its cycles in 8 bytes, the low one first.
use Rattle.std.specs.Prelude.{ℕ, zero, suc, ◌+◌, ◌*◌, ◌/◌, ◌%◌, List, [], ◌∷◌, ◌++◌, eqb, length, take, Option, Some, None, Err, Bool, true, false}
use Rattle.cpu.specs.declared.types.Record.{Record}
use Rattle.words.specs.Words.{pick}
use Rattle.cpu.specs.Record.{number_of, number_in}
use Rattle.cpu.specs.declared.types.Refusal.{Refusal}
use Rattle.cpu.specs.declared.types.Refusal.TheVariants.{Memory, Malformed}
use Rattle.step.specs.Cycle.{request_of}
use Rattle.run.specs.Runs.{size}
use Rattle.session.specs.Sessions.{session_at, answered_to, cycled_over, memory_over}
use Rattle.session.specs.declared.types.Session.{Session}
use Rattle.packed.specs.Packed.{byte_at, pack, unpacked}
use Rattle.session_port.specs.declared.types.Went.{Went}
use Rattle.session_port.specs.declared.types.Tally.{Tally}
use Rattle.numbers.specs.Numbers.{Answered, asked_bits}

unfoldable pub count_at : List ℕ → ℕ
count_at s =
    byte_at s 32 + 256 * (byte_at s 33 + 256 * (byte_at s 34 + 256 * (byte_at s 35
    + 256 * (byte_at s 36 + 256 * (byte_at s 37 + 256 * (byte_at s 38 + 256 * byte_at s 39))))))

unfoldable pub count_bytes : ℕ → List ℕ
count_bytes n =
    n % 256 ∷ n / 256 % 256 ∷ n / 65536 % 256 ∷ n / 16777216 % 256
    ∷ n / 4294967296 % 256 ∷ n / 1099511627776 % 256 ∷ n / 281474976710656 % 256 ∷ n / 72057594037927936 % 256 ∷ []

unfoldable pub pack_session : Session → List ℕ
pack_session s = pack s.at ++ count_bytes s.cycles

abbrev pub opened_by : Option Record → ℕ → Option Session
opened_by (Some r) n = Some (session_at r n)
opened_by None n = None

unfoldable pub opened : List ℕ → Option Session
opened s = pick (eqb (length s) 40) (opened_by (unpacked (take 32 s)) (count_at s)) None

-- ---- glavorint_session_request

abbrev pub request_by : Option Session → ℕ
request_by (Some s) = asked_bits (request_of s.at)
request_by None = asked_bits (Err Malformed)

unfoldable pub session_request : List ℕ → ℕ
session_request s = request_by (opened s)

-- ---- glavorint_session_answer

abbrev pub answer_by : Option Session → (b : List ℕ) → ℕ → Answered
answer_by (Some s) b byte = record { number = number_in (answered_to s byte).refusal; bytes = pack_session (answered_to s byte).session }
answer_by None b byte = record { number = number_of Malformed; bytes = b }

unfoldable pub session_answer : (b : List ℕ) → ℕ → Answered
session_answer b byte = answer_by (opened b) b byte

-- ---- glavorint_session_cycle

pub record Cycled : Type 0 where
  pub number : ℕ
  pub bytes : List ℕ
  pub mem : List ℕ

-- bytes that are no session are refused with 4, but 1 comes before it
abbrev pub no_session : List ℕ → Refusal
no_session m = pick (eqb (length m) size) Malformed Memory

abbrev pub cycle_by : Option Session → (b m : List ℕ) → Cycled
cycle_by (Some s) b m = record { number = number_in (cycled_over s m).refusal; bytes = pack_session (cycled_over s m).session; mem = memory_over s m }
cycle_by None b m = record { number = number_of (no_session m); bytes = b; mem = m }

unfoldable pub session_cycle : (b m : List ℕ) → Cycled
session_cycle b m = cycle_by (opened b) b m

-- ---- glavorint_session_cycles

-- so many cycles over a memory, up to the first that is refused: its refusal, the session and the memory then, and how many were completed
pub record Course : Type 0 where
  pub refusal : Option Refusal
  pub session : Session
  pub mem : List ℕ
  pub done : ℕ

abbrev pub halts : Option Refusal → Session → List ℕ → Course
halts n s m = record { refusal = n; session = s; mem = m; done = 0 }

abbrev pub onward : Course → Course
onward e = record { refusal = e.refusal; session = e.session; mem = e.mem; done = e.done + 1 }

-- whether nothing was refused
abbrev pub goes_on : Option Refusal → Bool
goes_on None = true
goes_on (Some n) = false

unfoldable pub course_of : ℕ → Session → List ℕ → Course
course_of zero s m = halts None s m
course_of (suc n) s m =
    pick (goes_on (cycled_over s m).refusal)
    (onward (course_of n (cycled_over s m).session (memory_over s m)))
    (halts (cycled_over s m).refusal (cycled_over s m).session (memory_over s m))

-- a memory of another size is refused first, whatever the count, as by a run
unfoldable pub course_over : ℕ → Session → List ℕ → Course
course_over n s m = pick (eqb (length m) size) (course_of n s m) (halts (Some Memory) s m)

abbrev pub went_to : Session → (cycles : ℕ) → (refusal : Option Refusal) → Went
went_to s c n = record { session = s; cycles = c; refusal = n }

abbrev pub told_of : Course → Went
told_of e = went_to e.session e.done e.refusal

-- a memory of another size, or a session whose record isn't well formed
abbrev pub unfit_of : (count len : ℕ) → Session → Went
unfit_of c n s = went_to s 0 (pick (eqb n size) (pick (eqb c 0) None (Some Malformed)) (Some Memory))

pub record Several : Type 0 where
  pub refusal : Option Refusal
  pub done : ℕ
  pub bytes : List ℕ
  pub mem : List ℕ

abbrev pub several_to : Course → Several
several_to e = record { refusal = e.refusal; done = e.done; bytes = pack_session e.session; mem = e.mem }

abbrev pub cycles_by : Option Session → (b m : List ℕ) → ℕ → Several
cycles_by (Some s) b m n = several_to (course_over n s m)
cycles_by None b m n = record { refusal = Some (no_session m); done = 0; bytes = b; mem = m }

unfoldable pub session_cycles : (b m : List ℕ) → ℕ → Several
session_cycles b m n = cycles_by (opened b) b m n

abbrev pub tallied : (cycles : ℕ) → (refusal : Option Refusal) → Tally
tallied c n = record { cycles = c; refusal = n }

abbrev pub tally_of : Several → Tally
tally_of e = tallied e.done e.refusal
