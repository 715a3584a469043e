-- The course of a case: each cycle's request beside what the line has, the line's byte as the answer, to the first cycle that differs.
use Rattle.std.specs.Prelude.{ℕ, zero, suc, ◌+◌, ◌/◌, ◌%◌, Bool, false, ◌&&◌, ◌||◌, List, [], ◌∷◌, ltb, get_or, take, drop, unwrap_or, Result, Ok, Err}
use Rattle.course.specs.declared.types.Difference.{Difference}
use Rattle.cpu.specs.declared.types.Refusal.{Refusal}
use Rattle.words.specs.Words.{pick}
use Rattle.cpu.specs.Record.{boundary}
use Rattle.cpu.specs.declared.types.Record.{Record}
use Rattle.cpu.specs.declared.types.Request.{Request}
use Rattle.trace.specs.Text.{letter, direction, hex_digit}
use Rattle.step.specs.Cycle.{request_of, answer_of}
use Rattle.lines.specs.Text.{past_of, byte_at, is_at, same_at, byte_of}
use Rattle.lines.specs.Form.{is_open, cycle_end}
use Rattle.lines.specs.State.{words_of}
use Rattle.lines.specs.declared.types.Places.{Places}
use Rattle.course.specs.declared.types.Difference.TheVariants as differs
use Rattle.course.specs.declared.types.Course.{Course}

-- ---- what a cycle asked

-- a character of the byte: a write's own; of a read the one that the line answers, `.` where it answers none
unfoldable pub shown_of : List ℕ → (at place : ℕ) → (write : Bool) → (own : ℕ) → ℕ
shown_of t at place write own = pick write own (pick (is_at t (past_of at 1) 82) (byte_at t place) 46)

-- kind, direction, address, byte
unfoldable pub request_text : List ℕ → (at : ℕ) → Request → List ℕ
request_text t at q =
    letter q.kind ∷ direction q.write
    ∷ hex_digit (q.addr / 65536 % 256 / 16) ∷ hex_digit (q.addr / 65536 % 256 % 16)
    ∷ hex_digit (q.addr / 256 % 256 / 16) ∷ hex_digit (q.addr / 256 % 256 % 16)
    ∷ hex_digit (q.addr % 256 / 16) ∷ hex_digit (q.addr % 256 % 16)
    ∷ shown_of t at (past_of at 8) q.write (hex_digit (q.byte / 16))
    ∷ shown_of t at (past_of at 9) q.write (hex_digit (q.byte % 16))
    ∷ []

-- beside these characters: where the line names no kind any will do; a cycle that is left open is an internal one
unfoldable pub agrees_with : List ℕ → (at : ℕ) → List ℕ → Bool
agrees_with t at x = pick (is_open t at) (is_at t at (get_or x 0 0)) ((is_at t at (get_or x 0 0) || is_at t at 45) && same_at t (past_of at 1) (take 9 (drop 1 x)))

abbrev pub agrees_of : List ℕ → (at : ℕ) → Request → Bool
agrees_of t at q = agrees_with t at (request_text t at q)

-- ---- one cycle

-- an instruction's end, or a place between a move's bytes
abbrev pub home_of : Record → Bool
home_of r = boundary r.held r.ir r.tcu

abbrev pub met_by : Result Record Refusal → Result Record Difference
met_by (Ok r) = Ok r
met_by (Err n) = Err (differs.Refused n)

-- once it is known what is asked
abbrev pub asked_met : List ℕ → (at : ℕ) → Record → Result Request Refusal → Result Record Difference
asked_met t at r (Err n) = Err (differs.Refused n)
asked_met t at r (Ok q) = pick (agrees_of t at q) (met_by (answer_of r (byte_of t (past_of at 8)))) (Err (differs.Asked q))

abbrev pub cycle_of : List ℕ → (at : ℕ) → Record → Result Record Difference
cycle_of t at r = asked_met t at r (request_of r)

-- after the first cycle a core that is home has no cycle left
unfoldable pub turn_of : List ℕ → (at done : ℕ) → Record → Result Record Difference
turn_of t at done r = pick (ltb 0 done && home_of r) (Err differs.Ended) (cycle_of t at r)

-- ---- all of them

abbrev pub came : Result Record Difference → (cycle at : ℕ) → Course
came m n at = record { met = m; cycle = n; at = at }

-- where the next cycle begins; after a place where none stands it is looked for from 1 on
abbrev pub next_of : List ℕ → (at : ℕ) → ℕ
next_of t at = past_of (unwrap_or (cycle_end t at) 0) 1

-- so many cycles from a place on, with some done before them
unfoldable pub course_of : (fuel : ℕ) → List ℕ → (at done : ℕ) → Record → Course
course_of zero t at done r = came (Ok r) done at
course_of (suc n) t at done r =
    elim (turn_of t at done r) [ Ok s ↦ course_of n t (next_of t at) (done + 1) s | Err d ↦ came (Err d) (done + 1) at ]

-- ---- the end

abbrev pub ends_alike : List ℕ → Places → Record → Bool
ends_alike t p r = same_at t p.after (words_of r)

abbrev pub is_same : List ℕ → Places → Result Record Difference → Bool
is_same t p (Ok r) = home_of r && ends_alike t p r
is_same t p (Err d) = false
