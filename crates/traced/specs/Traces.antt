-- A traced run: the run, and the text of its lines at the front of a lent buffer. It may be made in pieces: a piece comes after `before`
-- cycles, and numbers its lines on from there.
use Rattle.std.specs.Prelude.{ℕ, ◌+◌, ◌*◌, ◌≡◌, List, [], ◌++◌, Option, Some, None, leb, eqb, length}
use Rattle.words.specs.Words.{pick}
use Rattle.cpu.specs.declared.types.Record.{Record}
use Rattle.cpu.specs.declared.types.Request.{Request}
use Rattle.cpu.specs.declared.types.Refusal.{Refusal}
use Rattle.cpu.specs.declared.types.Refusal.TheVariants.{Memory, Budget, Room, Malformed}
use Rattle.trace.specs.Text.{lines_text, header, over}
use Rattle.run.specs.Runs.{End, ends, run_of, size, most}
use Rattle.trail.specs.declared.types.Told.{Told}
use Rattle.traced.specs.declared.types.Traced.{Traced}

-- ---- the text of a piece

-- the header stands in the piece before which no cycle was done
unfoldable pub head : (before : ℕ) → List ℕ
head before = pick (eqb before 0) header []

unfoldable pub piece_text : (before : ℕ) → List Request → List ℕ
piece_text before lines = head before ++ lines_text (before + 1) lines

-- the room that is asked for, by the budget b: a line has at most 22 bytes
abbrev pub room_of : (before b : ℕ) → ℕ
room_of before b = length (head before) + 22 * b

-- ---- a piece

-- how a piece ends: as a run does, with the text buffer then, and how many of its bytes were written
pub record Written : Type 0 where
  pub end : End
  pub text : List ℕ
  pub written : ℕ

-- refused before anything was done
abbrev pub untouched : Refusal → Record → (m t : List ℕ) → Written
untouched n r m t = record { end = ends (Some n) r m; text = t; written = 0 }

-- a run's end, and its lines as a piece's text
abbrev pub text_of : (before : ℕ) → End → (t : List ℕ) → Written
text_of before e t = record { end = e; text = over (piece_text before e.lines) t; written = length (piece_text before e.lines) }

abbrev pub piece_of : (before b : ℕ) → Record → (m t : List ℕ) → Written
piece_of before b r m t = text_of before (run_of b r m) t

-- the refusals 1, 2 and 3 come first
unfoldable pub whole_piece : (before b : ℕ) → Record → (m t : List ℕ) → Written
whole_piece before b r m t =
    pick (eqb (length m) size)
    (pick (leb (before + b) most)
    (pick (leb (room_of before b) (length t)) (piece_of before b r m t) (untouched Room r m t))
    (untouched Budget r m t))
    (untouched Memory r m t)

-- ---- what is answered

abbrev pub traced_as : (refusal : Option Refusal) (cycles written : ℕ) → Record → Traced
traced_as n c w r = record { refusal = n; cycles = c; written = w; after = r }

abbrev pub traced_by : Written → Traced
traced_by w = traced_as w.end.refusal (length w.end.lines) w.written w.end.rec

-- an answer, a memory and a text are those of w
pub record Tells (w : Written) (o : Traced) (m t : List ℕ) : Type 0 where
  pub answer : o ≡ traced_by w
  pub mem : m ≡ w.end.mem
  pub text : t ≡ w.text

-- what a trail tells, whose last place is how many bytes were written
abbrev pub traced_from : Told → Traced
traced_from o = traced_as o.refusal o.cycles o.place o.after

-- a record that isn't well formed, asked for so many cycles
abbrev pub malformed_at : (written b : ℕ) → Record → Traced
malformed_at w b r = traced_as (pick (eqb b 0) None (Some Malformed)) 0 w r
