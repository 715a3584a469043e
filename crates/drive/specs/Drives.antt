-- Whole instructions with their lines in a text: how far they go at a stretch, and what they leave.
use Rattle.std.specs.Prelude.{ℕ, ◌+◌, ◌*◌, ◌≡◌, Bool, true, ◌&&◌, List, eqb, leb, ltb, length, get_or}
use Rattle.std.proofs.lemmas.List.Edits.{sets}
use Rattle.words.specs.Words.{pick, inc}
use Rattle.cpu.specs.Record.{well_formed}
use Rattle.cpu.specs.declared.types.Record.{Record}
use Rattle.trace.specs.Text.{lines_text, Wrote}
use Rattle.prints.specs.declared.Fetched.{Fetched}
use Rattle.run.specs.Runs.{run_of, size, most}
use Rattle.run.specs.Passes.{Passes}
use Rattle.run.specs.Far.{ahead_far}
use Rattle.drive.specs.declared.types.Walk.{Walk}

abbrev pub walk : (cycles place : ℕ) → Record → Walk
walk n p r = record { cycles = n; place = p; after = r }

-- what stands at a place, with the two bytes after it
abbrev pub fetched : (m : List ℕ) (pc : ℕ) → Fetched
fetched m p = record { pc = p; op = get_or m p 0; first = get_or m (inc p) 0; second = get_or m (inc (inc p)) 0 }

-- a stretch of cycles from r and m, none refused, with its lines from number n on at place p of t
pub record Walked (r : Record) (m t : List ℕ) (n p : ℕ) (w : Walk) (m' t' : List ℕ) : Type 0 where
  pub passes : Passes w.cycles r m w.after m'
  pub well : well_formed w.after ≡ true
  pub wrote : Wrote t t' p w.place (lines_text n (run_of w.cycles r m).lines)

-- an answer, a memory and a text are those of n cycles of the run from r and m, whose lines are numbered from k on, at place p of the text t
pub record Driven (n : ℕ) (r : Record) (m t : List ℕ) (k p : ℕ) (w : Walk) (m' t' : List ℕ) : Type 0 where
  pub answer : w ≡ walk n (p + length (lines_text k (run_of n r m).lines)) (run_of n r m).rec
  pub mem : m' ≡ (run_of n r m).mem
  pub text : t' ≡ sets t p (lines_text k (run_of n r m).lines)

-- whether the memory is whole, the record well formed, and there is room for so many lines: 22 bytes for one
abbrev pub roomy : (start before b : ℕ) → Record → (m t : List ℕ) → Bool
roomy p before b r m t = (eqb (length m) size && (leb (before + b) most && leb (p + 22 * b) (length t))) && well_formed r

-- and whether a cycle is asked for
abbrev pub drivable : (start before b : ℕ) → Record → (m t : List ℕ) → Bool
drivable p before b r m t = roomy p before b r m t && ltb 0 b

-- how many cycles are done: as far as whole instructions go, or none
abbrev pub gone_by : (start before b : ℕ) → Record → (m t : List ℕ) → ℕ
gone_by p before b r m t = pick (drivable p before b r m t) (ahead_far b r m) 0
