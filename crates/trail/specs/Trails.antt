-- Lines in a text as a run goes: what the whole answers.
use Rattle.std.specs.Prelude.{ℕ, ◌+◌, ◌≡◌, List, Option, None, length}
use Rattle.std.proofs.lemmas.List.Edits.{sets}
use Rattle.words.specs.Words.{pick}
use Rattle.cpu.specs.declared.types.Record.{Record}
use Rattle.cpu.specs.declared.types.Refusal.{Refusal}
use Rattle.trace.specs.Text.{lines_text}
use Rattle.run.specs.Runs.{End, ends, run_of}
use Rattle.drive.specs.Drives.{roomy}
use Rattle.trail.specs.declared.types.Told.{Told}

abbrev pub told_as : (refusal : Option Refusal) (cycles place : ℕ) → Record → Told
told_as n c p r = record { refusal = n; cycles = c; place = p; after = r }

-- an answer, a memory and a text are those of the end e, whose lines are numbered from n on, at place p of the text t
pub record Listed (e : End) (n p : ℕ) (t : List ℕ) (o : Told) (m t' : List ℕ) : Type 0 where
  pub answer : o ≡ told_as e.refusal (length e.lines) (p + length (lines_text n e.lines)) e.rec
  pub mem : m ≡ e.mem
  pub text : t' ≡ sets t p (lines_text n e.lines)

-- the run, or nothing
abbrev pub trail_of : (start before b : ℕ) → Record → (m t : List ℕ) → End
trail_of p before b r m t = pick (roomy p before b r m t) (run_of b r m) (ends None r m)
