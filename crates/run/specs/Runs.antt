-- A run: at most so many cycles over a memory. One definition gives the refusal, the record, the memory and the lines of the completed
-- cycles; their count is the lines' number, a trace is their text.
use Rattle.std.specs.Prelude.{ℕ, zero, suc, List, [], ◌∷◌, ◌++◌, Option, Some, None, length, leb, eqb, Ok, Err}
use Rattle.words.specs.Words.{pick}
use Rattle.cpu.specs.declared.types.Record.{Record}
use Rattle.cpu.specs.declared.types.Request.{Request}
use Rattle.cpu.specs.declared.types.Refusal.{Refusal}
use Rattle.cpu.specs.declared.types.Refusal.TheVariants.{Memory, Budget, Malformed}
use Rattle.memory.specs.Turns.{cycle_of, store_line}
use Rattle.run.specs.declared.types.Outcome.{Outcome}

-- how a run ends: the refusal, if there is one, the record and the memory then, and the completed cycles' lines
pub record End : Type 0 where
  pub refusal : Option Refusal
  pub rec : Record
  pub mem : List ℕ
  pub lines : List Request

abbrev pub ends : Option Refusal → Record → List ℕ → End
ends n r m = record { refusal = n; rec = r; mem = m; lines = [] }

abbrev pub more : Request → End → End
more l e = record { refusal = e.refusal; rec = e.rec; mem = e.mem; lines = l ∷ e.lines }

-- at most so many cycles; a refused one leaves record and memory as they were
unfoldable pub run_of : ℕ → Record → List ℕ → End
run_of zero r m = ends None r m
run_of (suc n) r m = elim (cycle_of r m) [ Ok (l, s) ↦ more l (run_of n s (store_line l m)) | Err k ↦ ends (Some k) r m ]

abbrev pub size : ℕ
size = 65536

abbrev pub most : ℕ
most = 1000000

-- the refusals 1 and 2 come first
unfoldable pub whole_run : ℕ → Record → List ℕ → End
whole_run b r m = pick (eqb (length m) size) (pick (leb b most) (run_of b r m) (ends (Some Budget) r m)) (ends (Some Memory) r m)

-- what a run answers
abbrev pub outcome : {R : Type 0} → (refusal : R) (cycles : ℕ) → Record → Outcome R
outcome n c r = record { refusal = n; cycles = c; after = r }

abbrev pub told : End → Outcome (Option Refusal)
told e = outcome e.refusal (length e.lines) e.rec

-- a record that isn't well formed, asked for so many cycles
abbrev pub malformed : ℕ → Record → Outcome (Option Refusal)
malformed b r = outcome (pick (eqb b 0) None (Some Malformed)) 0 r

-- a run, and the one that goes on where it ended
abbrev pub joined : End → End → End
joined e f = record { refusal = f.refusal; rec = f.rec; mem = f.mem; lines = e.lines ++ f.lines }
