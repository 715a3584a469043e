-- Cycle after cycle, up to the next boundary: an instruction's start, or a place between a move's bytes.
use Rattle.std.specs.Prelude.{ℕ, zero, suc, Bool, List, [], ◌∷◌, eqb, Result, Ok, Err}
use Rattle.cpu.specs.declared.types.Refusal.{Refusal}
use Rattle.words.specs.Words.{pick, implied}
use Rattle.cpu.specs.declared.types.Record.{Record}
use Rattle.cpu.specs.declared.types.Request.{Request}
use Rattle.step.specs.Cycle.{request_of, answer_of}

-- the requests in order, and the record after them or the refusal
pub record Ran : Type 0 where
  pub requests : List Request
  pub out : Result Record Refusal

abbrev pub only : Request → Result Record Refusal → Ran
only q a = record { requests = q ∷ []; out = a }

abbrev pub also : Request → Ran → Ran
also q t = record { requests = q ∷ t.requests; out = t.out }

-- no opcode is held, or its cycle 0 comes next
abbrev pub at_boundary : Record → Bool
at_boundary r = implied r.held (eqb r.tcu 0)

abbrev pub after : Result Request Refusal → Result Record Refusal → (Record → Ran) → Ran
after (Err n) a f = record { requests = []; out = Err n }
after (Ok q) (Err n) f = only q (Err n)
after (Ok q) (Ok r) f = pick (at_boundary r) (only q (Ok r)) (also q (f r))

-- the bytes from the second on
abbrev pub later : (ℕ → ℕ) → ℕ → ℕ
later b k = b (suc k)

-- at most n cycles; `b k` is the byte that is answered in cycle k
unfoldable pub run : ℕ → (ℕ → ℕ) → Record → Ran
run zero b r = record { requests = []; out = Ok r }
run (suc n) b r = after (request_of r) (answer_of r (b 0)) (run n (later b))
