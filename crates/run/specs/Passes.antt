-- What a run over a memory passes through: a stretch of its cycles, none of them refused.
use Rattle.std.specs.Prelude.{ℕ, ◌≡◌, ◌≤◌, Bool, true, List, None, length}
use Rattle.cpu.specs.Record.{well_formed}
use Rattle.cpu.specs.declared.types.Record.{Record}
use Rattle.cpu.specs.declared.types.Request.{Request}
use Rattle.stride.specs.declared.types.Stretch.{Stretch}
use Rattle.run.specs.Runs.{run_of}

-- n cycles lead from r and m to s and k, none refused
pub record Passes (n : ℕ) (r : Record) (m : List ℕ) (s : Record) (k : List ℕ) : Type 0 where
  pub refusal : (run_of n r m).refusal ≡ None
  pub rec : (run_of n r m).rec ≡ s
  pub mem : (run_of n r m).mem ≡ k
  pub count : length (run_of n r m).lines ≡ n

-- and these are their lines
pub record Leaves (n : ℕ) (r : Record) (m : List ℕ) (s : Record) (k : List ℕ) (ls : List Request) : Type 0 where
  pub passes : Passes n r m s k
  pub lines : (run_of n r m).lines ≡ ls

-- a stretch is what its cycles come to, and leaves a well-formed record
abbrev pub Goes : Record → List ℕ → Stretch → List ℕ → Type 0
Goes r m t k = Passes t.cycles r m t.after k × (well_formed t.after ≡ true)

-- and one of a pace is no longer than its floor, and ends where another can begin
pub record Paced (start : Record → Bool) (floor : ℕ) (r : Record) (m : List ℕ) (t : Stretch) (k : List ℕ) : Type 0 where
  pub goes : Goes r m t k
  pub again : start t.after ≡ true
  pub short : t.cycles ≤ floor
