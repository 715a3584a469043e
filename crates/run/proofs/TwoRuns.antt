-- Two runs in a row are one run of both budgets, where the first isn't refused.
use Prim.Native.Nat.{ℕ, zero, suc, ◌+◌, ◌≤◌}
use Rattle.cpu.specs.declared.types.Refusal.{Refusal}
use Rattle.cpu.specs.declared.types.Request.{Request}
use Rattle.std.proofs.Common.{None, Result, Ok, Err}
use mathlib.Core.Path.{◌≡◌, refl, ap, ◌∙◌}
use mathlib.Core.Bool.{Bool, true, false}
use mathlib.Core.List.{List}
use native.Mathlib.Omega.{arith}
use native.Mathlib.Nat.{zero-add, suc-add}
use lib.Dec.{leb, eqb}
use lib.ListN.{length}
use borrow.Author.Tests.{eqb-true, eqb-false, leb-true, leb-false}
use Rattle.cpu.specs.declared.types.Record.{Record}
use Rattle.cpu.specs.declared.types.Refusal.TheVariants.{Memory, Budget}
use Rattle.memory.specs.Turns.{cycle_of, store_line}
use Rattle.run.specs.Runs.{more, joined, run_of, whole_run, size, most}
use Rattle.run.proofs.Laws.{run_done, run_stop, run_none, refused_1, refused_2, accepted}
use Rattle.run.proofs.Counted.{refusal_some, run_size}

-- by what the first cycle comes to; `go` is the law for the cycles after it
by_turn : (j n : ℕ) (r : Record) (m : List ℕ) (t : Result (Request × Record) Refusal) → ((s : Record) (m' : List ℕ) → (run_of j s m').refusal ≡ None → run_of (j + n) s m' ≡ joined (run_of j s m') (run_of n (run_of j s m').rec (run_of j s m').mem)) → cycle_of r m ≡ t → (run_of (suc j) r m).refusal ≡ None → run_of (suc j + n) r m ≡ joined (run_of (suc j) r m) (run_of n (run_of (suc j) r m).rec (run_of (suc j) r m).mem)
by_turn j n r m (Ok (l, s)) go e h =
    let a = run_done j r s m l e in
    rw (suc-add j n, run_done (j + n) r s m l e, a) (ap (more l) (go s (store_line l m) (rw a at h)))
by_turn j n r m (Err k) go e h = absurd (refusal_some k (rw (run_stop j r m k e) at h))

pub cut : (j n : ℕ) (r : Record) (m : List ℕ) → (run_of j r m).refusal ≡ None → run_of (j + n) r m ≡ joined (run_of j r m) (run_of n (run_of j r m).rec (run_of j r m).mem)
cut zero n r m h = rw (zero-add n, run_none r m)
cut (suc j) n r m h = by_turn j n r m (cycle_of r m) (λ s m' k. cut j n s m' k) refl h

-- what a run that isn't refused says of its memory and budget
sized : (j : ℕ) (r : Record) (m : List ℕ) (b : Bool) → eqb (length m) size ≡ b → (whole_run j r m).refusal ≡ None → length m ≡ size
sized j r m true e h = eqb-true _ _ e
sized j r m false e h = absurd (refusal_some Memory (rw (refused_1 j r m (eqb-false _ _ e)) at h))

bounded : (j : ℕ) (r : Record) (m : List ℕ) (b : Bool) → length m ≡ size → leb j most ≡ b → (whole_run j r m).refusal ≡ None → j ≤ most
bounded j r m true l e h = leb-true _ _ e
bounded j r m false l e h = absurd (refusal_some Budget (rw (refused_2 j r m l (leb-false _ _ e)) at h))

-- Two runs in a row, of the entry: where the first isn't refused, and both budgets together are none too many.
pub two_runs : (j n : ℕ) (r : Record) (m : List ℕ) → (whole_run j r m).refusal ≡ None → j + n ≤ most
    → whole_run (j + n) r m ≡ joined (whole_run j r m) (whole_run n (whole_run j r m).rec (whole_run j r m).mem)
two_runs j n r m h q =
    let l = sized j r m (eqb (length m) size) refl h in
    let e = accepted j r m l (bounded j r m (leb j most) l refl h) in
    let k : length (run_of j r m).mem ≡ size = run_size j r m ∙ l in
    rw (accepted (j + n) r m l q, e, accepted n (run_of j r m).rec (run_of j r m).mem k (omega arith)) (cut j n r m (rw e at h))
