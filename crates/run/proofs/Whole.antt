-- An instruction that is known cycle by cycle, over a memory that answers its reads and takes its writes.
use Prim.Native.Nat.{ℕ, zero, suc, ◌+◌, ◌<◌}
use Rattle.cpu.specs.declared.types.Refusal.{Refusal}
use Rattle.std.proofs.Common.{Result, Ok, Err}
use mathlib.Core.Path.{◌≡◌, refl, ap, sym, subst, ◌∙◌}
use mathlib.Core.Bool.{Bool, true, false}
use mathlib.Core.List.{List, [], ◌∷◌}
use native.Mathlib.Omega.{arith}
use lib.ListN.{length, length-append, length-set}
use borrow.Author.Tests.{lt-leb}
use Rattle.words.specs.Words.{pick}
use Rattle.cpu.specs.declared.types.Record.{Record}
use Rattle.cpu.specs.declared.types.Request.{Request}
use Rattle.cpu.specs.declared.types.Refusal.TheVariants.{Bank}
use Rattle.step.specs.Cycle.{micro_of, answered_by, request_of, answer_of}
use Rattle.memory.specs.Turns.{bus_byte, crossed, answered, over, cycle_of, store_line}
use Rattle.sheet.specs.Run.{Ran, only, also, after, later, at_boundary, run}
use Rattle.sheet.proofs.Walk.{false_true}
use Rattle.run.specs.Runs.{End, more, joined, run_of, size}
use Rattle.run.specs.Passes.{Passes, Leaves}
use Rattle.run.proofs.Laws.{run_done}
use Rattle.run.proofs.TwoRuns.{cut}

pub passes_none : (r : Record) (m : List ℕ) → Passes 0 r m r m
unfolding run_of
passes_none r m = record { refusal = refl; rec = refl; mem = refl; count = refl }

leaves_none : (r : Record) (m : List ℕ) → Leaves 0 r m r m []
unfolding run_of
leaves_none r m = record { passes = passes_none r m; lines = refl }

pub passes_both : (a b : ℕ) (r s u : Record) (m k l : List ℕ) → Passes a r m s k → Passes b s k u l → Passes (a + b) r m u l
passes_both a b r s u m k l x y =
    let e : run_of (a + b) r m ≡ joined (run_of a r m) (run_of b s k) =
    cut a b r m x.refusal
    ∙ ap (λ (v : Record). joined (run_of a r m) (run_of b v (run_of a r m).mem)) x.rec
    ∙ ap (λ (v : List ℕ). joined (run_of a r m) (run_of b s v)) x.mem in
    record {
      refusal = ap (λ (v : End). v.refusal) e ∙ y.refusal;
      rec = ap (λ (v : End). v.rec) e ∙ y.rec;
      mem = ap (λ (v : End). v.mem) e ∙ y.mem;
      count = ap (λ (v : End). length v.lines) e ∙ length-append (run_of a r m).lines (run_of b s k).lines ∙ omega (arith, x.count, y.count);
    }

-- the memory answers the requests in turn as b does, and they lie inside it
abbrev pub stores : List ℕ → Request → List ℕ
stores m q = store_line (crossed q (bus_byte q m)) m

abbrev pub Answers : List ℕ → (ℕ → ℕ) → List Request → Type 0
Answers m b [] = Unit
Answers m b (q ∷ qs) = (q.addr < size) × (b 0 ≡ bus_byte q m) × Answers (stores m q) (later b) qs

abbrev pub stores_all : List ℕ → List Request → List ℕ
stores_all m [] = m
stores_all m (q ∷ qs) = stores_all (stores m q) qs

abbrev pub lines_all : List ℕ → List Request → List Request
lines_all m [] = []
lines_all m (q ∷ qs) = crossed q (bus_byte q m) ∷ lines_all (stores m q) qs

-- ---- a cycle inside the memory
stored_size : (w : Bool) (m : List ℕ) (i v : ℕ) → length (pick w (lib.ListN.set m i v) m) ≡ length m
stored_size true m i v = length-set m i v
stored_size false m i v = refl

module _ (m : List ℕ) (whole : length m ≡ size) (r s : Record) (q : Request) (asks : request_of r ≡ Ok q) (goes : answer_of r (bus_byte q m) ≡ Ok s)
    (inside : q.addr < size) where
  cycle_done : cycle_of r m ≡ Ok (crossed q (bus_byte q m), s)
  unfolding cycle_of request_of answer_of
  cycle_done =
      ap (λ (a : Result Request Refusal). over a (micro_of r) r m) asks
      ∙ ap (λ (t : Bool). pick t (Err Bank) (answered (crossed q (bus_byte q m)) (answered_by (micro_of r) r (bus_byte q m))))
      (lt-leb (length m) q.addr (rw whole inside))
      ∙ ap (answered (crossed q (bus_byte q m))) goes

  leaves_cycle : (n : ℕ) (u : Record) (k : List ℕ) (ls : List Request) → Leaves n s (stores m q) u k ls
      → Leaves (suc n) r m u k (crossed q (bus_byte q m) ∷ ls)
  leaves_cycle n u k ls x =
      let e : run_of (suc n) r m ≡ more (crossed q (bus_byte q m)) (run_of n s (stores m q)) = run_done n r s m _ cycle_done in
      record {
        passes = record {
          refusal = ap (λ (v : End). v.refusal) e ∙ x.passes.refusal;
          rec = ap (λ (v : End). v.rec) e ∙ x.passes.rec;
          mem = ap (λ (v : End). v.mem) e ∙ x.passes.mem;
          count = ap (λ (v : End). length v.lines) e ∙ ap suc x.passes.count;
        };
        lines = ap (λ (v : End). v.lines) e ∙ ap (λ (v : List Request). crossed q (bus_byte q m) ∷ v) x.lines;
      }

-- ---- up to the instruction's end
accepts : Result Record Refusal → Bool
accepts (Ok s) = true
accepts (Err n) = false

not_refused : (s : Record) (a : Result Record Refusal) → accepts a ≡ false → a ≡ Ok s → ⊥
unfolding accepts
not_refused s a h e = false_true (sym h ∙ ap accepts e)

left : Record → Result Record Refusal → Record
left r (Ok s) = s
left r (Err n) = r

same_record : (r s : Record) → ◌≡◌ {A = Result Record Refusal} (Ok r) (Ok s) → r ≡ s
unfolding left
same_record r s e = ap (left s) e

-- what the law says of n cycles
abbrev Law : ℕ → (ℕ → ℕ) → Type 0
Law n b = (m : List ℕ) → length m ≡ size → (r u : Record) → (run n b r).out ≡ Ok u → Answers m b (run n b r).requests
    → Leaves (length (run n b r).requests) r m u (stores_all m (run n b r).requests) (lines_all m (run n b r).requests)

module _ (n : ℕ) (b : ℕ → ℕ) (go : Law n (later b)) (m : List ℕ) (whole : length m ≡ size) (r u : Record) where
  -- by whether the instruction ends with this cycle
  leaves_pick : (s : Record) (q : Request) (e : Bool) → request_of r ≡ Ok q → answer_of r (b 0) ≡ Ok s
      → let v : Ran = pick e (only q (Ok s)) (also q (run n (later b) s)) in
      v.out ≡ Ok u → Answers m b v.requests → Leaves (length v.requests) r m u (stores_all m v.requests) (lines_all m v.requests)
  leaves_pick s q true asks goes out x =
      leaves_cycle m whole r s q asks (ap (answer_of r) (sym x.1) ∙ goes) x.0 0 u (stores m q) []
      (subst (λ (v : Record). Leaves 0 s (stores m q) v (stores m q) []) (same_record s u out) (leaves_none s (stores m q)))
  leaves_pick s q false asks goes out x =
      leaves_cycle m whole r s q asks (ap (answer_of r) (sym x.1) ∙ goes) x.0 _ u _ _
      (go (stores m q) (stored_size q.write m q.addr (bus_byte q m) ∙ whole) s u out x.2)

  -- by what is asked and answered
  leaves_after : (q : Result Request Refusal) (a : Result Record Refusal) → request_of r ≡ q → answer_of r (b 0) ≡ a
      → let v : Ran = after q a (run n (later b)) in
      v.out ≡ Ok u → Answers m b v.requests → Leaves (length v.requests) r m u (stores_all m v.requests) (lines_all m v.requests)
  unfolding accepts
  leaves_after (Err k) a asks goes out x = absurd (not_refused u (Err k) refl out)
  leaves_after (Ok q) (Err k) asks goes out x = absurd (not_refused u (Err k) refl out)
  leaves_after (Ok q) (Ok s) asks goes out x = leaves_pick s q (at_boundary s) asks goes out x

-- What cycle after cycle answers is what the run over the memory does.
pub leaves_run : (n : ℕ) (b : ℕ → ℕ) → Law n b
unfolding run
leaves_run zero b m whole r u out x = subst (λ (v : Record). Leaves 0 r m v m []) (same_record r u out) (leaves_none r m)
leaves_run (suc n) b m whole r u out x = leaves_after n b (leaves_run n (later b)) m whole r u (request_of r) (answer_of r (b 0)) refl refl out x
