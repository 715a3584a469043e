-- An instruction on the bus that a lent memory is goes as a run of that many cycles over the memory does, where it only reads and
-- stays inside.
use Prim.Native.Nat.{ℕ, zero, suc, ◌+◌, ◌<◌}
use Rattle.cpu.specs.declared.types.Refusal.{Refusal}
use Rattle.std.proofs.Common.{None, Result, Ok, Err}
use mathlib.Core.Path.{◌≡◌, refl, ap, sym, subst, ◌∙◌}
use mathlib.Core.Bool.{Bool, true, false}
use mathlib.Core.List.{List}
use native.Mathlib.Omega.{arith}
use lib.ListN.{length, length-append}
use borrow.Author.Tests.{lt-leb}
use Rattle.words.specs.Words.{pick, at}
use Rattle.cpu.specs.declared.types.Record.{Record}
use Rattle.cpu.specs.declared.types.Request.{Request}
use Rattle.cpu.specs.declared.types.Refusal.TheVariants.{Bank}
use Rattle.step.specs.Cycle.{micro_of, answered_by, request_of, answer_of}
use Rattle.memory.specs.Turns.{bus_byte, crossed, answered, over, cycle_of, store_line}
use Rattle.sheet.specs.Run.{Ran, only, also, after, at_boundary, run}
use Rattle.sheet.proofs.Walk.{false_true}
use Rattle.run.specs.Runs.{End, more, joined, run_of, size}
use Rattle.run.proofs.Laws.{run_done}
use Rattle.run.proofs.TwoRuns.{cut}
use Rattle.farm.specs.Pairs.{reply, left, heard}
use Rattle.farm.specs.Lent.{lent}
use Rattle.farm.proofs.Instructions.{Goes}
use Rattle.farm.proofs.Delivered.{Reads}

-- n cycles lead from r to s, none refused, and leave the memory as it is
pub record Through (m : List ℕ) (n : ℕ) (r s : Record) : Type 0 where
  pub refusal : (run_of n r m).refusal ≡ None
  pub rec : (run_of n r m).rec ≡ s
  pub mem : (run_of n r m).mem ≡ m
  pub count : length (run_of n r m).lines ≡ n

pub through_none : (m : List ℕ) (r : Record) → Through m 0 r r
unfolding run_of
through_none m r = record { refusal = refl; rec = refl; mem = refl; count = refl }

pub through_both : (m : List ℕ) (a b : ℕ) (r s u : Record) → Through m a r s → Through m b s u → Through m (a + b) r u
through_both m a b r s u x y =
    let e : run_of (a + b) r m ≡ joined (run_of a r m) (run_of b s m) =
    cut a b r m x.refusal
    ∙ ap (λ (v : Record). joined (run_of a r m) (run_of b v (run_of a r m).mem)) x.rec
    ∙ ap (λ (v : List ℕ). joined (run_of a r m) (run_of b s v)) x.mem in
    record {
      refusal = ap (λ (v : End). v.refusal) e ∙ y.refusal;
      rec = ap (λ (v : End). v.rec) e ∙ y.rec;
      mem = ap (λ (v : End). v.mem) e ∙ y.mem;
      count = ap (λ (v : End). length v.lines) e ∙ length-append (run_of a r m).lines (run_of b s m).lines ∙ omega (arith, x.count, y.count);
    }

-- ---- a cycle that reads inside the memory
module _ (m : List ℕ) (whole : length m ≡ size) (r s : Record) (q : Request) (asks : request_of r ≡ Ok q) (goes : answer_of r (bus_byte q m) ≡ Ok s)
    (read : q.write ≡ false) (inside : q.addr < size) where
  cycle_done : cycle_of r m ≡ Ok (crossed q (bus_byte q m), s)
  unfolding cycle_of request_of answer_of
  cycle_done =
      ap (λ (a : Result Request Refusal). over a (micro_of r) r m) asks
      ∙ ap (λ (t : Bool). pick t (Err Bank) (answered (crossed q (bus_byte q m)) (answered_by (micro_of r) r (bus_byte q m))))
      (lt-leb (length m) q.addr (rw whole inside))
      ∙ ap (answered (crossed q (bus_byte q m))) goes

  through_cycle : (n : ℕ) (u : Record) → Through m n s u → Through m (suc n) r u
  through_cycle n u x =
      let kept : store_line (crossed q (bus_byte q m)) m ≡ m = rw read in
      let e : run_of (suc n) r m ≡ more (crossed q (bus_byte q m)) (run_of n s m) =
      run_done n r s m _ cycle_done ∙ ap (λ (v : List ℕ). more (crossed q (bus_byte q m)) (run_of n s v)) kept in
      record {
        refusal = ap (λ (v : End). v.refusal) e ∙ x.refusal;
        rec = ap (λ (v : End). v.rec) e ∙ x.rec;
        mem = ap (λ (v : End). v.mem) e ∙ x.mem;
        count = ap (λ (v : End). length v.lines) e ∙ ap suc x.count;
      }

-- ---- up to the instruction's end
accepts : Result Record Refusal → Bool
accepts (Ok s) = true
accepts (Err n) = false

not_refused : (s : Record) (a : Result Record Refusal) → accepts a ≡ false → a ≡ Ok s → ⊥
unfolding accepts
not_refused s a h e = false_true (sym h ∙ ap accepts e)

-- the records of two accepted answers
pub same_record : (r s : Record) → ◌≡◌ {A = Result Record Refusal} (Ok r) (Ok s) → r ≡ s
same_record r s e = ap (left s) e

-- an address of bank 0 is inside
in_memory : (p a : ℕ) → a ≡ at 0 p → p < 65536 → a < size
unfolding at
in_memory p a e h = omega (arith, e)

module _ (m : List ℕ) (whole : length m ≡ size) where
  -- by whether the instruction ends with this cycle
  through_pick : (n t : ℕ) (r s u : Record) (q : Request) (e : Bool) → request_of r ≡ Ok q → answer_of r (bus_byte q m) ≡ Ok s
      → ((run n (heard (lent m) (suc t) s) s).out ≡ Ok u → Reads 0 (run n (heard (lent m) (suc t) s) s).requests
      → Through m (length (run n (heard (lent m) (suc t) s) s).requests) s u)
      → let v : Ran = pick e (only q (Ok s)) (also q (run n (heard (lent m) (suc t) s) s)) in
      v.out ≡ Ok u → Reads 0 v.requests → Through m (length v.requests) r u
  through_pick n t r s u q true asks goes go out x =
      through_cycle m whole r s q asks goes x.0 (in_memory x.1 q.addr x.2 x.3) 0 u
      (subst (Through m 0 s) (same_record s u out) (through_none m s))
  through_pick n t r s u q false asks goes go out x =
      through_cycle m whole r s q asks goes x.0 (in_memory x.1 q.addr x.2 x.3) _ u (go out x.4)

  -- by what is asked and answered
  through_after : (n t : ℕ) (r u : Record) (q : Result Request Refusal) (a : Result Record Refusal) → request_of r ≡ q → answer_of r (reply (lent m) t q) ≡ a
      → ((s : Record) → (run n (heard (lent m) (suc t) s) s).out ≡ Ok u → Reads 0 (run n (heard (lent m) (suc t) s) s).requests
      → Through m (length (run n (heard (lent m) (suc t) s) s).requests) s u)
      → let v : Ran = after q a (run n (heard (lent m) (suc t) (left r a))) in
      v.out ≡ Ok u → Reads 0 v.requests → Through m (length v.requests) r u
  unfolding accepts
  through_after n t r u (Err k) a asks goes go out x = absurd (not_refused u (Err k) refl out)
  through_after n t r u (Ok q) (Err k) asks goes go out x = absurd (not_refused u (Err k) refl out)
  through_after n t r u (Ok q) (Ok s) asks goes go out x = through_pick n t r s u q (at_boundary s) asks goes (go s) out x

  through_run : (n t : ℕ) (r u : Record) → (run n (heard (lent m) t r) r).out ≡ Ok u → Reads 0 (run n (heard (lent m) t r) r).requests
      → Through m (length (run n (heard (lent m) t r) r).requests) r u
  unfolding run heard
  through_run zero t r u out x = subst (Through m 0 r) (same_record r u out) (through_none m r)
  through_run (suc n) t r u out x =
      through_after n t r u (request_of r) (answer_of r (reply (lent m) t (request_of r))) refl refl (λ s. through_run n (suc t) s u) out x

  -- an instruction that is known to go
  pub through_goes : (t : ℕ) (r s : Record) (qs : List Request) → Goes (lent m) t r s qs → Reads 0 qs → Through m (length qs) r s
  through_goes t r s qs g x =
      subst (λ (l : List Request). Through m (length l) r s) g.requests
      (through_run 8 t r s g.out (subst (Reads 0) (sym g.requests) x))
