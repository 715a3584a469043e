-- What a bench may rely on: a refused step changes nothing, one that isn't refused counts, and two cycles in a row are a run of two.
use Prim.Native.Nat.{ℕ, zero, suc, min, ◌+◌, ◌≤◌, ◌<◌}
use Rattle.cpu.specs.declared.types.Request.{Request}
use Rattle.cpu.specs.declared.types.Refusal.{Refusal}
use Rattle.std.proofs.Common.{Option, Some, None, Result, Ok, Err}
use mathlib.Core.Path.{◌≡◌, refl, sym, ◌∙◌, ap}
use mathlib.Core.Bool.{Bool, true, false}
use mathlib.Core.List.{List}
use native.Mathlib.Omega.{arith}
use lib.Dec.{leb, eqb, ltb}
use lib.ListN.{length, set, length-set}
use borrow.Author.Tests.{leb-true, leb-false, ltb-true, ltb-false, eqb-true, eqb-false, lt-ltb}
use Rattle.words.specs.Words.{pick}
use Rattle.cpu.specs.declared.types.Record.{Record}
use Rattle.cpu.specs.declared.types.Refusal.TheVariants.{Memory, Budget}
use Rattle.step.specs.Cycle.{answer_of}
use Rattle.memory.specs.Turns.{cycle_of, store_line}
use Rattle.run.specs.Runs.{End, ends, run_of, whole_run, size, most}
use Rattle.run.proofs.Laws.{run_done, run_stop, run_none, accepted, refused_1}
use Rattle.run.proofs.Counted.{refusal_some}
use Rattle.run.proofs.TwoRuns.{cut}
use Rattle.session.specs.declared.types.Session.{Session}
use Rattle.session.specs.declared.types.Stepped.{Stepped}
use Rattle.session.specs.Sessions.{top, counted, counted_on, came_to, answered_to, cycled_over, memory_over, counted_if, one_cycle}

-- ---- the count

pub counted_below : (n : ℕ) → n < top → counted n ≡ n + 1
unfolding counted
counted_below n h = simp (lt-ltb n top h)

pub counted_top : counted top ≡ top
unfolding counted
counted_top = refl

-- a count never falls, and what fits goes on fitting
within : (n : ℕ) (b : Bool) → ltb n top ≡ b → n ≤ top → (n ≤ counted n) × (counted n ≤ top)
unfolding counted
within n true e h = let k = ltb-true n top e in simp e (omega arith, omega (arith, k))
within n false e h = simp e (omega arith, h)

pub never_wraps : (n : ℕ) → n ≤ top → (n ≤ counted n) × (counted n ≤ top)
never_wraps n h = within n (ltb n top) refl h

-- so many more: the sum, as far as it fits, or else the top
pub counted_sum : (k n : ℕ) → n + k ≤ top → counted_on k n ≡ n + k
unfolding counted_on
counted_sum zero n h = omega arith
counted_sum (suc k) n h = ap (counted_on k) (counted_below n (omega (arith, h))) ∙ counted_sum k (n + 1) (omega (arith, h)) ∙ omega arith

grown : (n k : ℕ) (b : Bool) → ltb n top ≡ b → top ≤ n + suc k → top ≤ counted n + k
unfolding counted
grown n k true e h = simp e (omega (arith, h))
grown n k false e h = simp e (omega (arith, ltb-false n top e))

pub counted_full : (k n : ℕ) → n ≤ top → top ≤ n + k → counted_on k n ≡ top
unfolding counted_on
counted_full zero n h g = omega (arith, h, g)
counted_full (suc k) n h g = let i = never_wraps n h in counted_full k (counted n) i.1 (grown n k (ltb n top) refl g)

by_fit : (k n : ℕ) (b : Bool) → leb (n + k) top ≡ b → n ≤ top → counted_on k n ≡ min (n + k) top
by_fit k n true e h = let f = leb-true (n + k) top e in counted_sum k n f ∙ omega (arith, f)
by_fit k n false e h = let f = leb-false (n + k) top e in counted_full k n h (omega (arith, f)) ∙ omega (arith, f)

pub counted_least : (k n : ℕ) → n ≤ top → counted_on k n ≡ min (n + k) top
counted_least k n h = by_fit k n (leb (n + k) top) refl h

-- ---- by an answered byte

came_kept : (s : Session) (a : Result Record Refusal) → ((came_to s a).refusal ≡ None → ⊥) → (came_to s a).session ≡ s
came_kept s (Ok r) h = absurd (h refl)
came_kept s (Err n) h = refl

-- a refused byte leaves the session as it was
pub refused_byte : (s : Session) (b : ℕ) → ((answered_to s b).refusal ≡ None → ⊥) → (answered_to s b).session ≡ s
unfolding answered_to
refused_byte s b h = came_kept s (answer_of s.at b) h

came_counted : (s : Session) (a : Result Record Refusal) → (came_to s a).refusal ≡ None → (came_to s a).session.cycles ≡ counted s.cycles
came_counted s (Ok r) h = refl
came_counted s (Err n) h = absurd (refusal_some n h)

-- one that isn't refused counts
pub byte_counts : (s : Session) (b : ℕ) → (answered_to s b).refusal ≡ None → (answered_to s b).session.cycles ≡ counted s.cycles
unfolding answered_to
byte_counts s b h = came_counted s (answer_of s.at b) h

-- ---- by a cycle over a memory

-- a run that leaves record and memory as they were, if it is refused
abbrev Keeps : Record → List ℕ → End → Type 0
Keeps r m e = (e.refusal ≡ None → ⊥) → (e.rec ≡ r) × (e.mem ≡ m)

kept_turn : (r : Record) (m : List ℕ) (t : Result (Request × Record) Refusal) → cycle_of r m ≡ t → Keeps r m (run_of 1 r m)
kept_turn r m (Ok (l, s)) e h = absurd (h (rw (run_done 0 r s m l e, run_none s (store_line l m))))
kept_turn r m (Err k) e h = let f = run_stop 0 r m k e in (rw f, rw f)

kept_either : (b : Bool) (r : Record) (m : List ℕ) (e f : End) → Keeps r m e → Keeps r m f → Keeps r m (pick b e f)
kept_either true r m e f g h = g
kept_either false r m e f g h = h

kept_run : (r : Record) (m : List ℕ) → Keeps r m (whole_run 1 r m)
unfolding whole_run
kept_run r m =
    kept_either (eqb (length m) size) r m (pick (leb 1 most) (run_of 1 r m) (ends (Some Budget) r m)) (ends (Some Memory) r m)
    (kept_either (leb 1 most) r m (run_of 1 r m) (ends (Some Budget) r m) (kept_turn r m (cycle_of r m) refl) (λ _. (refl, refl))) (λ _. (refl, refl))

uncounted : (x : Option Refusal) (c : ℕ) → (x ≡ None → ⊥) → counted_if x c ≡ c
uncounted None c h = absurd (h refl)
uncounted (Some n) c h = refl

-- a refused cycle leaves session and memory as they were
pub refused_cycle : (s : Session) (m : List ℕ) → ((cycled_over s m).refusal ≡ None → ⊥) → ((cycled_over s m).session ≡ s) × (memory_over s m ≡ m)
unfolding cycled_over memory_over
refused_cycle s m h = let k = kept_run s.at m h in (rw (k.0, uncounted (one_cycle s m).refusal s.cycles h), k.1)

-- one that isn't refused counts
pub cycle_counts : (s : Session) (m : List ℕ) → (cycled_over s m).refusal ≡ None → (cycled_over s m).session.cycles ≡ counted s.cycles
unfolding cycled_over
cycle_counts s m h = ap (λ (x : Option Refusal). counted_if x s.cycles) h

-- ---- two cycles in a row

stored : (b : Bool) (m : List ℕ) (a v : ℕ) → length (pick b (set m a v) m) ≡ length m
stored true m a v = length-set m a v
stored false m a v = refl

same_room : (r : Record) (m : List ℕ) (t : Result (Request × Record) Refusal) → cycle_of r m ≡ t → length (run_of 1 r m).mem ≡ length m
same_room r m (Ok (l, s)) e = rw (run_done 0 r s m l e, run_none s (store_line l m)) (stored l.write m l.addr l.byte)
same_room r m (Err k) e = rw (run_stop 0 r m k e)

sized : (r : Record) (m : List ℕ) (b : Bool) → eqb (length m) size ≡ b → (whole_run 1 r m).refusal ≡ None → length m ≡ size
sized r m true e h = eqb-true _ _ e
sized r m false e h = absurd (refusal_some Memory (rw (refused_1 1 r m (eqb-false _ _ e)) at h))

-- the second cycle ends as a run of two does
pub record Twice (e : End) (t : Stepped) (m : List ℕ) : Type 0 where
  pub refusal : t.refusal ≡ e.refusal
  pub rec : t.session.at ≡ e.rec
  pub mem : m ≡ e.mem

pub two_cycles : (s : Session) (m : List ℕ) → (cycled_over s m).refusal ≡ None → Twice (whole_run 2 s.at m) (cycled_over (cycled_over s m).session (memory_over s m)) (memory_over (cycled_over s m).session (memory_over s m))
unfolding cycled_over memory_over
two_cycles s m h =
    let z = sized s.at m (eqb (length m) size) refl h in
    let one = accepted 1 s.at m z (omega arith) in
    let x = run_of 1 s.at m in
    let next = accepted 1 x.rec x.mem (same_room s.at m (cycle_of s.at m) refl ∙ z) (omega arith) in
    let again = ap (λ (e : End). whole_run 1 e.rec e.mem) one ∙ next in
    let whole = accepted 2 s.at m z (omega arith) ∙ cut 1 1 s.at m (rw one at h) in
    record {
      refusal = ap (λ (e : End). e.refusal) again ∙ sym (ap (λ (e : End). e.refusal) whole);
      rec = ap (λ (e : End). e.rec) again ∙ sym (ap (λ (e : End). e.rec) whole);
      mem = ap (λ (e : End). e.mem) again ∙ sym (ap (λ (e : End). e.mem) whole);
    }
