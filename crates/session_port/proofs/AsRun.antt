-- Several cycles of a session come to what a run of its record comes to, and beyond the million of a run's budget too.
use Prim.Native.Nat.{ℕ, zero, suc}
use Rattle.cpu.specs.declared.types.Refusal.{Refusal}
use Rattle.cpu.specs.declared.types.Record.{Record}
use Rattle.cpu.specs.declared.types.Request.{Request}
use Rattle.std.proofs.Common.{Some, None, Result, Ok, Err}
use mathlib.Core.Path.{◌≡◌, refl, sym, ap, ◌∙◌}
use mathlib.Core.Bool.{Bool, true, false}
use mathlib.Core.List.{List}
use native.Mathlib.Omega.{arith}
use lib.ListN.{length, set, length-set}
use Rattle.words.specs.Words.{pick}
use Rattle.memory.specs.Turns.{cycle_of, store_line}
use Rattle.run.specs.Runs.{End, ends, more, run_of, told, size}
use Rattle.run.proofs.Laws.{run_done, run_stop, run_none, accepted}
use Rattle.run.proofs.Counted.{refusal_some}
use Rattle.session.specs.Sessions.{counted, counted_on, session_at, after_run, cycled_over, memory_over}
use Rattle.session.specs.declared.types.Session.{Session}
use Rattle.session.specs.declared.types.Stepped.{Stepped}
use Rattle.session.proofs.ByTurn.{uncounted}
use Rattle.session_port.specs.Port.{Course, course_of, went_to, told_of}
use Rattle.session_port.proofs.Courses.{course_none, course_done, course_stop}

pub record AsRun (before : ℕ) (c : Course) (e : End) : Type 0 where
  pub refusal : c.refusal ≡ e.refusal
  pub rec : c.session.at ≡ e.rec
  pub mem : c.mem ≡ e.mem
  pub count : c.done ≡ length e.lines
  pub cycles : c.session.cycles ≡ counted_on (length e.lines) before

one_run : (s : Session) (m : List ℕ) (e : End) → length m ≡ size → run_of 1 s.at m ≡ e
    → (cycled_over s m ≡ after_run s.cycles e.refusal e.rec) × (memory_over s m ≡ e.mem)
unfolding cycled_over memory_over
one_run s m e z f =
    let g = accepted 1 s.at m z (omega arith) ∙ f in
    (ap (λ (x : End). after_run s.cycles x.refusal x.rec) g, ap (λ (x : End). x.mem) g)

stored : (b : Bool) (m : List ℕ) (a v : ℕ) → length (pick b (set m a v) m) ≡ length m
stored true m a v = length-set m a v
stored false m a v = refl

abbrev Next : ℕ → Type 0
Next n = (s : Session) (m : List ℕ) → length m ≡ size → AsRun s.cycles (course_of n s m) (run_of n s.at m)

by_turn : (n : ℕ) (s : Session) (m : List ℕ) (t : Result (Request × Record) Refusal) → length m ≡ size → cycle_of s.at m ≡ t → Next n
    → AsRun s.cycles (course_of (suc n) s m) (run_of (suc n) s.at m)
unfolding counted_on
by_turn n s m (Ok (l, r)) z e next =
    let o = one_run s m (more l (ends None r (store_line l m))) z (run_done 0 s.at r m l e ∙ ap (λ (x : End). more l x) (run_none r (store_line l m))) in
    let k : (cycled_over s m).refusal ≡ None = ap (λ (x : Stepped). x.refusal) o.0 in
    let q : length (store_line l m) ≡ size = stored l.write m l.addr l.byte ∙ z in
    let i : AsRun (counted s.cycles) (course_of n (cycled_over s m).session (memory_over s m)) (run_of n r (store_line l m)) = rw (o.0, o.1) (next (after_run s.cycles None r).session (store_line l m) q) in
    rw (course_done n s m k, run_done n s.at r m l e) (record { refusal = i.refusal; rec = i.rec; mem = i.mem; count = omega (arith, i.count); cycles = i.cycles })
by_turn n s m (Err j) z e next =
    let o = one_run s m (ends (Some j) s.at m) z (run_stop 0 s.at m j e) in
    let k : (cycled_over s m).refusal ≡ Some j = ap (λ (x : Stepped). x.refusal) o.0 in
    rw (course_stop n s m (λ h. refusal_some j (rw k at h)), run_stop n s.at m j e)
    (record { refusal = k; rec = ap (λ (x : Stepped). x.session.at) o.0; mem = o.1; count = refl; cycles = ap (λ (x : Stepped). x.session.cycles) o.0 ∙ uncounted j s.cycles })

pub as_run : (n : ℕ) → Next n
unfolding counted_on
as_run zero s m z = rw (course_none s m, run_none s.at m) (record { refusal = refl; rec = refl; mem = refl; count = refl; cycles = refl })
as_run (suc n) s m z = by_turn n s m (cycle_of s.at m) z refl (λ r k h. as_run n r k h)

-- what is told of the run and counted on is the course
pub as_told : (n : ℕ) (s : Session) (m : List ℕ) → length m ≡ size
    → (went_to (session_at (told (run_of n s.at m)).after (counted_on (told (run_of n s.at m)).cycles s.cycles)) (told (run_of n s.at m)).cycles (told (run_of n s.at m)).refusal
    ≡ told_of (course_of n s m)) × ((run_of n s.at m).mem ≡ (course_of n s m).mem)
as_told n s m z =
    let a = as_run n s m z in
    (rw (← a.cycles, ← a.refusal, ← a.rec, ← a.count), sym a.mem)
