-- Several cycles of a session by the first, and by what its bytes are found to be; and one of them is a cycle.
use Prim.Native.Nat.{ℕ, suc}
use Rattle.std.proofs.Common.{Option, Some, None}
use mathlib.Core.Path.{◌≡◌, refl, sym, ◌∙◌}
use mathlib.Core.Bool.{Bool, true, false}
use mathlib.Core.List.{List}
use borrow.Author.Tests.{eq-eqb}
use lib.Dec.{eqb}
use lib.ListN.{length}
use Rattle.words.specs.Words.{pick}
use Rattle.cpu.specs.Record.{number_in}
use Rattle.cpu.specs.declared.types.Refusal.{Refusal}
use Rattle.cpu.specs.declared.types.Refusal.TheVariants.{Memory}
use Rattle.run.specs.Runs.{size}
use Rattle.session.specs.Sessions.{stepped, cycled_by, memory_by, cycled_over, memory_over}
use Rattle.session.proofs.ByTurn.{own_cycle}
use Rattle.session.specs.declared.types.Session.{Session}
use Rattle.session_port.specs.Port.{pack_session, opened, Cycled, cycle_by, session_cycle, no_session, halts, onward, goes_on, course_of, course_over, Several, several_to, cycles_by, session_cycles}

-- ---- by the first cycle

pub course_none : (s : Session) (m : List ℕ) → course_of 0 s m ≡ halts None s m
unfolding course_of
course_none s m = refl

pub course_done : (n : ℕ) (s : Session) (m : List ℕ) → (cycled_over s m).refusal ≡ None
    → course_of (suc n) s m ≡ onward (course_of n (cycled_over s m).session (memory_over s m))
unfolding course_of
course_done n s m h = rw (h, course_of)

stays : (x : Option Refusal) → (x ≡ None → ⊥) → goes_on x ≡ false
stays None h = absurd (h refl)
stays (Some n) h = refl

pub course_stop : (n : ℕ) (s : Session) (m : List ℕ) → ((cycled_over s m).refusal ≡ None → ⊥)
    → course_of (suc n) s m ≡ halts (cycled_over s m).refusal (cycled_over s m).session (memory_over s m)
unfolding course_of
course_stop n s m h = rw (stays (cycled_over s m).refusal h, course_of)

-- ---- by what the bytes are found to be

module _ (b m : List ℕ) (n : ℕ) (o : Option Session) (e : o ≡ opened b) where
  pub cycles_bad : o ≡ None → session_cycles b m n ≡ record { refusal = Some (no_session m); done = 0; bytes = b; mem = m }
  unfolding session_cycles
  cycles_bad h = rw (← e, h)

  pub cycles_good : (s : Session) → o ≡ Some s → session_cycles b m n ≡ several_to (course_over n s m)
  unfolding session_cycles
  cycles_good s h = rw (← e, h)

-- ---- the memory's size

pub other_size : (s : Session) (m : List ℕ) → eqb (length m) size ≡ false → (cycled_over s m ≡ stepped s (Some Memory)) × (memory_over s m ≡ m)
unfolding cycled_by memory_by
other_size s m w = let h = own_cycle s m in (sym h.0 ∙ rw w, sym h.1 ∙ rw w)

pub over_whole : (n : ℕ) (s : Session) (m : List ℕ) → length m ≡ size → course_over n s m ≡ course_of n s m
unfolding course_over
over_whole n s m h = rw (eq-eqb _ _ h)

-- ---- one of them

abbrev cycle_in : Several → Cycled
cycle_in e = record { number = number_in e.refusal; bytes = e.bytes; mem = e.mem }

once_picked : (k : Option Refusal) (s : Session) (m : List ℕ)
    → cycle_in (several_to (pick (goes_on k) (onward (halts None s m)) (halts k s m))) ≡ record { number = number_in k; bytes = pack_session s; mem = m }
once_picked None s m = refl
once_picked (Some n) s m = refl

-- by the memory's size; another is refused with 1 by a cycle too
once_over : (t : Bool) (s : Session) (m : List ℕ) → eqb (length m) size ≡ t
    → cycle_in (several_to (pick t (course_of 1 s m) (halts (Some Memory) s m))) ≡ record { number = number_in (cycled_over s m).refusal; bytes = pack_session (cycled_over s m).session; mem = memory_over s m }
unfolding course_of
once_over true s m e = once_picked (cycled_over s m).refusal (cycled_over s m).session (memory_over s m)
once_over false s m e = let h = other_size s m e in rw (h.0, h.1)

once : (s : Session) (m : List ℕ)
    → cycle_in (several_to (course_over 1 s m)) ≡ record { number = number_in (cycled_over s m).refusal; bytes = pack_session (cycled_over s m).session; mem = memory_over s m }
unfolding course_over
once s m = once_over (eqb (length m) size) s m refl

once_by : (o : Option Session) (b m : List ℕ) → cycle_in (cycles_by o b m 1) ≡ cycle_by o b m
once_by (Some s) b m = once s m
once_by None b m = refl

pub one_cycle_lem : (b m : List ℕ) → cycle_in (session_cycles b m 1) ≡ session_cycle b m
unfolding session_cycles session_cycle
one_cycle_lem b m = once_by (opened b) b m
