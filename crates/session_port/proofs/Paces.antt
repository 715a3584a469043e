-- A record that isn't well formed does no cycle, and none is done over a memory of another size.
use Prim.Native.Nat.{ℕ, zero, suc}
use Rattle.std.proofs.Common.{Some, None}
use mathlib.Core.Path.{◌≡◌, refl, sym, ap, ◌∙◌}
use mathlib.Core.Bool.{Bool, true, false, ◌&&◌}
use mathlib.Core.List.{List}
use native.Mathlib.Nat.{suc-ne-zero}
use lib.Dec.{eqb}
use lib.ListN.{length}
use borrow.Author.Tests.{eq-eqb, ne_eqb, eqb-true}
use Rattle.words.specs.Words.{pick}
use Rattle.cpu.specs.Record.{well_formed}
use Rattle.cpu.specs.declared.types.Record.{Record}
use Rattle.cpu.specs.declared.types.Refusal.TheVariants.{Memory, Malformed}
use Rattle.cycles.specs.declared.types.Micro.{Micro}
use Rattle.cycles.specs.declared.types.Micro.TheVariants.{Refuse}
use Rattle.step.specs.Cycle.{micro_of}
use Rattle.sheet.proofs.Walk.{and_left, and_right}
use Rattle.run.specs.Runs.{size}
use Rattle.run.proofs.Counted.{refusal_some}
use Rattle.session.specs.Sessions.{stepped, cycled_by, memory_by, cycled_over, memory_over}
use Rattle.session.specs.declared.types.Session.{Session}
use Rattle.session.specs.declared.types.Stepped.{Stepped}
use Rattle.session.proofs.ByTurn.{own_cycle}
use Rattle.session_port.specs.Port.{halts, course_of, course_over, went_to, told_of, unfit_of}
use Rattle.session_port.proofs.Courses.{course_none, course_stop}

no_micro : (r : Record) → well_formed r ≡ false → micro_of r ≡ Refuse Malformed
unfolding micro_of
no_micro r w = rw w

bad_cycle : (s : Session) (m : List ℕ) → length m ≡ size → well_formed s.at ≡ false → (cycled_over s m ≡ stepped s (Some Malformed)) × (memory_over s m ≡ m)
unfolding cycled_by memory_by
bad_cycle s m z w =
    let h = own_cycle s m in
    let e = no_micro s.at w in
    let q = eq-eqb (length m) size z in (
      sym h.0 ∙ ap (λ (c : Micro). cycled_by c s m) e ∙ rw q,
      sym h.1 ∙ ap (λ (c : Micro). memory_by c s m) e ∙ rw q,
    )

unfit_whole : (n : ℕ) (s : Session) (m : List ℕ) → length m ≡ size → well_formed s.at ≡ false
    → (went_to s 0 (pick (eqb n 0) None (Some Malformed)) ≡ told_of (course_of n s m)) × (m ≡ (course_of n s m).mem)
unfit_whole zero s m z w = (rw (course_none s m), rw (course_none s m))
unfit_whole (suc n) s m z w =
    let h = bad_cycle s m z w in
    let k : (cycled_over s m).refusal ≡ None → ⊥ = λ e. refusal_some Malformed (sym (ap (λ (t : Stepped). t.refusal) h.0) ∙ e) in
    let e = course_stop n s m k in
    (rw (e, h.0, ne_eqb (suc n) 0 (suc-ne-zero n)), rw e (sym h.1))

-- by the two tests, the size's and the form's
unfit_by : (n : ℕ) (s : Session) (m : List ℕ) (a b : Bool) → eqb (length m) size ≡ a → well_formed s.at ≡ b → (a && b) ≡ false
    → (went_to s 0 (pick a (pick (eqb n 0) None (Some Malformed)) (Some Memory)) ≡ told_of (pick a (course_of n s m) (halts (Some Memory) s m))) × (m ≡ (pick a (course_of n s m) (halts (Some Memory) s m)).mem)
unfit_by n s m true b e f g = unfit_whole n s m (eqb-true _ _ e) (f ∙ g)
unfit_by n s m false b e f g = (refl, refl)

pub unfit_course : (n : ℕ) (s : Session) (m : List ℕ) → (eqb (length m) size && well_formed s.at) ≡ false
    → (unfit_of n (length m) s ≡ told_of (course_over n s m)) × (m ≡ (course_over n s m).mem)
unfolding course_over
unfit_course n s m g = unfit_by n s m (eqb (length m) size) (well_formed s.at) refl refl g

-- both tests passed
pub fit : (s : Session) (m : List ℕ) → (eqb (length m) size && well_formed s.at) ≡ true → (length m ≡ size) × (well_formed s.at ≡ true)
fit s m h = (eqb-true (length m) size (and_left (eqb (length m) size) (well_formed s.at) h), and_right (eqb (length m) size) (well_formed s.at) h)
