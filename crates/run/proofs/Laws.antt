-- How a loop that counts its cycles up meets the definition of a run, which counts its budget down.
use Prim.Native.Nat.{ℕ, zero, suc, ◌+◌, ◌-◌, ◌≤◌, ◌<◌}
use Rattle.std.proofs.Common.{Option, Some, None, Result, Ok, Err}
use mathlib.Core.Path.{◌≡◌, refl, sym, ◌∙◌, subst, ap}
use mathlib.Core.Bool.{Bool, true, false}
use mathlib.Core.List.{List}
use native.Mathlib.Omega.{arith}
use native.Mathlib.Nat.{suc-ne-zero}
use borrow.Author.Tests.{eq-eqb, ne_eqb, le-leb, lt-leb}
use lib.Dec.{leb}
use lib.ListN.{length}
use Rattle.words.specs.Words.{pick}
use Rattle.cpu.specs.Record.{well_formed}
use Rattle.cpu.specs.declared.types.Record.{Record}
use Rattle.cpu.specs.declared.types.Request.{Request}
use Rattle.cpu.specs.declared.types.Refusal.{Refusal}
use Rattle.cpu.specs.declared.types.Refusal.TheVariants.{Malformed, Bank, Memory, Budget}
use Rattle.cycles.specs.declared.types.Micro.{Micro}
use Rattle.step.specs.Cycle.{micro_of, well_micro, asked_by, answered_by, answer_of}
use Rattle.memory.specs.Turns.{cycle_of, turn_by, over, answered, crossed, bus_byte, store_line, store_of}
use Rattle.sheet.proofs.Kept.{kept}
use Rattle.run.specs.Runs.{End, ends, more, run_of, whole_run, told, outcome, malformed, size, most}

-- ---- a cycle of a well-formed record

pub well_turn : (r : Record) (m : List ℕ) → well_formed r ≡ true → turn_by (well_micro r) r m ≡ cycle_of r m
unfolding cycle_of micro_of
well_turn r m w = rw w

pub turned : (r : Record) (m : List ℕ) (c : Micro) (t : Result (Request × Record) Refusal) → well_formed r ≡ true → c ≡ well_micro r → t ≡ turn_by c r m → t ≡ cycle_of r m
turned r m c t w e f = f ∙ ap (λ (x : Micro). turn_by x r m) e ∙ well_turn r m w

-- what a completed cycle leaves is well formed
abbrev Fit : Result (Request × Record) Refusal → Type 0
Fit (Ok (l, s)) = well_formed s ≡ true
Fit (Err n) = Unit

fit_answer : (a : Result Record Refusal) (l : Request) → ((s : Record) → a ≡ Ok s → well_formed s ≡ true) → Fit (answered l a)
fit_answer (Ok s) l h = h s refl
fit_answer (Err n) l h = tt

fit_pick : (b : Bool) (t u : Result (Request × Record) Refusal) → Fit t → Fit u → Fit (pick b t u)
fit_pick true t u f g = f
fit_pick false t u f g = g

fit_over : (a : Result Request Refusal) (c : Micro) (r : Record) (m : List ℕ) → ((s : Record) (b : ℕ) → answered_by c r b ≡ Ok s → well_formed s ≡ true) → Fit (over a c r m)
fit_over (Err n) c r m h = tt
fit_over (Ok q) c r m h =
    fit_pick (leb (length m) q.addr) (Err Bank) (answered (crossed q (bus_byte q m)) (answered_by c r (bus_byte q m))) tt
    (fit_answer (answered_by c r (bus_byte q m)) (crossed q (bus_byte q m)) (λ s e. h s (bus_byte q m) e))

fit_cycle : (r : Record) (m : List ℕ) → Fit (cycle_of r m)
unfolding cycle_of answer_of
fit_cycle r m = fit_over (asked_by (micro_of r) r) (micro_of r) r m (λ s b e. kept r s b e)

pub still_well : (r s : Record) (m : List ℕ) (l : Request) (t : Result (Request × Record) Refusal) → t ≡ cycle_of r m → t ≡ Ok (l, s) → well_formed s ≡ true
still_well r s m l t e g = subst Fit (sym e ∙ g) (fit_cycle r m)

-- ---- a run by its first cycle

pub run_done : (n : ℕ) (r s : Record) (m : List ℕ) (l : Request) → cycle_of r m ≡ Ok (l, s) → run_of (suc n) r m ≡ more l (run_of n s (store_line l m))
unfolding run_of
run_done n r s m l e = rw (e, run_of)

pub run_stop : (n : ℕ) (r : Record) (m : List ℕ) (k : Refusal) → cycle_of r m ≡ Err k → run_of (suc n) r m ≡ ends (Some k) r m
unfolding run_of
run_stop n r m k e = rw (e, run_of)

pub run_none : (r : Record) (m : List ℕ) → run_of 0 r m ≡ ends None r m
unfolding run_of
run_none r m = refl

-- ---- the loop: `rest` is what is left of `whole` after d cycles

pub record Left (d : ℕ) (whole rest : End) : Type 0 where
  pub refusal : whole.refusal ≡ rest.refusal
  pub rec : whole.rec ≡ rest.rec
  pub mem : whole.mem ≡ rest.mem
  pub count : length whole.lines ≡ d + length rest.lines

pub left_all : (e : End) → Left 0 e e
left_all e = record { refusal = refl; rec = refl; mem = refl; count = omega arith }

left_more : (d : ℕ) (w e : End) (l : Request) → Left d w (more l e) → Left (d + 1) w e
left_more d w e l h = record { refusal = h.refusal; rec = h.rec; mem = h.mem; count = omega (arith, h.count) }

-- ---- the next cycle, after d of b: t is what the turn answered, m' the memory that it left

one_less : (b d : ℕ) → d < b → b - d ≡ suc (b - (d + 1))
one_less b d h = omega arith

none_left : (b d : ℕ) → b ≤ d → b - d ≡ 0
none_left b d h = omega arith

pub next_done : (b d : ℕ) (r s : Record) (m m' : List ℕ) (l : Request) (t : Result (Request × Record) Refusal) → d < b → t ≡ cycle_of r m → m' ≡ store_of t m → t ≡ Ok (l, s) → run_of (b - d) r m ≡ more l (run_of (b - (d + 1)) s m')
next_done b d r s m m' l t h e f g = rw (one_less b d h, f, g) (run_done _ r s m l (sym e ∙ g))

-- a refusal changed no memory
pub next_stop : (b d : ℕ) (r : Record) (m m' : List ℕ) (k : Refusal) (t : Result (Request × Record) Refusal) → d < b → t ≡ cycle_of r m → m' ≡ store_of t m → t ≡ Err k → run_of (b - d) r m ≡ ends (Some k) r m'
next_stop b d r m m' k t h e f g = rw (one_less b d h, f, g) (run_stop _ r m k (sym e ∙ g))

pub next_none : (b d : ℕ) (r : Record) (m : List ℕ) → b ≤ d → run_of (b - d) r m ≡ ends None r m
next_none b d r m h = rw (none_left b d h, run_none r m)

pub left_done : (b d : ℕ) (w : End) (r s : Record) (m m' : List ℕ) (l : Request) (t : Result (Request × Record) Refusal) → d < b → t ≡ cycle_of r m → m' ≡ store_of t m → t ≡ Ok (l, s) → Left d w (run_of (b - d) r m) → Left (d + 1) w (run_of (b - (d + 1)) s m')
left_done b d w r s m m' l t h e f g a = left_more d w _ l (rw (next_done b d r s m m' l t h e f g) at a)

pub left_stop : (b d : ℕ) (w : End) (r : Record) (m m' : List ℕ) (k : Refusal) (t : Result (Request × Record) Refusal) → d < b → t ≡ cycle_of r m → m' ≡ store_of t m → t ≡ Err k → Left d w (run_of (b - d) r m) → Left d w (ends (Some k) r m')
left_stop b d w r m m' k t h e f g a = rw (next_stop b d r m m' k t h e f g) at a

-- with the budget used up
pub left_end : (b d : ℕ) (w : End) (r : Record) (m : List ℕ) → b ≤ d → Left d w (run_of (b - d) r m) → Left d w (ends None r m)
left_end b d w r m h a = rw (next_none b d r m h) at a

-- what is answered then
pub left_told : (d : ℕ) (k : Option Refusal) (w : End) (r : Record) (m : List ℕ) → Left d w (ends k r m) → outcome k d r ≡ told w
left_told d k w r m a =
    let c : length w.lines ≡ d = omega (arith, a.count) in
    rw (a.refusal, a.rec, c)

-- ---- the refusals that come first

pub refused_1 : (b : ℕ) (r : Record) (m : List ℕ) → (length m ≡ size → ⊥) → whole_run b r m ≡ ends (Some Memory) r m
unfolding whole_run
refused_1 b r m h = simp (ne_eqb _ _ h)

pub refused_2 : (b : ℕ) (r : Record) (m : List ℕ) → length m ≡ size → most < b → whole_run b r m ≡ ends (Some Budget) r m
unfolding whole_run
refused_2 b r m h k = simp (eq-eqb _ _ h, lt-leb _ _ k)

pub accepted : (b : ℕ) (r : Record) (m : List ℕ) → length m ≡ size → b ≤ most → whole_run b r m ≡ run_of b r m
unfolding whole_run
accepted b r m h k = simp (eq-eqb _ _ h, le-leb _ _ k)

-- a record that isn't well formed
stopped_4 : (r : Record) (m : List ℕ) → well_formed r ≡ false → cycle_of r m ≡ Err Malformed
unfolding cycle_of micro_of
stopped_4 r m w = rw w

pub refused_4 : (b : ℕ) (r : Record) (m : List ℕ) → well_formed r ≡ false → (malformed b r ≡ told (run_of b r m)) × (m ≡ (run_of b r m).mem)
refused_4 zero r m w = (rw (run_none r m), rw (run_none r m))
refused_4 (suc n) r m w = let e = run_stop n r m Malformed (stopped_4 r m w) in (rw (e, ne_eqb (suc n) 0 (suc-ne-zero n)), rw e)
