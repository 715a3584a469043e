-- Demand 1 of a run: it is accepted, or refused by 1, 2, or 4 to 7.
use Prim.Native.Nat.{ℕ, zero, suc, ◌≤◌}
use Rattle.std.proofs.Common.{Some, Result, Ok, Err}
use mathlib.Core.Path.{◌≡◌, refl, sym, subst}
use mathlib.Core.Bool.{Bool, true, false}
use mathlib.Core.List.{List}
use mathlib.Core.Logic.{◌⊎◌, inl, inr}
use native.Mathlib.Omega.{arith}
use lib.Dec.{leb, eqb}
use lib.ListN.{length}
use Rattle.words.specs.Words.{pick}
use Rattle.cpu.specs.Record.{number_of, number_in}
use Rattle.cpu.specs.declared.types.Record.{Record}
use Rattle.cpu.specs.declared.types.Request.{Request}
use Rattle.cpu.specs.declared.types.Refusal.{Refusal}
use Rattle.cpu.specs.declared.types.Refusal.TheVariants.{Bank, Budget, Memory}
use Rattle.cycles.specs.declared.types.Micro.{Micro}
use Rattle.step.specs.Cycle.{micro_of, asked_by, answered_by, request_of, answer_of}
use Rattle.memory.specs.Turns.{cycle_of, over, answered, crossed, bus_byte, store_line, stopped_by}
use Rattle.sheet.proofs.Refusals.{request_numbers, answer_numbers}
use Rattle.run.specs.Runs.{End, ends, run_of, whole_run, size, most}
use Rattle.run.proofs.Laws.{run_done, run_stop, run_none}

-- ---- a cycle over memory: 4 to 7
abbrev Within : Refusal → Type 0
Within n = (4 ≤ number_of n) × (number_of n ≤ 7)

abbrev Numbered : Result (Request × Record) Refusal → Type 0
Numbered (Ok (l, s)) = Unit
Numbered (Err n) = Within n

wider : (n : Refusal) → (4 ≤ number_of n) × (number_of n ≤ 6) → Within n
wider n h = (h.0, omega (arith, h.1))

by_answer : (a : Result Record Refusal) (l : Request) → ((n : Refusal) → a ≡ Err n → Within n) → Numbered (answered l a)
by_answer (Ok s) l h = tt
by_answer (Err n) l h = h n refl

by_pick : (b : Bool) (t u : Result (Request × Record) Refusal) → Numbered t → Numbered u → Numbered (pick b t u)
by_pick true t u f g = f
by_pick false t u f g = g

by_asked : (a : Result Request Refusal) (c : Micro) (r : Record) (m : List ℕ) → ((n : Refusal) → a ≡ Err n → Within n)
    → ((n : Refusal) (b : ℕ) → answered_by c r b ≡ Err n → Within n) → Numbered (over a c r m)
by_asked (Err n) c r m h g = h n refl
by_asked (Ok q) c r m h g =
    by_pick (leb (length m) q.addr) (Err Bank) (answered (crossed q (bus_byte q m)) (answered_by c r (bus_byte q m))) (omega arith, omega arith)
    (by_answer (answered_by c r (bus_byte q m)) (crossed q (bus_byte q m)) (λ n e. g n (bus_byte q m) e))

pub cycle_numbers : (r : Record) (m : List ℕ) → Numbered (cycle_of r m)
unfolding cycle_of request_of answer_of
cycle_numbers r m =
    by_asked (asked_by (micro_of r) r) (micro_of r) r m (λ n e. wider n (request_numbers r n e)) (λ n b e. wider n (answer_numbers r b n e))

-- ---- a run
abbrev Ended : ℕ → Type 0
Ended n = (n ≡ 0) ⊎ ((4 ≤ n) × (n ≤ 7))

run_turn : (n : ℕ) (r : Record) (m : List ℕ) (t : Result (Request × Record) Refusal) → ((s : Record) (m' : List ℕ) → Ended (number_in (run_of n s m').refusal)) → cycle_of r m ≡ t → Ended (number_in (run_of (suc n) r m).refusal)
run_turn n r m (Ok (l, s)) go e = subst (λ (x : End). Ended (number_in x.refusal)) (sym (run_done n r s m l e)) (go s (store_line l m))
run_turn n r m (Err k) go e = subst (λ (x : End). Ended (number_in x.refusal)) (sym (run_stop n r m k e)) (inr (subst Numbered e (cycle_numbers r m)))

pub run_numbers : (n : ℕ) (r : Record) (m : List ℕ) → Ended (number_in (run_of n r m).refusal)
run_numbers zero r m = subst (λ (x : End). Ended (number_in x.refusal)) (sym (run_none r m)) (inl refl)
run_numbers (suc n) r m = run_turn n r m (cycle_of r m) (λ s m'. run_numbers n s m') refl

-- the number of a run of one cycle is that of its cycle
by_turn : (r : Record) (m : List ℕ) (t : Result (Request × Record) Refusal) → cycle_of r m ≡ t → number_in (run_of 1 r m).refusal ≡ stopped_by t
by_turn r m (Ok (l, s)) e = rw (run_done 0 r s m l e, run_none s (store_line l m))
by_turn r m (Err k) e = rw (run_stop 0 r m k e)

pub first_number : (r : Record) (m : List ℕ) → number_in (run_of 1 r m).refusal ≡ stopped_by (cycle_of r m)
first_number r m = by_turn r m (cycle_of r m) refl

-- 0 for none, 1 and 2 of the whole run, 4 to 7 of a cycle
abbrev Listed : ℕ → Type 0
Listed n = (n ≤ 2) ⊎ ((4 ≤ n) × (n ≤ 7))

of_run : (n : ℕ) → Ended n → Listed n
of_run n (inl e) = inl (omega (arith, e))
of_run n (inr h) = inr h

by_tests : (a b : Bool) (e : End) (r : Record) (m : List ℕ) → Listed (number_in e.refusal) → Listed (number_in (pick a (pick b e (ends (Some Budget) r m)) (ends (Some Memory) r m)).refusal)
by_tests true true e r m h = h
by_tests true false e r m h = inl (omega arith)
by_tests false b e r m h = inl (omega arith)

pub demand_1_run : (b : ℕ) (r : Record) (m : List ℕ) → Listed (number_in (whole_run b r m).refusal)
unfolding whole_run
demand_1_run b r m = by_tests (eqb (length m) size) (leb b most) (run_of b r m) r m (of_run (number_in (run_of b r m).refusal) (run_numbers b r m))
