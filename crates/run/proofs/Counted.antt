-- What a run keeps and counts: the memory's size, no more lines than its budget, and as many where nothing is refused.
use Prim.Native.Nat.{ℕ, zero, suc, ◌≤◌}
use Rattle.cpu.specs.declared.types.Request.{Request}
use Rattle.std.proofs.Common.{Option, Some, None, Result, Ok, Err}
use mathlib.Core.Path.{◌≡◌, refl, ap, ◌∙◌}
use mathlib.Core.Bool.{Bool, true, false}
use mathlib.Core.List.{List}
use native.Mathlib.Omega.{arith}
use lib.ListN.{length, set, length-set}
use Rattle.words.specs.Words.{pick}
use Rattle.cpu.specs.Record.{number_of, number_in}
use Rattle.cpu.specs.declared.types.Record.{Record}
use Rattle.cpu.specs.declared.types.Refusal.{Refusal}
use Rattle.cpu.specs.declared.types.Refusal.TheVariants.{Memory, Budget, Room, Malformed, Unlisted, NoCycle, Bank}
use Rattle.memory.specs.Turns.{cycle_of, store_line}
use Rattle.run.specs.Runs.{run_of}
use Rattle.run.proofs.Laws.{run_done, run_stop, run_none}

-- a refusal has a number
pub refusal_numbered : (k : Refusal) → number_of k ≡ 0 → ⊥
refusal_numbered Memory e = omega (arith, e)
refusal_numbered Budget e = omega (arith, e)
refusal_numbered Room e = omega (arith, e)
refusal_numbered Malformed e = omega (arith, e)
refusal_numbered Unlisted e = omega (arith, e)
refusal_numbered NoCycle e = omega (arith, e)
refusal_numbered Bank e = omega (arith, e)

-- so 0 is the number of none alone
pub none_numbered : (x : Option Refusal) → number_in x ≡ 0 → x ≡ None
none_numbered None e = refl
none_numbered (Some k) e = absurd (refusal_numbered k e)

-- a refusal isn't none
pub refusal_some : (k : Refusal) → ◌≡◌ {A = Option Refusal} (Some k) None → ⊥
refusal_some k e = cc

stored_size : (w : Bool) (m : List ℕ) (i b : ℕ) → length (pick w (set m i b) m) ≡ length m
stored_size true m i b = length-set m i b
stored_size false m i b = refl

size_turn : (n : ℕ) (r : Record) (m : List ℕ) (t : Result (Request × Record) Refusal) → ((s : Record) (m' : List ℕ) → length (run_of n s m').mem ≡ length m') → cycle_of r m ≡ t → length (run_of (suc n) r m).mem ≡ length m
size_turn n r m (Ok (l, s)) go e = rw (run_done n r s m l e) (go s (store_line l m) ∙ stored_size l.write m l.addr l.byte)
size_turn n r m (Err k) go e = rw (run_stop n r m k e)

pub run_size : (n : ℕ) (r : Record) (m : List ℕ) → length (run_of n r m).mem ≡ length m
run_size zero r m = rw (run_none r m)
run_size (suc n) r m = size_turn n r m (cycle_of r m) (λ s m'. run_size n s m') refl

-- no more lines than cycles asked for
count_turn : (n : ℕ) (r : Record) (m : List ℕ) (t : Result (Request × Record) Refusal) → ((s : Record) (m' : List ℕ) → length (run_of n s m').lines ≤ n) → cycle_of r m ≡ t → length (run_of (suc n) r m).lines ≤ suc n
count_turn n r m (Ok (l, s)) go e = rw (run_done n r s m l e) (omega (arith, go s (store_line l m)))
count_turn n r m (Err k) go e = rw (run_stop n r m k e) (omega arith)

pub run_count : (n : ℕ) (r : Record) (m : List ℕ) → length (run_of n r m).lines ≤ n
run_count zero r m = rw (run_none r m) (omega arith)
run_count (suc n) r m = count_turn n r m (cycle_of r m) (λ s m'. run_count n s m') refl

-- all of them where none was refused
all_turn : (n : ℕ) (r : Record) (m : List ℕ) (t : Result (Request × Record) Refusal) → ((s : Record) (m' : List ℕ) → (run_of n s m').refusal ≡ None → length (run_of n s m').lines ≡ n) → cycle_of r m ≡ t → (run_of (suc n) r m).refusal ≡ None → length (run_of (suc n) r m).lines ≡ suc n
all_turn n r m (Ok (l, s)) go e h =
    let a = run_done n r s m l e in
    rw a (ap suc (go s (store_line l m) (rw a at h)))
all_turn n r m (Err k) go e h = absurd (refusal_some k (rw (run_stop n r m k e) at h))

pub run_all : (n : ℕ) (r : Record) (m : List ℕ) → (run_of n r m).refusal ≡ None → length (run_of n r m).lines ≡ n
run_all zero r m h = rw (run_none r m)
run_all (suc n) r m h = all_turn n r m (cycle_of r m) (λ s m' k. run_all n s m' k) refl h
