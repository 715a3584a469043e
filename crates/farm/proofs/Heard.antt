-- What is heard is what the bus answers to the requests, one after the other.
use Prim.Native.Nat.{ℕ, zero, suc}
use Rattle.cpu.specs.declared.types.Refusal.{Refusal}
use Rattle.std.proofs.Common.{Result, Ok, Err}
use mathlib.Core.Path.{◌≡◌, refl}
use mathlib.Core.Bool.{Bool, true, false}
use mathlib.Core.List.{List, [], ◌∷◌}
use Rattle.words.specs.Words.{pick}
use Rattle.cpu.specs.declared.types.Record.{Record}
use Rattle.cpu.specs.declared.types.Request.{Request}
use Rattle.step.specs.Cycle.{request_of, answer_of}
use Rattle.sheet.specs.Run.{Ran, only, also, after, later, at_boundary, run}
use Rattle.farm.specs.Pairs.{Bus, reply, left, heard}

-- the bytes of b are the bus's answers to the requests from time t on
abbrev pub Told : Bus → (t : ℕ) → (ℕ → ℕ) → List Request → Type 0
Told bus t b [] = Unit
Told bus t b (q ∷ qs) = (b 0 ≡ bus t q) × Told bus (suc t) (later b) qs

module _ (bus : Bus) (t : ℕ) where
  -- by what is asked, what the answer is, and whether the instruction ends there
  told_pick : (b : ℕ → ℕ) (q : Request) (s : Record) (f : Record → Ran) (e : Bool) → b 0 ≡ bus t q
      → Told bus (suc t) (later b) (f s).requests → Told bus t b (pick e (only q (Ok s)) (also q (f s))).requests
  told_pick b q s f true h k = (h, tt)
  told_pick b q s f false h k = (h, k)

  told_after : (b : ℕ → ℕ) (r : Record) (q : Result Request Refusal) (a : Result Record Refusal) (f : Record → Ran) → b 0 ≡ reply bus t q
      → Told bus (suc t) (later b) (f (left r a)).requests → Told bus t b (after q a f).requests
  told_after b r (Err n) a f h k = tt
  told_after b r (Ok q) (Err n) f h k = (h, tt)
  told_after b r (Ok q) (Ok s) f h k = told_pick b q s f (at_boundary s) h k

pub heard_told : (n : ℕ) (bus : Bus) (t : ℕ) (r : Record) → Told bus t (heard bus t r) (run n (heard bus t r) r).requests
unfolding run heard
heard_told zero bus t r = tt
heard_told (suc n) bus t r =
    told_after bus t (heard bus t r) r (request_of r) (answer_of r (heard bus t r 0)) (run n (later (heard bus t r))) refl
    (heard_told n bus (suc t) (left r (answer_of r (heard bus t r 0))))
