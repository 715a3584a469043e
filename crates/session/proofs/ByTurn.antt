-- A cycle of a session by what it does is the run of one cycle that the definition speaks of.
use Prim.Native.Nat.{ℕ}
use Rattle.std.proofs.Common.{Some, None, Result, Ok, Err}
use mathlib.Core.Path.{◌≡◌, refl, sym, ap, ◌∙◌}
use mathlib.Core.Bool.{Bool, true, false}
use mathlib.Core.List.{List}
use native.Mathlib.Omega.{arith}
use lib.Dec.{eqb}
use lib.ListN.{length}
use borrow.Author.Tests.{eqb-true, eqb-false, eq-eqb, ne_eqb}
use Rattle.words.specs.Words.{pick}
use Rattle.cpu.specs.declared.types.Record.{Record}
use Rattle.cpu.specs.declared.types.Request.{Request}
use Rattle.cpu.specs.declared.types.Refusal.{Refusal}
use Rattle.cpu.specs.declared.types.Refusal.TheVariants.{Memory}
use Rattle.cycles.specs.declared.types.Micro.{Micro}
use Rattle.step.specs.Cycle.{micro_of}
use Rattle.memory.specs.Turns.{turn_by, cycle_of, store_line, store_of}
use Rattle.run.specs.Runs.{End, ends, more, whole_run, size}
use Rattle.run.proofs.Laws.{run_done, run_stop, run_none, accepted, refused_1}
use Rattle.session.specs.declared.types.Session.{Session}
use Rattle.session.specs.declared.types.Stepped.{Stepped}
use Rattle.session.specs.Sessions.{session_at, stepped, after_run, counted_if, counted, turned_to, cycled_by, memory_by, cycled_over, memory_over}

-- both answers at once
abbrev pub Same : (t : Stepped) (k : List ℕ) → Session → List ℕ → Type 0
Same t k s m = (t ≡ cycled_over s m) × (k ≡ memory_over s m)

by_end : (s : Session) (m : List ℕ) (e : End) → whole_run 1 s.at m ≡ e
    → (cycled_over s m ≡ after_run s.cycles e.refusal e.rec) × (memory_over s m ≡ e.mem)
unfolding cycled_over memory_over
by_end s m e h = (ap (λ (v : End). after_run s.cycles v.refusal v.rec) h, ap (λ (v : End). v.mem) h)

-- a refused cycle isn't counted
pub uncounted : (n : Refusal) (c : ℕ) → counted_if (Some n) c ≡ c
uncounted n c = refl

-- by what the turn came to
by_turn : (s : Session) (m : List ℕ) (t : Result (Request × Record) Refusal) → length m ≡ size → cycle_of s.at m ≡ t → Same (turned_to s t) (store_of t m) s m
by_turn s m (Ok (l, r)) w e =
    let h = by_end s m (more l (ends None r (store_line l m)))
    (accepted 1 s.at m w (omega arith) ∙ run_done 0 s.at r m l e ∙ ap (more l) (run_none r (store_line l m))) in
    (sym h.0, sym h.1)
by_turn s m (Err n) w e =
    let h = by_end s m (ends (Some n) s.at m) (accepted 1 s.at m w (omega arith) ∙ run_stop 0 s.at m n e) in
    (sym h.0, sym h.1)

by_size : (s : Session) (m : List ℕ) (b : Bool) → eqb (length m) size ≡ b
    → Same (pick b (turned_to s (cycle_of s.at m)) (stepped s (Some Memory))) (pick b (store_of (cycle_of s.at m) m) m) s m
by_size s m true e = by_turn s m (cycle_of s.at m) (eqb-true _ _ e) refl
by_size s m false e =
    let h = by_end s m (ends (Some Memory) s.at m) (refused_1 1 s.at m (eqb-false _ _ e)) in
    (sym h.0, sym h.1)

-- the cycle that the record's own micro-operation does
pub own_cycle : (s : Session) (m : List ℕ) → Same (cycled_by (micro_of s.at) s m) (memory_by (micro_of s.at) s m) s m
unfolding cycled_by memory_by cycle_of
own_cycle s m = by_size s m (eqb (length m) size) refl

pub own_by : (c : Micro) (s : Session) (m k : List ℕ) (t : Stepped) → c ≡ micro_of s.at → t ≡ cycled_by c s m → k ≡ memory_by c s m → Same t k s m
own_by c s m k t d f g =
    let h = own_cycle s m in
    (f ∙ ap (λ (v : Micro). cycled_by v s m) d ∙ h.0, g ∙ ap (λ (v : Micro). memory_by v s m) d ∙ h.1)

-- ---- what the code answers, by the memory's size and the turn
abbrev pub Answers : (c : Micro) (s : Session) (m : List ℕ) (u : Stepped) (k : List ℕ) → Type 0
Answers c s m u k = (u ≡ cycled_by c s m) × (k ≡ memory_by c s m)

pub no_size : (c : Micro) (s : Session) (m : List ℕ) (u : Stepped) → (length m ≡ size → ⊥) → u ≡ stepped s (Some Memory) → Answers c s m u m
unfolding cycled_by memory_by
no_size c s m u h e = (rw (ne_eqb _ _ h) e, rw (ne_eqb _ _ h))

turned : (c : Micro) (s : Session) (m k : List ℕ) (t : Result (Request × Record) Refusal) (u : Stepped) → length m ≡ size → t ≡ turn_by c s.at m → k ≡ store_of t m
    → u ≡ turned_to s t → Answers c s m u k
unfolding cycled_by memory_by
turned c s m k t u w e f g = (
  rw (eq-eqb _ _ w) (g ∙ ap (turned_to s) e),
  rw (eq-eqb _ _ w) (f ∙ ap (λ (z : Result (Request × Record) Refusal). store_of z m) e),
)

pub stops : (c : Micro) (s : Session) (m k : List ℕ) (t : Result (Request × Record) Refusal) (u : Stepped) (n : Refusal) → length m ≡ size → t ≡ turn_by c s.at m → k ≡ store_of t m
    → t ≡ Err n → u ≡ stepped s (Some n) → Answers c s m u k
stops c s m k t u n w e f h g = turned c s m k t u w e f (g ∙ sym (ap (turned_to s) h))

pub goes_on : (c : Micro) (s : Session) (m k : List ℕ) (t : Result (Request × Record) Refusal) (l : Request) (r : Record) (u : Stepped) → length m ≡ size → t ≡ turn_by c s.at m
    → k ≡ store_of t m → t ≡ Ok (l, r) → u ≡ stepped (session_at r (counted s.cycles)) None → Answers c s m u k
goes_on c s m k t l r u w e f h g = turned c s m k t u w e f (g ∙ sym (ap (turned_to s) h))
