-- How the loop of cycles, a stretch and then a cycle, meets the run and its lines.
use Prim.Native.Nat.{ℕ, ◌+◌, ◌*◌, ◌-◌, ◌≤◌, ◌<◌}
use Rattle.std.proofs.Common.{Result, Ok, Err, Option, Some, None}
use mathlib.Core.Path.{◌≡◌, refl, sym, ◌∙◌, ap, subst}
use mathlib.Core.Bool.{true}
use mathlib.Core.List.{List, ◌++◌}
use native.Mathlib.Omega.{arith}
use native.Mathlib.Nat.{add-zero, sub-zero}
use lib.ListN.{length}
use Rattle.cpu.specs.Record.{well_formed}
use Rattle.cpu.specs.declared.types.Record.{Record}
use Rattle.cpu.specs.declared.types.Request.{Request}
use Rattle.cpu.specs.declared.types.Refusal.{Refusal}
use Rattle.memory.specs.Turns.{cycle_of, store_of}
use Rattle.trace.specs.Text.{line_text, lines_text, Put, Wrote}
use Rattle.trace.proofs.Laws.{then, lines_append, wrote_length, Rest, rest_all, rest_none, rest_line}
use Rattle.run.specs.Runs.{ends, run_of, most}
use Rattle.run.specs.Passes.{Passes}
use Rattle.run.proofs.Laws.{Left, left_all, left_done, next_done, next_stop, next_none, still_well}
use Rattle.run.proofs.Stretches.{left_ahead}
use Rattle.drive.specs.Drives.{Walked, Driven}
use Rattle.drive.specs.declared.types.Walk.{Walk}
use Rattle.drive.proofs.Walks.{lines_both, walked_place}
use Rattle.drive.proofs.Whole.{walked_by}
use Rattle.trail.specs.Trails.{told_as, Listed}

-- after d of b cycles from r₀ over m₀, whose lines go to place p₀ of t₀, numbered on from `before`

pub record Going (b before : ℕ) (m₀ t₀ : List ℕ) (p₀ : ℕ) (r₀ : Record) (m t : List ℕ) (p : ℕ) (r : Record) (d : ℕ) : Type 0 where
  pub within : d ≤ b
  pub size : length t ≡ length t₀
  pub room : p + 22 * (b - d) ≤ length t
  pub well : well_formed r ≡ true
  pub left : Left d (run_of b r₀ m₀) (run_of (b - d) r m)
  pub rest : Rest t₀ p₀ (before + 1) (run_of b r₀ m₀).lines t p (before + d + 1) (run_of (b - d) r m).lines

pub going_start : (b before : ℕ) (m t : List ℕ) (p : ℕ) (r : Record) → p + 22 * b ≤ length t → well_formed r ≡ true → Going b before m t p r m t p r 0
going_start b before m t p r h w =
    record {
      within = omega arith;
      size = refl;
      room = omega arith;
      well = w;
      left = rw sub-zero (left_all _);
      rest = rw (sub-zero, add-zero) (rest_all t p (before + 1) (run_of b r m).lines);
    }

module _ (b before : ℕ) (m₀ t₀ : List ℕ) (p₀ : ℕ) (r₀ : Record) (m t : List ℕ) (p : ℕ) (r : Record) (d : ℕ) (i : Going b before m₀ t₀ p₀ r₀ m t p r d) where
  -- c is what the turn answered, m' the memory and t' the text that it left
  pub going_on : (s : Record) (m' t' : List ℕ) (p' : ℕ) (l : Request) (c : Result (Request × Record) Refusal) → d < b → before + b ≤ most → c ≡ cycle_of r m → m' ≡ store_of c m → c ≡ Ok (l, s) → Put t t' p p' (line_text (before + d + 1) l) → Going b before m₀ t₀ p₀ r₀ m' t' p' s (d + 1)
  going_on s m' t' p' l c h q e f g u =
      let x = next_done b d r s m m' l c h e f g in
      let z = rest_line l (omega arith) (omega (arith, i.room)) (rw x at i.rest) u in
      let n : before + (d + 1) + 1 ≡ before + d + 1 + 1 = omega arith in
      record {
        within = omega arith;
        size = z.size ∙ i.size;
        room = omega (arith, z.size, z.after, i.room);
        well = still_well r s m l c e g;
        left = left_done b d _ r s m m' l c h e f g i.left;
        rest = rw n z.rest;
      }

  -- the answer where the loop ends
  listed : (k : Option Refusal) (m' : List ℕ) → run_of (b - d) r m ≡ ends k r m' → Listed (run_of b r₀ m₀) (before + 1) p₀ t₀ (told_as k d p r) m' t
  listed k m' x =
      let a : Left d (run_of b r₀ m₀) (ends k r m') = rw x at i.left in
      let w = rest_none t₀ t p₀ (before + 1) p (before + d + 1) _ (rw x at i.rest) in
      let n : length (run_of b r₀ m₀).lines ≡ d = omega (arith, a.count) in
      record {
        answer = rw (a.refusal, a.rec, n, ← w.place);
        mem = sym a.mem;
        text = w.text;
      }

  pub going_stop : (m' : List ℕ) (k : Refusal) (c : Result (Request × Record) Refusal) → d < b → c ≡ cycle_of r m → m' ≡ store_of c m → c ≡ Err k → Listed (run_of b r₀ m₀) (before + 1) p₀ t₀ (told_as (Some k) d p r) m' t
  going_stop m' k c h e f g = listed (Some k) m' (next_stop b d r m m' k c h e f g)

  pub going_end : b ≤ d → Listed (run_of b r₀ m₀) (before + 1) p₀ t₀ (told_as None d p r) m t
  going_end h = listed None m (next_none b d r m h)

  -- a stretch on, whose lines were drawn
  pub going_ahead : (gone : ℕ) (w : Walk) (m' t' : List ℕ) → d < b → before + b ≤ most
      → Driven gone r m t (before + d + 1) p w m' t' × (Passes w.cycles r m w.after m' × (well_formed w.after ≡ well_formed r) × (w.cycles ≤ b - d - 1))
      → Going b before m₀ t₀ p₀ r₀ m' t' w.place w.after (d + w.cycles)
  going_ahead g w m' t' o q y =
      let x : Walked r m t (before + d + 1) p w m' t' = walked_by r m t (before + d + 1) p w m' t' g y.0 y.1.0 (y.1.1 ∙ i.well) in
      let h : w.cycles < b - d = omega (arith, o, y.1.2) in
      let n : ℕ = w.cycles in
      let e : b - d ≡ n + (b - (d + n)) = omega (arith, h) in
      let a : (run_of (b - d) r m).lines ≡ (run_of n r m).lines ++ (run_of (b - (d + n)) w.after m').lines =
      ap (λ (j : ℕ). (run_of j r m).lines) e ∙ lines_both n (b - (d + n)) r w.after m m' x.passes in
      let j : before + (d + n) + 1 ≡ before + d + 1 + length (run_of n r m).lines = omega (arith, x.passes.count) in
      let f : lines_text (before + d + 1) (run_of n r m).lines ++ lines_text (before + (d + n) + 1) (run_of (b - (d + n)) w.after m').lines
      ≡ lines_text (before + d + 1) (run_of (b - d) r m).lines =
      ap (λ (k : ℕ). lines_text (before + d + 1) (run_of n r m).lines ++ lines_text k (run_of (b - (d + n)) w.after m').lines) j
      ∙ sym (lines_append (before + d + 1) (run_of n r m).lines (run_of (b - (d + n)) w.after m').lines)
      ∙ ap (lines_text (before + d + 1)) (sym a) in
      let v : w.place ≤ p + 22 * n = walked_place r m t (before + d + 1) p w m' t' (omega (arith, q, h)) x in
      let s : length t' ≡ length t = wrote_length x.wrote in
      record {
        within = omega (arith, h);
        size = s ∙ i.size;
        room = omega (arith, v, s, i.room, h);
        well = x.well;
        left = left_ahead b d n _ r w.after m m' h x.passes i.left;
        rest = λ t'' k u. i.rest t'' k (subst (Wrote t t'' p k) f (then x.wrote u));
      }

pub one_more : (b d n : ℕ) → d < b → n ≤ b - d - 1 → d + n < b
one_more b d n o h = omega arith
