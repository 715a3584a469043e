-- What the entry finds before it starts, and what it answers.
use Prim.Native.Nat.{ℕ, ◌+◌, ◌*◌, ◌-◌, ◌≤◌, ◌<◌}
use mathlib.Core.Path.{◌≡◌, refl, subst, sym, ap, ◌∙◌}
use mathlib.Core.Bool.{Bool, true, false, ◌&&◌}
use mathlib.Core.List.{List}
use native.Mathlib.Omega.{arith}
use native.Mathlib.Nat.{add-zero}
use lib.Dec.{eqb, leb, ltb}
use lib.ListN.{length}
use borrow.Author.Tests.{eq-eqb, ne_eqb, eqb-true, leb-true, ltb-true}
use Rattle.words.specs.Words.{pick}
use Rattle.cpu.specs.Record.{well_formed}
use Rattle.cpu.specs.declared.types.Record.{Record}
use Rattle.trace.specs.Text.{lines_text}
use Rattle.sheet.proofs.Walk.{and_left, and_right}
use Rattle.run.specs.Runs.{run_of, size, most}
use Rattle.run.specs.Passes.{Passes}
use Rattle.run.specs.Far.{ahead_far}
use Rattle.run.proofs.Whole.{passes_none}
use Rattle.run.proofs.Far.{far_inside}
use Rattle.drive.specs.Drives.{walk, Walked, Driven, roomy, drivable, gone_by}
use Rattle.drive.specs.declared.types.Walk.{Walk}

-- a stretch is what its cycles come to, and a drive whose cycles pass is a stretch
module _ (r : Record) (m t : List ℕ) (k p : ℕ) (w : Walk) (m' t' : List ℕ) where
  driven_by : Walked r m t k p w m' t' → Driven w.cycles r m t k p w m' t'
  driven_by x =
      record {
        answer = ap (λ (i : ℕ). walk w.cycles i w.after) x.wrote.place
            ∙ ap (walk w.cycles (p + length (lines_text k (run_of w.cycles r m).lines))) (sym x.passes.rec);
        mem = sym x.passes.mem;
        text = x.wrote.text;
      }

  pub walked_by : (n : ℕ) → Driven n r m t k p w m' t' → Passes w.cycles r m w.after m' → well_formed w.after ≡ true → Walked r m t k p w m' t'
  walked_by n d x v =
      let e : n ≡ w.cycles = sym (ap (λ (i : Walk). i.cycles) d.answer) in
      let d' : Driven w.cycles r m t k p w m' t' = subst (λ (i : ℕ). Driven i r m t k p w m' t') e d in
      record {
        passes = x;
        well = v;
        wrote = record { place = ap (λ (i : Walk). i.place) d'.answer; text = d'.text };
      }

module _ (p before b : ℕ) (r : Record) (m t : List ℕ) where
  abbrev fits : Bool
  fits = leb (before + b) most && leb (p + 22 * b) (length t)

  pub parts : roomy p before b r m t ≡ true → ((length m ≡ size) × (well_formed r ≡ true)) × ((before + b ≤ most) × (p + 22 * b ≤ length t))
  parts e =
      let f : (eqb (length m) size && fits) ≡ true = and_left (eqb (length m) size && fits) (well_formed r) e in
      let g : fits ≡ true = and_right (eqb (length m) size) fits f in (
        (eqb-true _ _ (and_left (eqb (length m) size) fits f), and_right (eqb (length m) size && fits) (well_formed r) e),
        (leb-true _ _ (and_left (leb (before + b) most) (leb (p + 22 * b) (length t)) g), leb-true _ _ (and_right (leb (before + b) most) (leb (p + 22 * b) (length t)) g)),
      )

  -- the same with a cycle asked for, as the loops want it: their first line's number is one more than the cycles done before
  pub drives : drivable p before b r m t ≡ true → ((length m ≡ size) × (well_formed r ≡ true) × (0 < b)) × ((before + 1 + b ≤ most + 1) × (p + 22 * b ≤ length t))
  drives e =
      let h = parts (and_left (roomy p before b r m t) (ltb 0 b) e) in
      ((h.0.0, h.0.1, ltb-true _ _ (and_right (roomy p before b r m t) (ltb 0 b) e)), (omega (arith, h.1.0), h.1.1))

  -- what the entry tests one after the other, and all of it
  pub tested : (v : Bool) → length m ≡ size → ((fits && well_formed r) && ltb 0 b) ≡ v → drivable p before b r m t ≡ v
  tested v k e = rw (eq-eqb _ _ k) e

  pub not_whole : (length m ≡ size → ⊥) → drivable p before b r m t ≡ false
  not_whole n = rw (ne_eqb _ _ n)

  -- what is promised of an answer
  abbrev Answered : Walk → (m' t' : List ℕ) → Type 0
  Answered w m' t' =
      Driven (gone_by p before b r m t) r m t (before + 1) p w m' t'
      × (Passes w.cycles r m w.after m' × (well_formed w.after ≡ well_formed r) × (w.cycles ≤ b - 1))

  pub gone : (w : Walk) (m' t' : List ℕ) → drivable p before b r m t ≡ true → Walked r m t (before + 1) p w m' t' → w.cycles < b → w.cycles ≡ ahead_far b r m → Answered w m' t'
  gone w m' t' e x h f =
      let g : w.cycles ≡ gone_by p before b r m t = f ∙ ap (λ (v : Bool). pick v (ahead_far b r m) 0) (sym e) in
      let z = drives e in (
        subst (λ (i : ℕ). Driven i r m t (before + 1) p w m' t') g (driven_by r m t (before + 1) p w m' t' x),
        (x.passes, x.well ∙ sym z.0.1, omega (arith, h)),
      )

  none_driven : Driven 0 r m t (before + 1) p (walk 0 p r) m t
  unfolding run_of lines_text
  none_driven = record { answer = rw add-zero; mem = refl; text = refl }

  pub stayed : drivable p before b r m t ≡ false → Answered (walk 0 p r) m t
  stayed e =
      let g : 0 ≡ gone_by p before b r m t = ap (λ (v : Bool). pick v (ahead_far b r m) 0) (sym e) in
      (subst (λ (i : ℕ). Driven i r m t (before + 1) p (walk 0 p r) m t) g none_driven, (passes_none r m, refl, omega arith))

  -- inside an instruction
  pub stayed_inside : (r.tcu ≡ 0 → ⊥) → Answered (walk 0 p r) m t
  stayed_inside n =
      let g : 0 ≡ gone_by p before b r m t = sym (by_none (drivable p before b r m t) (ahead_far b r m) (far_inside r n b m)) in
      (subst (λ (i : ℕ). Driven i r m t (before + 1) p (walk 0 p r) m t) g none_driven, (passes_none r m, refl, omega arith))
    where
      by_none : (v : Bool) (k : ℕ) → k ≡ 0 → pick v k 0 ≡ 0
      by_none true k e = e
      by_none false k e = refl
