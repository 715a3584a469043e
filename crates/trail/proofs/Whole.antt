-- What the entry answers, by what it finds before it starts.
use Prim.Native.Nat.{ℕ, ◌+◌, ◌*◌, ◌≤◌}
use Rattle.std.proofs.Common.{None}
use mathlib.Core.Path.{◌≡◌, refl, subst, sym, ap}
use mathlib.Core.Bool.{Bool, true, false, ◌&&◌}
use mathlib.Core.List.{List}
use native.Mathlib.Nat.{add-zero}
use lib.ListN.{length}
use lib.Dec.{leb}
use borrow.Author.Tests.{eq-eqb, ne_eqb, le-leb}
use Rattle.words.specs.Words.{pick}
use Rattle.cpu.specs.Record.{well_formed}
use Rattle.cpu.specs.declared.types.Record.{Record}
use Rattle.trace.specs.Text.{lines_text}
use Rattle.run.specs.Runs.{End, ends, run_of, size, most}
use Rattle.drive.specs.Drives.{roomy}
use Rattle.trail.specs.Trails.{told_as, Listed, trail_of}
use Rattle.trail.specs.declared.types.Told.{Told}

module _ (p before b : ℕ) (r : Record) (m t : List ℕ) where
  pub all : (o : Told) (m' t' : List ℕ) → roomy p before b r m t ≡ true → Listed (run_of b r m) (before + 1) p t o m' t'
      → Listed (trail_of p before b r m t) (before + 1) p t o m' t'
  all o m' t' e = subst (λ (v : Bool). Listed (run_of b r m) (before + 1) p t o m' t' → Listed (pick v (run_of b r m) (ends None r m)) (before + 1) p t o m' t') (sym e) (λ x. x)

  stays : roomy p before b r m t ≡ false → ends None r m ≡ trail_of p before b r m t
  stays e = ap (λ (v : Bool). pick v (run_of b r m) (ends None r m)) (sym e)

  pub nothing : roomy p before b r m t ≡ false → Listed (trail_of p before b r m t) (before + 1) p t (told_as None 0 p r) m t
  unfolding lines_text
  nothing e = subst (λ (v : End). Listed v (before + 1) p t (told_as None 0 p r) m t) (stays e) (record { answer = rw add-zero; mem = refl; text = refl })

  -- what the entry tests one after the other, and all of it
  pub tested : (v : Bool) → length m ≡ size → ((leb (before + b) most && leb (p + 22 * b) (length t)) && well_formed r) ≡ v → roomy p before b r m t ≡ v
  tested v k e = rw (eq-eqb _ _ k) e

  pub not_whole : (length m ≡ size → ⊥) → roomy p before b r m t ≡ false
  not_whole n = rw (ne_eqb _ _ n)

  -- whoever has found all of it good is told of the run
  module _ (whole : length m ≡ size) (few : before + b ≤ most) (room : p + 22 * b ≤ length t) (well : well_formed r ≡ true) where
    fit : roomy p before b r m t ≡ true
    fit = rw (eq-eqb _ _ whole, le-leb _ _ few, le-leb _ _ room, well)

    pub run_told : (o : Told) (m' t' : List ℕ) → Listed (trail_of p before b r m t) (before + 1) p t o m' t' → Listed (run_of b r m) (before + 1) p t o m' t'
    run_told o m' t' = subst (λ (v : Bool). Listed (pick v (run_of b r m) (ends None r m)) (before + 1) p t o m' t' → Listed (run_of b r m) (before + 1) p t o m' t') (sym fit) (λ x. x)
