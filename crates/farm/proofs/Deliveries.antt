-- Delivery after delivery: what each conserves, all conserve.
use Prim.Native.Nat.{ℕ, zero, suc, ◌+◌}
use Rattle.cpu.specs.declared.types.Refusal.{Refusal}
use Rattle.std.proofs.Common.{Result}
use mathlib.Core.Path.{◌≡◌, refl, ap, sym, subst, ◌∙◌}
use mathlib.Core.Bool.{Bool, true, false}
use mathlib.Core.List.{List, [], ◌∷◌}
use native.Mathlib.Nat.{add-zero, add-suc}
use native.Mathlib.Omega.{arith}
use lib.ListN.{length}
use Rattle.words.specs.Words.{pick, bit, inc, up}
use Rattle.cpu.specs.declared.types.Record.{Record}
use Rattle.cpu.specs.declared.types.Request.{Request}
use Rattle.farm.specs.Pairs.{Delivery, Added, Taken, AllDigits, Bus, on_bus, Feeds, program, Tally, longer, counted, on_from, onward, tally, Ready, Conserved}
use Rattle.farm.proofs.Instructions.{Goes}
use Rattle.farm.proofs.Delivered.{Delivered, delivered, sum_asks_count}

-- ---- the tally by its first delivery
onward_goes : (bus : Bus) (t : ℕ) (r s : Record) (qs : List Request) (n : ℕ) (rest : ℕ → Record → Tally) → Goes bus t r s qs → length qs ≡ n
    → onward bus t r rest ≡ longer n (rest (t + n) s)
onward_goes bus t r s qs n rest g c =
    ap (λ (l : ℕ). longer l (on_from (on_bus bus t r).out (rest (t + l)))) (ap length g.requests ∙ c)
    ∙ ap (λ (a : Result Record Refusal). longer n (on_from a (rest (t + n)))) g.out

-- the time at its end
abbrev pub later : (w : Bool) → (t : ℕ) → ℕ
later w t = t + 2 + (2 + bit w)

pub tally_first : (w : Bool) (bus : Bus) (t : ℕ) (r : Record) (d : Delivery) (ds : List Delivery) (x : Delivered w bus t r d (program w ds))
    → tally bus (d ∷ ds) t r ≡ longer 2 (longer (2 + bit w) (counted d x.end.flags.carry (tally bus ds (later w t) x.end)))
unfolding tally
tally_first w bus t r d ds x =
    onward_goes bus t r x.mid _ 2 (λ t₁ s. onward bus t₁ s (λ t₂ u. counted d u.flags.carry (tally bus ds t₂ u))) x.first refl
    ∙ ap (longer 2)
    (onward_goes bus (t + 2) x.mid x.end _ (2 + bit w) (λ t₂ u. counted d u.flags.carry (tally bus ds t₂ u)) x.second
    (sum_asks_count x.mid w))

-- ---- PC past the program
up_up : (p a k : ℕ) → up (up p a) k ≡ up p (a + k)
up_up p a zero = rw add-zero
up_up p a (suc k) = ap inc (up_up p a k) ∙ ap (up p) (sym (add-suc a k))

pub program_length : (w : Bool) (d : Delivery) (ds : List Delivery) → length (program w (d ∷ ds)) ≡ pick w 4 3 + length (program w ds)
program_length true (Added n) ds = omega arith
program_length true (Taken n) ds = omega arith
program_length false (Added n) ds = omega arith
program_length false (Taken n) ds = omega arith

pub deliveries : (w : Bool) (bus : Bus) (ds : List Delivery) (t : ℕ) (r : Record) → Ready w r → AllDigits w ds
    → Feeds bus r.pbr r.pc (program w ds) → (s : Record) × Conserved w r s ds (tally bus ds t r)
unfolding tally
deliveries w bus [] t r h q fed = (r, record { last = refl; ready = h; bank = refl; past = refl; cycles = omega arith; same = omega arith })
deliveries w bus (d ∷ ds) t r h q fed =
    let x = delivered w bus t r h d ds q.0 fed in
    let i = deliveries w bus ds (later w t) x.end x.ready q.1 x.fed in
    let c = i.1 in (
      i.0,
      subst (Conserved w r i.0 (d ∷ ds)) (sym (tally_first w bus t r d ds x)) (record {
        last = c.last;
        ready = c.ready;
        bank = c.bank ∙ x.bank;
        past =
            c.past ∙ ap (λ (p : ℕ). up p (length (program w ds))) x.past ∙ up_up r.pc (pick w 4 3) (length (program w ds))
            ∙ ap (up r.pc) (sym (program_length w d ds));
        cycles = omega (arith, c.cycles);
        same = omega (arith, x.same, c.same);
      }),
    )
