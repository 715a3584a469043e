-- Demand 3 of a run over a lent memory: the code's `run` gives it, by its contract.
use Prim.Native.Nat.{ℕ, ◌+◌, ◌*◌, ◌≤◌, ◌<◌}
use Rattle.std.proofs.Common.{Ok}
use mathlib.Core.Path.{◌≡◌, ap, sym, subst, ◌∙◌}
use mathlib.Core.Bool.{Bool, true, false}
use mathlib.Core.List.{List, [], ◌∷◌}
use native.Mathlib.Omega.{arith}
use lib.ListN.{length, get_or}
use Rattle.words.specs.Words.{sum16, at}
use Rattle.words.proofs.WordLaws.{up_sum}
use Rattle.cpu.specs.declared.types.Record.{Record}
use Rattle.run.specs.Runs.{whole_run, size, most}
use Rattle.run.proofs.Laws.{accepted}
use Rattle.farm.specs.Pairs.{Delivery, most_deliveries, AllDigits, code_place, Feeds, program, Tally, tally, Ready, Conserved, per_delivery, cycles_for}
use Rattle.farm.specs.Lent.{lent, memory_place, Holds, RunConserved}
use Rattle.farm.proofs.Instructions.{carry_asks, sum_asks}
use Rattle.farm.proofs.Delivered.{Delivered, delivered, Reads, sum_asks_count}
use Rattle.farm.proofs.Deliveries.{later, tally_first}
use Rattle.farm.proofs.OnMemory.{Through, through_none, through_both, through_goes, same_record}
use Rattle.farm.proofs.Demand3.{demand_3}

module _ (w : Bool) (m : List ℕ) (whole : length m ≡ size) where
  -- the cycles of a delivery
  through_delivery : (t : ℕ) (r : Record) (d : Delivery) (rest : List ℕ) (x : Delivered w (lent m) t r d rest) → r.pbr ≡ 0
      → Through m (per_delivery w) r x.end
  through_delivery t r d rest x z =
      let first : Through m 2 r x.mid = through_goes m whole t r x.mid _ x.first (subst (λ (b : ℕ). Reads b (carry_asks r)) z x.first_reads) in
      let second = through_goes m whole (t + 2) x.mid x.end _ x.second (subst (λ (b : ℕ). Reads b (sum_asks x.mid w)) (x.mid_bank ∙ z) x.second_reads) in
      let count : 2 + length (sum_asks x.mid w) ≡ per_delivery w = omega (arith, sum_asks_count x.mid w) in
      subst (λ (n : ℕ). Through m n r x.end) count (through_both m 2 _ r x.mid x.end first second)

  -- and of all of them: they lead to the tally's last record
  through_deliveries : (ds : List Delivery) (t : ℕ) (r s : Record) → Ready w r → AllDigits w ds → Feeds (lent m) r.pbr r.pc (program w ds)
      → r.pbr ≡ 0 → (tally (lent m) ds t r).last ≡ Ok s → Through m (cycles_for w ds) r s
  unfolding tally
  through_deliveries [] t r s h q fed z e =
      let none : 0 ≡ cycles_for w [] = omega arith in
      subst (λ (n : ℕ). Through m n r s) none (subst (Through m 0 r) (same_record r s e) (through_none m r))
  through_deliveries (d ∷ ds) t r s h q fed z e =
      let x = delivered w (lent m) t r h d ds q.0 fed in
      let last = sym (ap (λ (y : Tally). y.last) (tally_first w (lent m) t r d ds x)) ∙ e in
      let rest = through_deliveries ds (later w t) x.end s x.ready q.1 x.fed (x.bank ∙ z) last in
      let count : per_delivery w + cycles_for w ds ≡ cycles_for w (d ∷ ds) = omega arith in
      subst (λ (n : ℕ). Through m n r s) count (through_both m (per_delivery w) (cycles_for w ds) r x.end s (through_delivery t r d _ x z) rest)

-- a memory that has the program is a bus that has it
place_in_bank_0 : (bank pc i : ℕ) → bank ≡ 0 → pc < 65536 → code_place bank pc i ≡ memory_place pc i
unfolding at sum16
place_in_bank_0 bank pc i z h = omega (arith, up_sum pc i h, z)

memory_feeds : (m : List ℕ) (bank pc : ℕ) (bytes : List ℕ) → bank ≡ 0 → pc < 65536 → Holds m pc bytes → Feeds (lent m) bank pc bytes
memory_feeds m bank pc bytes z h x = record {
  answers = λ t i k c l. ap (λ (a : ℕ). get_or m a 0) (place_in_bank_0 bank pc i z h) ∙ x.byte i l;
}

-- at most 81,920 cycles
budget_accepted : (w : Bool) (n : ℕ) → n ≤ most_deliveries → per_delivery w * n ≤ most
budget_accepted true n h = omega arith
budget_accepted false n h = omega arith

-- From a ready record in bank 0, over a memory that has the program of deliveries in digits from PC on: a run of their cycles isn't
-- refused, writes nothing, and ends at the tally's last record with no digit lost.
pub demand_3_run : (w : Bool) (r : Record) (m : List ℕ) (ds : List Delivery) → Ready w r → r.pbr ≡ 0 → AllDigits w ds → length ds ≤ most_deliveries
    → Holds m r.pc (program w ds) → RunConserved w r m ds (whole_run (cycles_for w ds) r m)
demand_3_run w r m ds h z q bound holds =
    let fed = memory_feeds m r.pbr r.pc (program w ds) z h.inside holds in
    let x = demand_3 w (lent m) r ds h q bound fed in
    let y = through_deliveries w m holds.whole ds 0 r x.0 h q fed z x.1.last in
    subst (RunConserved w r m ds) (sym (accepted (cycles_for w ds) r m holds.whole (budget_accepted w (length ds) bound))) (record {
      refusal = y.refusal;
      lines = omega (arith, y.count);
      mem = y.mem;
      conserved = subst (λ (s : Record). Conserved w r s ds (tally (lent m) ds 0 r)) (sym y.rec) x.1;
    })
