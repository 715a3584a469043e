-- A delivery on a bus that has its program: where its two instructions lead.
use Prim.Native.Nat.{ℕ, zero, suc, ◌+◌, ◌*◌, ◌<◌}
use Rattle.std.proofs.Common.{Some}
use mathlib.Core.Path.{◌≡◌, refl, ap, sym, ◌∙◌}
use mathlib.Core.Bool.{Bool, true, false, ◌||◌, ◌&&◌}
use mathlib.Core.List.{List, [], ◌∷◌}
use native.Mathlib.Omega.{arith}
use lib.ListN.{length, get_or}
use Rattle.words.specs.Words.{pick, bit, implied, inc, up, sum16, at}
use Rattle.words.proofs.WordLaws.{up_sum}
use Rattle.flags.specs.declared.Flags.{Flags}
use Rattle.adder.specs.Digits.{Digits}
use Rattle.alu.specs.Alu.{operated_at}
use Rattle.cpu.specs.Record.{well_formed, widths_set, regs_of, ended}
use Rattle.cpu.specs.declared.types.Record.{Record}
use Rattle.cpu.specs.declared.types.Regs.{Regs}
use Rattle.cpu.specs.declared.types.Reg.TheVariants.{A}
use Rattle.cpu.specs.declared.types.Request.{Request}
use Rattle.cpu.specs.declared.types.Kind.TheVariants.{Opcode, Program}
use Rattle.cpu.specs.declared.types.One.TheVariants.{Carry}
use Rattle.opcodes.specs.Opcodes.{decode_of, opcodes, one_bytes}
use Rattle.opcodes.specs.declared.types.Operation.TheVariants.{Read, Do}
use Rattle.opcodes.specs.declared.types.Shape.TheVariants.{Immediate, Implied}
use Rattle.bus.specs.Bus.{reads}
use Rattle.sheet.proofs.Walk.{and_left, widths_of}
use Rattle.sheet.proofs.Kept.{well_ended}
use Rattle.farm.specs.Pairs.{Delivery, Added, Taken, amount, bytes_of, modulus, adds, takes, Bus, Feeds, Ready, operand, program, code_place, holding, wraps_up, wraps_down}
use Rattle.farm.proofs.Sums.{narrow, carry_for, alu_for, Leaves, sum_leaves, Sums, sums, byte_small}
use Rattle.farm.proofs.Instructions.{Goes, carry_asks, carried, goes_carry, sum_asks, summed, Operand, goes_sum}

-- ---- a record that an instruction's end makes is ready where its registers are
settles : (f : Flags) → widths_set f ≡ true → (f.emulation || f.memsel) ≡ f.memsel
settles f h = by f.emulation f.memsel f.indexsel h
  where
    by : (e m x : Bool) → implied e (m && x) ≡ true → (e || m) ≡ m
    by true m x h = sym (and_left m x h)
    by false m x h = refl

ready_widths : (r : Record) → well_formed r ≡ true → widths_set r.flags ≡ true
unfolding well_formed
ready_widths r h = widths_of (regs_of r) (and_left _ _ h)

ready_ended : (w : Bool) (r : Record) → Ready w r → (ir pbr pc s dbr : ℕ) (g : Regs) → Leaves r.flags g.flags
    → Digits (bytes_of w) (narrow w g.a) → pc < 65536 → Ready w (ended ir false pbr pc s dbr g)
unfolding ended
ready_ended w r h ir pbr pc s dbr g l p near = record {
  well = well_ended ir false pbr pc s dbr g;
  start = refl;
  decimal = l.d ∙ h.decimal;
  width = settles g.flags (l.widths ∙ ready_widths r h.well) ∙ l.m ∙ h.width;
  digits = p;
  inside = near;
}

-- ---- the program from its next byte on
inc_small : (p : ℕ) → inc p < 65536
unfolding inc
inc_small p = omega arith

up_small : (p k : ℕ) → p < 65536 → up p k < 65536
up_small p zero h = h
up_small p (suc k) h = inc_small (up p k)

next_place : (bank pc i : ℕ) → pc < 65536 → code_place bank (inc pc) i ≡ code_place bank pc (suc i)
unfolding at inc sum16
next_place bank pc i h = omega (arith, up_sum pc i h, up_sum (inc pc) i (inc_small pc))

next_byte : (bus : Bus) (bank pc x : ℕ) (bytes : List ℕ) → pc < 65536 → Feeds bus bank pc (x ∷ bytes) → Feeds bus bank (inc pc) bytes
next_byte bus bank pc x bytes near h = record {
  answers = λ t i k c l. ap (λ (p : ℕ). bus t (reads k p)) (next_place bank pc i near) ∙ h.answers t (suc i) k c (omega arith);
}

past_sum : (bus : Bus) (bank pc y n : ℕ) (rest : List ℕ) (w : Bool) → pc < 65536 → Feeds bus bank pc (y ∷ operand w n rest)
    → Feeds bus bank (up pc (pick w 3 2)) rest
past_sum bus bank pc y n rest true near h =
    next_byte bus bank _ _ _ (inc_small _) (next_byte bus bank _ _ _ (inc_small _) (next_byte bus bank _ _ _ near h))
past_sum bus bank pc y n rest false near h = next_byte bus bank _ _ _ (inc_small _) (next_byte bus bank _ _ _ near h)

past_both : (p : ℕ) (w : Bool) → up (inc p) (pick w 3 2) ≡ up p (pick w 4 3)
past_both p true = refl
past_both p false = refl

-- ---- requests that a lent memory answers: reads inside the bank
abbrev pub Reads : (bank : ℕ) → List Request → Type 0
Reads bank [] = Unit
Reads bank (q ∷ qs) = (q.write ≡ false) × (p : ℕ) × (q.addr ≡ at bank p) × (p < 65536) × Reads bank qs

-- the places of a record's instruction are in its bank
reads_carry : (r : Record) → r.pc < 65536 → Reads r.pbr (carry_asks r)
reads_carry r h = (refl, r.pc, refl, h, (refl, inc r.pc, refl, inc_small _, tt))

reads_sum : (r : Record) (w : Bool) → r.pc < 65536 → Reads r.pbr (sum_asks r w)
reads_sum r true h = (refl, r.pc, refl, h, (refl, inc r.pc, refl, inc_small _, (refl, up r.pc 2, refl, inc_small _, tt)))
reads_sum r false h = (refl, r.pc, refl, h, (refl, inc r.pc, refl, inc_small _, tt))

pub sum_asks_count : (r : Record) (w : Bool) → length (sum_asks r w) ≡ 2 + bit w
sum_asks_count r true = refl
sum_asks_count r false = refl

-- the operand's bytes, on a bus that has them behind an opcode
operand_fed : (bus : Bus) (t : ℕ) (r : Record) (y n : ℕ) (rest : List ℕ) (w : Bool) → Digits (bytes_of w) n
    → Feeds bus r.pbr r.pc (y ∷ operand w n rest) → Operand bus t r n w
operand_fed bus t r y n rest true q h =
    (h.answers (suc t) 1 Program refl (omega arith), h.answers (suc (suc t)) 2 Program refl (omega arith))
operand_fed bus t r y n rest false q h = (h.answers (suc t) 1 Program refl (omega arith), byte_small n q)

-- a delivery, from a record at time t on, before the rest of the program
pub record Delivered (w : Bool) (bus : Bus) (t : ℕ) (r : Record) (d : Delivery) (rest : List ℕ) : Type 0 where
  pub mid : Record
  pub end : Record
  pub first : Goes bus t r mid (carry_asks r)
  pub second : Goes bus (t + 2) mid end (sum_asks mid w)
  pub first_reads : Reads r.pbr (carry_asks r)
  pub second_reads : Reads mid.pbr (sum_asks mid w)
  pub ready : Ready w end
  pub mid_bank : mid.pbr ≡ r.pbr
  pub bank : end.pbr ≡ r.pbr
  pub past : end.pc ≡ up r.pc (pick w 4 3)
  pub fed : Feeds bus end.pbr end.pc rest
  pub same : holding w end + modulus w * wraps_up d end.flags.carry + takes w d ≡ holding w r + adds w d + modulus w * wraps_down d end.flags.carry

module _ (w : Bool) (bus : Bus) (t : ℕ) (r : Record) (h : Ready w r) where
  carried_ready : (c : Bool) → Ready w (carried r c)
  carried_ready c = ready_ended w r h _ _ _ _ _ _ (record { d = refl; m = refl; widths = refl }) h.digits (inc_small r.pc)

  module _ (x y : ℕ) (d : Delivery) (rest : List ℕ) (hx : decode_of x ≡ Some (Implied, Do (Carry (carry_for d))))
      (hy : decode_of y ≡ Some (Immediate, Read (alu_for d) A)) (q : Digits (bytes_of w) (amount d))
      (fed : Feeds bus r.pbr r.pc (x ∷ y ∷ operand w (amount d) rest)) where
    abbrev mid : Record
    mid = carried r (carry_for d)

    mid_ready : Ready w mid
    mid_ready = carried_ready (carry_for d)

    mid_fed : Feeds bus mid.pbr mid.pc (y ∷ operand w (amount d) rest)
    unfolding ended
    mid_fed = next_byte bus r.pbr r.pc x _ h.inside fed

    goes_first : Goes bus t r mid (carry_asks r)
    goes_first = goes_carry bus t r h.well h.start h.inside (carry_for d) (ap decode_of (fed.answers t 0 Opcode refl (omega arith)) ∙ hx)

    abbrev end : Record
    end = summed mid (alu_for d) (amount d) w

    goes_second : Goes bus (t + 2) mid end (sum_asks mid w)
    goes_second =
        goes_sum bus (t + 2) mid mid_ready.well mid_ready.start mid_ready.inside (alu_for d) (amount d)
        (ap decode_of (mid_fed.answers (t + 2) 0 Opcode refl (omega arith)) ∙ hy) w mid_ready.width (operand_fed bus (t + 2) mid y (amount d) rest w q mid_fed)

    mid_carry : mid.flags.carry ≡ carry_for d
    unfolding ended
    mid_carry = refl

    end_sums : Sums w d mid.a (operated_at (alu_for d) w mid.a (amount d) mid.flags)
    end_sums = sums w d mid.a mid.flags mid_ready.decimal mid_carry mid_ready.digits q

    end_ready : Ready w end
    end_ready =
        ready_ended w mid mid_ready _ _ _ _ _ _ (sum_leaves w d mid.a (amount d) mid.flags) end_sums.digits
        (up_small mid.pc (pick w 3 2) mid_ready.inside)

    -- the two instructions of a delivery, by its two opcodes
    made : Delivered w bus t r d rest
    unfolding ended
    made = record {
      mid = mid;
      end = end;
      first = goes_first;
      second = goes_second;
      first_reads = reads_carry r h.inside;
      second_reads = reads_sum mid w mid_ready.inside;
      ready = end_ready;
      mid_bank = refl;
      bank = refl;
      past = past_both r.pc w;
      fed = past_sum bus mid.pbr mid.pc y (amount d) rest w mid_ready.inside mid_fed;
      same = end_sums.same;
    }

  pub delivered : (d : Delivery) (ds : List Delivery) → Digits (bytes_of w) (amount d) → Feeds bus r.pbr r.pc (program w (d ∷ ds))
      → Delivered w bus t r d (program w ds)
  unfolding decode_of opcodes one_bytes
  delivered (Added n) ds q fed =
      made (get_or (program w (Added n ∷ ds)) 0 0) (get_or (program w (Added n ∷ ds)) 1 0) (Added n) (program w ds) refl refl q fed
  delivered (Taken n) ds q fed =
      made (get_or (program w (Taken n ∷ ds)) 0 0) (get_or (program w (Taken n ∷ ds)) 1 0) (Taken n) (program w ds) refl refl q fed
