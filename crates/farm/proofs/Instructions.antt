-- The two instructions of a delivery on a bus: the sheet's rows, with the bytes that the bus answers put in.
use Prim.Native.Nat.{ℕ, suc, ◌<◌}
use Rattle.std.proofs.Common.{Some, Ok}
use mathlib.Core.Path.{◌≡◌, ap, subst, ◌∙◌}
use mathlib.Core.Bool.{Bool, true, false, not, not-not}
use mathlib.Core.List.{List, [], ◌∷◌}
use native.Mathlib.Omega.{arith}
use Rattle.words.specs.Words.{pick, low_of, high_of, word, inc, up, at}
use Rattle.alu.specs.Alu.{operated_at, with_carry}
use Rattle.alu.specs.declared.types.Alu.{Alu}
use Rattle.cpu.specs.Record.{well_formed, regs_of, ended}
use Rattle.cpu.specs.Registers.{set_flags}
use Rattle.cpu.specs.declared.types.Record.{Record}
use Rattle.cpu.specs.declared.types.Regs.{Regs}
use Rattle.cpu.specs.declared.types.Reg.TheVariants.{A}
use Rattle.cpu.specs.declared.types.Request.{Request}
use Rattle.cpu.specs.declared.types.One.TheVariants.{Carry}
use Rattle.cpu.proofs.Bytes.{with}
use Rattle.opcodes.specs.Opcodes.{decode_of, wide_of}
use Rattle.opcodes.specs.declared.types.Operation.{Operation}
use Rattle.opcodes.specs.declared.types.Operation.TheVariants.{Read, Do}
use Rattle.opcodes.specs.declared.types.Shape.{Shape}
use Rattle.opcodes.specs.declared.types.Shape.TheVariants.{Immediate, Implied}
use Rattle.cycles.specs.Cycles.{unaligned}
use Rattle.cycles.specs.declared.types.Micro.TheVariants.{Fetch}
use Rattle.step.specs.Cycle.{micro_of, request_of}
use Rattle.sheet.specs.Run.{Ran}
use Rattle.sheet.specs.Sheet.{O, P, I, sheet, row, instruction, when, effect}
use Rattle.sheet.proofs.Demand2.{demand_2}
use Rattle.sheet.proofs.Effects.{effect_8, effect_16}
use Rattle.farm.specs.Pairs.{Bus, heard, on_bus}
use Rattle.farm.proofs.Heard.{Told, heard_told}

-- a word is its bytes
whole : (n : ℕ) → word (low_of n) (high_of n) ≡ n
unfolding word
whole n = omega arith

-- from r at time t an instruction makes those requests and ends at s
pub record Goes (bus : Bus) (t : ℕ) (r s : Record) (qs : List Request) : Type 0 where
  pub requests : (on_bus bus t r).requests ≡ qs
  pub out : (on_bus bus t r).out ≡ Ok s

-- K,PC+k
abbrev pub place : Record → ℕ → ℕ
place r k = at r.pbr (up r.pc k)

-- ---- CLC and SEC: the requests, and the record after
abbrev pub carry_asks : Record → List Request
carry_asks r = O (place r 0) ∷ I (place r 1) ∷ []

abbrev pub carried : Record → (carry : Bool) → Record
carried r c = ended 0 false r.pbr (inc r.pc) r.s r.dbr (set_flags (with_carry c r.flags) (regs_of r))

-- ---- ADC # and SBC # of the operand n at the width w
abbrev pub sum_asks : Record → (w : Bool) → List Request
sum_asks r w = O (place r 0) ∷ P (place r 1) ∷ when w (P (place r 2) ∷ [])

abbrev pub summed : Record → Alu → (n : ℕ) → (w : Bool) → Record
summed r k n w = ended 0 false r.pbr (up r.pc (pick w 3 2)) r.s r.dbr (with A (operated_at k w r.a n r.flags) (regs_of r))

-- the bus answers the operand's bytes
abbrev pub Operand : Bus → (t : ℕ) → Record → (n : ℕ) → (w : Bool) → Type 0
Operand bus t r n true = (bus (suc t) (P (place r 1)) ≡ low_of n) × (bus (suc (suc t)) (P (place r 2)) ≡ high_of n)
Operand bus t r n false = (bus (suc t) (P (place r 1)) ≡ n) × (n < 256)

module _ (bus : Bus) (t : ℕ) (r : Record) (well : well_formed r ≡ true) (start : r.held ≡ false) (near : r.pc < 65536) where
  abbrev b : ℕ → ℕ
  b = heard bus t r

  fetches : micro_of r ≡ Fetch
  unfolding micro_of
  fetches = rw (well, start)

  -- the opcode's byte
  opcode_heard : b 0 ≡ bus t (O (place r 0))
  unfolding heard request_of
  opcode_heard = rw fetches

  -- the byte that the bus answers to it names the row
  on_sheet : (s : Shape) (o : Operation) → decode_of (bus t (O (place r 0))) ≡ Some (s, o)
      → on_bus bus t r ≡ sheet r b s o (wide_of o r.flags.memsel r.flags.indexsel) (unaligned r.d) r.flags.emulation
  unfolding instruction
  on_sheet s o h = demand_2 r b well start near ∙ ap (row r b) (ap decode_of opcode_heard ∙ h)

  pub goes_carry : (c : Bool) → decode_of (bus t (O (place r 0))) ≡ Some (Implied, Do (Carry c)) → Goes bus t r (carried r c) (carry_asks r)
  unfolding ended
  goes_carry c h =
      let e = on_sheet Implied (Do (Carry c)) h in
      record { requests = ap (λ (u : Ran). u.requests) e; out = ap (λ (u : Ran). u.out) e }

  module _ (k : Alu) (h : decode_of (bus t (O (place r 0))) ≡ Some (Immediate, Read k A)) (w : Bool) (wide : r.flags.memsel ≡ not w) where
    at_width : on_bus bus t r ≡ sheet r b Immediate (Read k A) w (unaligned r.d) r.flags.emulation
    at_width =
        on_sheet Immediate (Read k A) h
        ∙ ap (λ (v : Bool). sheet r b Immediate (Read k A) v (unaligned r.d) r.flags.emulation) (ap not wide ∙ not-not w)

    -- what the bus answers to the operand's requests
    operand_heard : Told bus t b (sum_asks r w)
    operand_heard = subst (Told bus t b) (ap (λ (u : Ran). u.requests) at_width) (heard_told 8 bus t r)

  module _ (k : Alu) (n : ℕ) where
    effect_is : (w : Bool) → Told bus t b (sum_asks r w) → Operand bus t r n w
        → effect r b (Read k A) w 1 ≡ with A (operated_at k w r.a n r.flags) (regs_of r)
    effect_is true q p =
        let low : b 1 ≡ low_of n = q.1.0 ∙ p.0 in
        let high : b 2 ≡ high_of n = q.1.1.0 ∙ p.1 in
        effect_16 r b (Read k A) 1 (rw low (omega arith))
        ∙ ap (λ (v : ℕ). with A (operated_at k true r.a v r.flags) (regs_of r)) (rw (low, high) (whole n))
    effect_is false q p =
        let only : b 1 ≡ n = q.1.0 ∙ p.0 in
        effect_8 r b (Read k A) 1 (rw only p.1)
        ∙ ap (λ (v : ℕ). with A (operated_at k false r.a v r.flags) (regs_of r)) only

    pub goes_sum : decode_of (bus t (O (place r 0))) ≡ Some (Immediate, Read k A) → (w : Bool) → r.flags.memsel ≡ not w
        → Operand bus t r n w → Goes bus t r (summed r k n w) (sum_asks r w)
    unfolding ended
    goes_sum h w wide p =
        let e = at_width k h w wide in record {
          requests = ap (λ (u : Ran). u.requests) e;
          out =
              ap (λ (u : Ran). u.out) e
              ∙ ap (λ (g : Regs). Ok (ended 0 false r.pbr (up r.pc (pick w 3 2)) r.s r.dbr g)) (effect_is w (operand_heard k h w wide) p);
        }
