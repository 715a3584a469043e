-- Demand 2: cycle after cycle from an instruction's start is the instruction as the sheet's table has it.
use Prim.Native.Nat.{ℕ, zero, suc, ◌<◌}
use Rattle.opcodes.specs.declared.types.Shape.{Shape}
use Rattle.std.proofs.Common.{Option, Some, None}
use mathlib.Core.Path.{◌≡◌, refl, ap, ◌∙◌}
use mathlib.Core.Bool.{true, false}
use Rattle.cpu.specs.Record.{narrowed, well_formed, mid_of, regs_of, under_way}
use Rattle.cpu.specs.declared.types.Record.{Record}
use Rattle.opcodes.specs.Opcodes.{decode_of, wide_of}
use Rattle.opcodes.specs.declared.types.Operation.{Operation}
use Rattle.opcodes.specs.declared.types.Shape.TheVariants.{Move}
use Rattle.cycles.specs.Cycles.{cycles_of, unaligned, move}
use Rattle.cycles.specs.declared.types.Ask.TheVariants.{Opcode}
use Rattle.cycles.specs.declared.types.Move.TheVariants.{Step}
use Rattle.cycles.specs.declared.types.Change.TheVariants.{Keep}
use Rattle.cycles.specs.declared.types.To.TheVariants.{On}
use Rattle.cycles.specs.declared.types.Micro.TheVariants.{Fetch, Held}
use Rattle.mid.specs.Mid.{past}
use Rattle.step.specs.Cycle.{micro_of, begun, asked_by, answered_by}
use Rattle.sheet.specs.Run.{Ran, also, after, later, run}
use Rattle.sheet.specs.Sheet.{O, K, row, instruction}
use Rattle.sheet.proofs.Walk.{and_left, cycle_is, run_walks}
use Rattle.sheet.proofs.Shapes.{shape_law}

micro_start : (r : Record) → well_formed r ≡ true → r.held ≡ false → micro_of r ≡ Fetch
unfolding micro_of
micro_start r w h = rw (w, h)

module _ (r : Record) (b : ℕ → ℕ) (small : r.pc < 65536) (narrow : narrowed r.flags r.x r.y ≡ true) where
  row_law : (o : Option (Shape × Operation)) → decode_of (b 0) ≡ o → after (asked_by Fetch r) (begun o r (b 0)) (run 7 (later b)) ≡ row r b o
  row_law None h = refl
  row_law (Some (s, o)) h =
      ap (also (O (K r b 0)))
      (run_walks 7 (later b) (b 0) 0 r.pbr (regs_of r) (past (mid_of r)) s o
      (cycles_of s (wide_of o r.flags.memsel r.flags.indexsel) (unaligned r.d) r.flags.emulation)
      (record { narrow = narrow; list = refl }) h)
      ∙ shape_law r b small narrow o s (wide_of o r.flags.memsel r.flags.indexsel) (unaligned r.d) r.flags.emulation h

-- For every well-formed record at an instruction's start, and any bytes answered: the requests in order, so their number, and
-- the record after, or refusal 5 at the fetch of a byte that isn't listed.
pub demand_2 : (r : Record) (b : ℕ → ℕ) → well_formed r ≡ true → r.held ≡ false → r.pc < 65536 → run 8 b r ≡ instruction r b
unfolding run instruction well_formed
demand_2 r b w h small =
    cycle_is r (b 0) (run 7 (later b)) Fetch (micro_start r w h)
    ∙ row_law r b small (and_left _ _ w) (decode_of (b 0)) refl

-- ---- a move's next byte: the opcode is held, and the byte that is answered for it isn't looked at
abbrev pub instead : ℕ → (ℕ → ℕ) → ℕ → ℕ
instead ir b zero = ir
instead ir b (suc k) = b (suc k)

module _ (r : Record) (b : ℕ → ℕ) (o : Operation) (w : well_formed r ≡ true) (h : r.held ≡ true) (c : r.tcu ≡ 0)
    (k : decode_of r.ir ≡ Some (Move, o)) (small : r.pc < 65536) where
  micro_again : micro_of r ≡ Held Opcode Step Keep On o
  unfolding micro_of
  micro_again = rw (w, h, k, c)

  again : (f : Record → Ran) → after (asked_by (Held Opcode Step Keep On o) r) (answered_by (Held Opcode Step Keep On o) r (b 0)) f
      ≡ also (O (K r b 0)) (f (under_way r.ir 1 r.pbr (regs_of r) (past (mid_of r))))
  again f = rw c

  -- Between a move's bytes likewise.
  pub between_bytes : run 8 b r ≡ row r (instead r.ir b) (Some (Move, o))
  unfolding run well_formed
  between_bytes =
      cycle_is r (b 0) (run 7 (later b)) (Held Opcode Step Keep On o) micro_again
      ∙ again (run 7 (later b))
      ∙ ap (also (O (K r b 0)))
      (run_walks 7 (later b) r.ir 0 r.pbr (regs_of r) (past (mid_of r)) Move o move (record { narrow = and_left _ _ w; list = refl }) k)
      ∙ shape_law r (instead r.ir b) small (and_left _ _ w) o Move (wide_of o r.flags.memsel r.flags.indexsel) (unaligned r.d) r.flags.emulation k
