-- A walk along a shape's list is the sheet's row of that shape, whatever the operation.
use Prim.Native.Nat.{ℕ, ◌%◌, ◌<◌}
use Rattle.std.proofs.Common.{Some}
use native.Mathlib.Omega.{arith}
use mathlib.Core.Path.{◌≡◌, refl}
use mathlib.Core.Bool.{Bool, true, false, ◌&&◌}
use lib.Dec.{eqb, ltb}
use borrow.Author.Tests.{lt-ltb}
use Rattle.words.specs.Words.{pick, implied, low_of, word, low_set, inc, dec, up, displaced, same_page, index}
use Rattle.flags.specs.Flags.{set_mask}
use Rattle.flags.specs.declared.Flags.{Flags}
use Rattle.cpu.specs.Registers.{pulls, masks, directs, set_d}
use Rattle.cpu.specs.Record.{widths_set, index_small, narrowed, mid_of, regs_of, holds, pulled}
use Rattle.cpu.specs.declared.types.Record.{Record}
use Rattle.cpu.specs.declared.types.Regs.{Regs}
use Rattle.cpu.specs.declared.types.Reg.{Reg}
use Rattle.cpu.specs.declared.types.Reg.TheVariants.{A, X, Y}
use Rattle.cpu.specs.declared.types.Part.TheVariants.{Low}
use Rattle.cpu.specs.declared.types.Stack.TheVariants.{Raw}
use Rattle.opcodes.specs.Opcodes.{decode_of, reg_of, cond_in, flag_in}
use Rattle.opcodes.specs.declared.types.Operation.{Operation}
use Rattle.opcodes.specs.declared.types.Shape.{Shape}
use Rattle.opcodes.specs.declared.types.Shape.TheVariants.{Immediate, Absolute, Direct, StoreAbsolute, StoreDirect, Implied, Xba, Mask, Wdm, Push, Pull, PullP, PullB, PullD, Pea, Pei, Per, Jump, JumpLong, JumpIndirect, JumpIndirectLong, JumpIndexed, Call, CallIndexed, CallLong, Return, ReturnLong, Branch, BranchLong, Move}
use Rattle.cycles.specs.Cycles.{cycles_of, mask, pull_d}
use Rattle.mid.specs.Mid.{past, set_s}
use Rattle.sheet.specs.Run.{also, later}
use Rattle.sheet.specs.Sheet.{O, K, sheet}
use Rattle.sheet.proofs.Walk.{walk, run_walks, both_true, widths_of}

-- ---- steps there and back, and a word whose low byte was set first
back : (p : ℕ) → dec (inc (inc p)) ≡ inc p
unfolding inc dec
back p = omega arith

back_twice : (p : ℕ) → p < 65536 → dec (dec (inc (inc p))) ≡ p
unfolding inc dec
back_twice p h = omega arith

low_then_high : (w l h : ℕ) → word (low_set w l) h ≡ word l h
unfolding word low_set
low_then_high w l h = omega arith

-- ---- REP and SEP keep the record narrow
pub index_small_lem : (i : Bool) (x y : ℕ) → implied i (ltb (index i x) 256 && ltb (index i y) 256) ≡ true
unfolding index
index_small_lem true x y = both_true (ltb (x % 256) 256) (ltb (y % 256) 256) (lt-ltb (x % 256) 256 (omega arith)) (lt-ltb (y % 256) 256 (omega arith))
index_small_lem false x y = refl

widths_stay : (e m x m' x' : Bool) → implied e (m && x) ≡ true → implied e (pick e m m' && pick e x x') ≡ true
widths_stay true m x m' x' h = h
widths_stay false m x m' x' h = refl

pub masks_narrow : (to : Bool) (b : ℕ) (g : Regs) → narrowed g.flags g.x g.y ≡ true
    → let h : Regs = masks to b g in narrowed h.flags h.x h.y ≡ true
unfolding masks set_mask
masks_narrow to b g h =
    let f : Flags = set_mask g.flags b to in
    both_true (widths_set f) (index_small f (index f.indexsel g.x) (index f.indexsel g.y))
    (widths_stay g.flags.emulation g.flags.memsel g.flags.indexsel _ _ (widths_of g h)) (index_small_lem f.indexsel g.x g.y)

-- ---- a pulled low byte leaves the flags
pulls_flags : (g : Reg) (b : ℕ) (h : Regs) → (pulls g Low b h).flags ≡ h.flags
unfolding pulls
pulls_flags A b h = refl
pulls_flags X b h = refl
pulls_flags Y b h = refl

module _ (r : Record) (b : ℕ → ℕ) (small : r.pc < 65536) (narrow : narrowed r.flags r.x r.y ≡ true) (o : Operation) where
  abbrev Law : Shape → (w d e : Bool) → Type 0
  Law s w d e = also (O (K r b 0)) (walk o (cycles_of s w d e) (b 0) 7 (later b) 1 r.pbr (regs_of r) (past (mid_of r))) ≡ sheet r b s o w d e

  pub shape_law : (s : Shape) (w d e : Bool) → decode_of (b 0) ≡ Some (s, o) → Law s w d e
  unfolding walk directs
  shape_law Immediate true d e h = refl
  shape_law Immediate false d e h = refl
  shape_law Absolute true d e h = refl
  shape_law Absolute false d e h = refl
  shape_law Direct true true e h = rw (back r.pc)
  shape_law Direct true false e h = refl
  shape_law Direct false true e h = rw (back r.pc)
  shape_law Direct false false e h = refl
  shape_law StoreAbsolute true d e h = refl
  shape_law StoreAbsolute false d e h = refl
  shape_law StoreDirect true true e h = rw (back r.pc)
  shape_law StoreDirect true false e h = refl
  shape_law StoreDirect false true e h = rw (back r.pc)
  shape_law StoreDirect false false e h = refl
  shape_law Implied w d e h = refl
  shape_law Xba w d e h = refl
  shape_law Wdm w d e h = refl
  shape_law Push true d e h = refl
  shape_law Push false d e h = refl
  shape_law Pull true d e h = rw (pulls_flags (reg_of o) (b 3) (regs_of r))
  shape_law Pull false d e h = refl
  shape_law PullP w d e h = refl
  shape_law PullB w d e h = refl
  shape_law Pea w d e h = refl
  shape_law Pei w true e h = rw (back r.pc)
  shape_law Pei w false e h = refl
  shape_law Per w d e h = rw (back (inc r.pc))
  shape_law Jump w d e h = refl
  shape_law JumpLong w d e h = refl
  shape_law JumpIndirect w d e h = refl
  shape_law JumpIndirectLong w d e h = refl
  shape_law JumpIndexed w d e h = rw (back (inc r.pc))
  shape_law Call w d e h = refl
  shape_law CallIndexed w d e h = refl
  shape_law CallLong w d e h = refl
  shape_law Return w d e h = rw (low_then_high (inc r.pc) (b 3) (b 4))
  shape_law ReturnLong w d e h = rw (low_then_high (inc r.pc) (b 3) (b 4))
  shape_law BranchLong w d e h = refl
  shape_law Branch w d false h = go (holds (cond_in o) r.flags) refl
    where
      go : (t : Bool) → holds (cond_in o) r.flags ≡ t → Law Branch w d false
      go true e = rw e
      go false e = rw e
  shape_law Branch w d true h =
      go (holds (cond_in o) r.flags) (same_page (up r.pc 2) (displaced (up r.pc 2) (low_of (b 1)))) refl refl
    where
      go : (t p : Bool) → holds (cond_in o) r.flags ≡ t → same_page (up r.pc 2) (displaced (up r.pc 2) (low_of (b 1))) ≡ p → Law Branch w d true
      go true true e i = rw (e, i)
      go true false e i = rw (e, i)
      go false p e i = rw e
  shape_law Move w d e h = go (eqb (dec r.a) 0xFFFF) refl
    where
      go : (z : Bool) → eqb (dec r.a) 0xFFFF ≡ z → Law Move w d e
      go true i = rw i
      go false i = rw (i, back_twice r.pc small)
  -- REP, SEP and PLD change a width or D before their last cycle, which is looked up again
  shape_law Mask w d e h =
      rw (run_walks 6 (later (later b)) (b 0) 1 r.pbr (masks (flag_in o) (b 1) (regs_of r)) (past (past (mid_of r))) Mask o mask
      (record { narrow = masks_narrow (flag_in o) (b 1) (regs_of r) narrow; list = refl }) h)
  shape_law PullD w d e h =
      rw (
        run_walks 4 (later (later (later (later b)))) (b 0) 3 r.pbr (set_d (low_set r.d (b 3)) (regs_of r))
            (set_s (pulled Raw r.flags.emulation r.s) (past (mid_of r))) PullD o pull_d (record { narrow = narrow; list = refl }) h,
        low_then_high r.d (b 3) (b 4),
      )
