-- Well-formedness is kept: an accepted cycle gives a well-formed record. Only a well-formed one is accepted at all, so nothing is asked of it.
-- A record is made in two ways only, under way and ended.
use Prim.Native.Nat.{ℕ, ◌+◌, ◌/◌, ◌%◌}
use Rattle.opcodes.specs.declared.types.Shape.{Shape}
use Rattle.cpu.specs.declared.types.Refusal.{Refusal}
use Rattle.std.proofs.Common.{Option, Some, None, Result, Ok, Err}
use native.Mathlib.Omega.{arith}
use mathlib.Core.Path.{◌≡◌, refl, subst}
use mathlib.Core.Bool.{Bool, true, false, not, ◌&&◌, ◌||◌}
use lib.Dec.{eqb}
use borrow.Author.Tests.{eq-eqb}
use Rattle.words.specs.Words.{pick, implied, same_page, page_one}
use Rattle.cpu.specs.Record.{boundary, narrowed, well_formed, mid_of, regs_of, ended, holds}
use Rattle.cpu.specs.declared.types.Record.{Record}
use Rattle.cpu.specs.declared.types.Regs.{Regs}
use Rattle.cpu.specs.declared.types.Mid.{Mid}
use Rattle.cpu.specs.declared.types.Refusal.TheVariants.{Malformed}
use Rattle.opcodes.specs.Opcodes.{decode_of, cond_in, flag_in}
use Rattle.opcodes.specs.declared.types.Operation.{Operation}
use Rattle.opcodes.specs.declared.types.Operation.TheVariants.{Plain}
use Rattle.opcodes.specs.declared.types.Shape.TheVariants as shape
use Rattle.cycles.specs.Cycles.{wdm}
use Rattle.cpu.specs.declared.types.Part.TheVariants.{Only, Low, High}
use Rattle.cycles.specs.declared.types.Change.{Change}
use Rattle.cycles.specs.declared.types.Change.TheVariants.{Keep, Operate, Fill, Apply, Mask, Status, Sign, DirectLow, DirectHigh, MoveByte}
use Rattle.cycles.specs.declared.types.To.{To}
use Rattle.cycles.specs.declared.types.To.TheVariants as to
use Rattle.cycles.specs.declared.types.Micro.{Micro}
use Rattle.cycles.specs.declared.types.Micro.TheVariants.{Refuse, Fetch, Held}
use Rattle.mid.specs.Mid.{past, target, last_byte, mid_after}
use Rattle.act.specs.Act.{regs_after, unless, moved_on, way_of, arrived}
use Rattle.act.specs.declared.types.Way.{Way}
use Rattle.act.specs.declared.types.Way.TheVariants.{On, End, Again}
use Rattle.step.specs.Cycle.{micro_of, begun, answered_by, answer_of}
use Rattle.sheet.proofs.Walk.{well_under_way, and_left, both_true, false_true, steady, steady_fits}
use Rattle.sheet.proofs.Shapes.{masks_narrow, index_small_lem}
use Rattle.sheet.proofs.Rows.{calm, fine, silent, in_order, micro_in_order}

-- ---- what an end makes so
widths_set_lem : (e m x : Bool) → implied e ((e || m) && (e || x)) ≡ true
widths_set_lem true m x = refl
widths_set_lem false m x = refl

implied_by : (a c : Bool) → c ≡ true → implied a c ≡ true
implied_by true c h = h
implied_by false c h = refl

stack_home : (e : Bool) (s : ℕ) → implied e (eqb (page_one e s / 256) 1) ≡ true
unfolding page_one
stack_home true s = eq-eqb ((256 + s % 256) / 256) 1 (omega arith)
stack_home false s = refl

pub well_ended : (ir : ℕ) (again : Bool) (pbr pc s dbr : ℕ) (g : Regs) → well_formed (ended ir again pbr pc s dbr g) ≡ true
unfolding well_formed ended
well_ended ir again pbr pc s dbr g =
    both_true _ _
    (both_true _ _ (widths_set_lem g.flags.emulation g.flags.memsel g.flags.indexsel) (index_small_lem (g.flags.emulation || g.flags.indexsel) g.x g.y))
    (implied_by (boundary again (pick again ir 0) 0) _ (stack_home g.flags.emulation s))

-- the registers after a cycle, narrow where their index flag says so
abbrev NarrowAfter : Change → Operation → Record → ℕ → Type 0
NarrowAfter c o r b = let g : Regs = regs_after c o r b in narrowed g.flags g.x g.y ≡ true

steady_narrow : (c : Change) (o : Operation) (r : Record) (b : ℕ) → steady c ≡ true → narrowed r.flags r.x r.y ≡ true → NarrowAfter c o r b
steady_narrow c o r b e h = (steady_fits shape.Wdm Plain wdm c o r b e (record { narrow = h; list = refl })).narrow

calm_narrow : (c : Change) (o : Operation) (r : Record) (b : ℕ) → calm c ≡ true → narrowed r.flags r.x r.y ≡ true → NarrowAfter c o r b
calm_narrow Keep o r b e h = h
calm_narrow (Operate Low) o r b e h = steady_narrow (Operate Low) o r b refl h
calm_narrow (Fill Low) o r b e h = steady_narrow (Fill Low) o r b refl h
calm_narrow Mask o r b e h = masks_narrow (flag_in o) b (regs_of r) h
calm_narrow DirectLow o r b e h = h
calm_narrow (Operate Only) o r b e h = absurd (false_true e)
calm_narrow (Operate High) o r b e h = absurd (false_true e)
calm_narrow (Fill Only) o r b e h = absurd (false_true e)
calm_narrow (Fill High) o r b e h = absurd (false_true e)
calm_narrow Apply o r b e h = absurd (false_true e)
calm_narrow Status o r b e h = absurd (false_true e)
calm_narrow Sign o r b e h = absurd (false_true e)
calm_narrow DirectHigh o r b e h = absurd (false_true e)
calm_narrow MoveByte o r b e h = absurd (false_true e)

-- ---- where it leads
abbrev leads : Way → Change → Bool
leads (On pbr) c = calm c
leads (End pbr) c = true
leads (Again pbr) c = true

either_way : (t : Bool) (pbr : ℕ) (c : Change) → calm c ≡ true → leads (unless t pbr) c ≡ true
either_way true pbr c h = h
either_way false pbr c h = refl

byte_ends : (last : Bool) (pbr : ℕ) (c : Change) → leads (moved_on last pbr) c ≡ true
byte_ends true pbr c = refl
byte_ends false pbr c = refl

fine_leads : (t : To) (c : Change) (o : Operation) (r : Record) (b : ℕ) → fine t c ≡ true → leads (way_of t o r b) c ≡ true
fine_leads to.On c o r b h = h
fine_leads to.End c o r b h = refl
fine_leads to.EndByte c o r b h = refl
fine_leads to.EndBank c o r b h = refl
fine_leads to.Taken c o r b h = either_way (holds (cond_in o) r.flags) r.pbr c h
fine_leads to.Crossed c o r b h = either_way (not (same_page r.pc (target r))) r.pbr c h
fine_leads to.Moved c o r b h = byte_ends (last_byte r) r.pbr c

well_arrived : (w : Way) (c : Change) (o : Operation) (r : Record) (b : ℕ) (t : Mid) → leads w c ≡ true → narrowed r.flags r.x r.y ≡ true
    → well_formed (arrived w r.ir r.tcu (regs_after c o r b) t) ≡ true
well_arrived (On pbr) c o r b t e h = well_under_way r.ir (r.tcu % 8) pbr (regs_after c o r b) t (calm_narrow c o r b e h)
well_arrived (End pbr) c o r b t e h = well_ended r.ir false pbr t.pc t.s t.dbr (regs_after c o r b)
well_arrived (Again pbr) c o r b t e h = well_ended r.ir true pbr t.pc t.s t.dbr (regs_after c o r b)

abbrev Well : Result Record Refusal → Type 0
Well (Ok s) = well_formed s ≡ true
Well (Err n) = Unit

well_begun : (o : Option (Shape × Operation)) (r : Record) (b : ℕ) → narrowed r.flags r.x r.y ≡ true → Well (begun o r b)
well_begun None r b h = tt
well_begun (Some (s, o)) r b h = well_under_way b 0 r.pbr (regs_of r) (past (mid_of r)) h

well_answered : (k : Option (Shape × Operation)) (m : Micro) (r : Record) (b : ℕ) → in_order k m ≡ true → narrowed r.flags r.x r.y ≡ true → Well (answered_by m r b)
well_answered k (Refuse n) r b e h = tt
well_answered k Fetch r b e h = well_begun (decode_of b) r b h
well_answered k (Held q m c t o) r b e h =
    let f : (fine t c && silent q m c t) ≡ true = and_left _ _ e in
    well_arrived (way_of t o r b) c o r b (mid_after m o r b) (fine_leads t c o r b (and_left (fine t c) (silent q m c t) f)) h

-- a record that isn't well formed is refused
well_before : (r s : Record) (b : ℕ) → answer_of r b ≡ Ok s → well_formed r ≡ true
unfolding answer_of micro_of
well_before r s b e = go (well_formed r) refl
  where
    go : (w : Bool) → well_formed r ≡ w → w ≡ true
    go true i = refl
    go false i = let z : Err Malformed ≡ Ok s = rw i at e in cc

-- A record reached by an answered cycle is well formed, from whatever record.
pub kept : (r s : Record) (b : ℕ) → answer_of r b ≡ Ok s → well_formed s ≡ true
unfolding answer_of well_formed
kept r s b e = subst Well e (well_answered (decode_of r.ir) (micro_of r) r b (micro_in_order r) (and_left _ _ (well_before r s b e)))
