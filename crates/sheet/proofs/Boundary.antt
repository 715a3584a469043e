-- A run stops where well-formedness sees an instruction's start or a place between a move's bytes: of every record that a cycle leads to,
-- `at_boundary` of the runs and `boundary` of the record say the same. They differ only where another opcode than a move's is held at
-- cycle 0, and no cycle leads there.
use Prim.Native.Nat.{ℕ, suc, ◌%◌}
use Rattle.opcodes.specs.declared.types.Shape.{Shape}
use Rattle.cpu.specs.declared.types.Refusal.{Refusal}
use Rattle.std.proofs.Common.{Option, Some, None, Result, Ok, Err}
use mathlib.Core.Path.{◌≡◌, refl, subst}
use mathlib.Core.Bool.{Bool, true, false, not, ◌&&◌}
use Rattle.words.specs.Words.{implied, same_page}
use Rattle.cpu.specs.Record.{is_move, boundary, mid_of, regs_of, under_way, ended, holds}
use Rattle.cpu.specs.declared.types.Record.{Record}
use Rattle.cpu.specs.declared.types.Regs.{Regs}
use Rattle.cpu.specs.declared.types.Mid.{Mid}
use Rattle.opcodes.specs.Opcodes.{decode_of, cond_in}
use Rattle.opcodes.specs.declared.types.Operation.{Operation}
use Rattle.cycles.specs.declared.types.To.{To}
use Rattle.cycles.specs.declared.types.To.TheVariants as to
use Rattle.cycles.specs.declared.types.Micro.{Micro}
use Rattle.cycles.specs.declared.types.Micro.TheVariants.{Refuse, Fetch, Held}
use Rattle.mid.specs.Mid.{past, target, last_byte, mid_after}
use Rattle.act.specs.Act.{regs_after, unless, moved_on, way_of, arrived}
use Rattle.act.specs.declared.types.Way.{Way}
use Rattle.act.specs.declared.types.Way.TheVariants.{On, End, Again}
use Rattle.step.specs.Cycle.{micro_of, begun, answered_by, answer_of}
use Rattle.sheet.specs.Run.{at_boundary}
use Rattle.sheet.proofs.Walk.{not_zero, and_right}
use Rattle.sheet.proofs.Moving.{is_move_lem}
use Rattle.sheet.proofs.Rows.{fine, silent, again, in_order, micro_in_order}

abbrev Same : Result Record Refusal → Type 0
Same (Ok s) = at_boundary s ≡ boundary s.held s.ir s.tcu
Same (Err n) = Unit

-- ---- under way it is neither; at an end both, where a move alone is held on
and_false : (t : Bool) → false ≡ (t && false)
and_false true = refl
and_false false = refl

same_under_way : (ir j pbr : ℕ) (g : Regs) (t : Mid) → Same (Ok (under_way ir (suc j) pbr g t))
same_under_way ir j pbr g t = rw (not_zero j) (and_false (is_move ir))

same_ended : (ir : ℕ) (on : Bool) (pbr pc s dbr : ℕ) (g : Regs) → implied on (is_move ir) ≡ true → Same (Ok (ended ir on pbr pc s dbr g))
unfolding ended
same_ended ir true pbr pc s dbr g h = rw h
same_ended ir false pbr pc s dbr g h = refl

-- ---- where a cycle leads: to the opcode again only from a move's
abbrev back : Way → Bool
back (On pbr) = false
back (End pbr) = false
back (Again pbr) = true

module _ (m : Bool) where
  either_way : (t : Bool) (pbr : ℕ) → implied (back (unless t pbr)) m ≡ true
  either_way true pbr = refl
  either_way false pbr = refl

  byte_back : (last : Bool) (pbr : ℕ) → m ≡ true → implied (back (moved_on last pbr)) m ≡ true
  byte_back true pbr h = refl
  byte_back false pbr h = h

  leads_back : (t : To) (o : Operation) (r : Record) (b : ℕ) → implied (again t) m ≡ true → implied (back (way_of t o r b)) m ≡ true
  leads_back to.On o r b h = refl
  leads_back to.End o r b h = refl
  leads_back to.EndByte o r b h = refl
  leads_back to.EndBank o r b h = refl
  leads_back to.Taken o r b h = either_way (holds (cond_in o) r.flags) r.pbr
  leads_back to.Crossed o r b h = either_way (not (same_page r.pc (target r))) r.pbr
  leads_back to.Moved o r b h = byte_back (last_byte r) r.pbr h

same_arrived : (w : Way) (ir tcu : ℕ) (g : Regs) (t : Mid) → implied (back w) (is_move ir) ≡ true → Same (Ok (arrived w ir tcu g t))
same_arrived (On pbr) ir tcu g t h = same_under_way ir (tcu % 8) pbr g t
same_arrived (End pbr) ir tcu g t h = same_ended ir false pbr t.pc t.s t.dbr g refl
same_arrived (Again pbr) ir tcu g t h = same_ended ir true pbr t.pc t.s t.dbr g h

same_begun : (o : Option (Shape × Operation)) (r : Record) (b : ℕ) → Same (begun o r b)
same_begun None r b = tt
same_begun (Some (s, o)) r b = same_under_way b 0 r.pbr (regs_of r) (past (mid_of r))

same_answered : (m : Micro) (r : Record) (b : ℕ) → in_order (decode_of r.ir) m ≡ true → Same (answered_by m r b)
same_answered (Refuse n) r b e = tt
same_answered Fetch r b e = same_begun (decode_of b) r b
same_answered (Held q m c t o) r b e =
    let h : implied (again t) (is_move r.ir) ≡ true = rw (is_move_lem r.ir) (and_right (fine t c && silent q m c t) _ e) in
    same_arrived (way_of t o r b) r.ir r.tcu (regs_after c o r b) (mid_after m o r b) (leads_back (is_move r.ir) t o r b h)

-- For any record that an answered cycle leads to, a run's boundary is the record's.
pub same_boundary : (r s : Record) (b : ℕ) → answer_of r b ≡ Ok s → at_boundary s ≡ boundary s.held s.ir s.tcu
unfolding answer_of
same_boundary r s b e = subst Same e (same_answered (micro_of r) r b (micro_in_order r))
