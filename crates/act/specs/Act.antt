-- What a cycle makes of the answered byte: the registers; where it leads; then, with what crate mid does to PC, S, DBR and the scratch words, the record.
use Rattle.std.specs.Prelude.{ℕ, suc, ◌%◌, Bool, true, false, not}
use Rattle.words.specs.Words.{word, low_set, same_page}
use Rattle.cpu.specs.Registers.{operates, pulls, directs, masks, moves, set_d, set_flags, applied}
use Rattle.cpu.specs.Record.{regs_of, under_way, ended, holds}
use Rattle.flags.specs.Flags.{set_byte, set_nz}
use Rattle.cpu.specs.declared.types.Record.{Record}
use Rattle.cpu.specs.declared.types.Mid.{Mid}
use Rattle.cpu.specs.declared.types.Regs.{Regs}
use Rattle.opcodes.specs.Opcodes.{alu_of, reg_of, one_in, cond_in, flag_in}
use Rattle.opcodes.specs.declared.types.Operation.{Operation}
use Rattle.cycles.specs.declared.types.Move.{Move}
use Rattle.cycles.specs.declared.types.Change.{Change}
use Rattle.cycles.specs.declared.types.Change.TheVariants.{Keep, Operate, Fill, Apply, Mask, Status, Sign, DirectLow, DirectHigh, MoveByte}
use Rattle.cycles.specs.declared.types.To.{To}
use Rattle.cycles.specs.declared.types.To.TheVariants as to
use Rattle.mid.specs.Mid.{target, last_byte, mid_after}
use Rattle.act.specs.declared.types.Way.{Way}
use Rattle.act.specs.declared.types.Way.TheVariants.{On, End, Again}

-- ---- the registers
abbrev pub regs_after : Change → Operation → Record → ℕ → Regs
regs_after Keep o r b = regs_of r
regs_after (Operate p) o r b = operates (alu_of o) (reg_of o) p b (regs_of r)
regs_after (Fill p) o r b = pulls (reg_of o) p b (regs_of r)
regs_after Apply o r b = applied (one_in o) r.s (regs_of r)
regs_after Mask o r b = masks (flag_in o) b (regs_of r)
regs_after Status o r b = set_flags (set_byte r.flags b) (regs_of r)
regs_after Sign o r b = set_flags (set_nz r.flags b false) (regs_of r)
regs_after DirectLow o r b = set_d (low_set r.d b) (regs_of r)
regs_after DirectHigh o r b = directs (word r.d b) (regs_of r)
regs_after MoveByte o r b = moves (flag_in o) (regs_of r)

-- ---- where it leads: a branch goes on if it is taken, then if it leads to another page; a move ends with its last byte
abbrev pub unless : Bool → ℕ → Way
unless true pbr = On pbr
unless false pbr = End pbr

abbrev pub moved_on : (last : Bool) → ℕ → Way
moved_on true pbr = End pbr
moved_on false pbr = Again pbr

abbrev pub way_of : To → Operation → Record → ℕ → Way
way_of to.On o r b = On r.pbr
way_of to.End o r b = End r.pbr
way_of to.EndByte o r b = End b
way_of to.EndBank o r b = End r.tempbank
way_of to.Taken o r b = unless (holds (cond_in o) r.flags) r.pbr
way_of to.Crossed o r b = unless (not (same_page r.pc (target r))) r.pbr
way_of to.Moved o r b = moved_on (last_byte r) r.pbr

-- ---- the record after it

-- the cycle after: one that exists is below 8, so the remainder changes nothing
abbrev pub next_cycle : ℕ → ℕ
next_cycle c = suc (c % 8)

abbrev pub arrived : Way → (ir tcu : ℕ) → Regs → Mid → Record
arrived (On pbr) ir tcu g t = under_way ir (next_cycle tcu) pbr g t
arrived (End pbr) ir tcu g t = ended ir false pbr t.pc t.s t.dbr g
arrived (Again pbr) ir tcu g t = ended ir true pbr t.pc t.s t.dbr g

abbrev pub act_of : Move → Change → To → Operation → Record → ℕ → Record
act_of m c t o r b = arrived (way_of t o r b) r.ir r.tcu (regs_after c o r b) (mid_after m o r b)
