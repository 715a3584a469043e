-- Whole instructions at a time: what a quick one comes to over a memory of 65,536 bytes, from a record in bank 0 at an instruction's start. Laws beside the proofs say that its cycles come to the same, one after the other.
use Rattle.std.specs.Prelude.{ℕ, ◌+◌, Bool, true, false, not, ◌&&◌, List, eqb, ltb, length, get_or, set, Option, Some, None}
use Rattle.words.specs.Words.{pick, bit, low_of, high_of, word, inc, up, sum16, displaced, same_page}
use Rattle.alu.specs.declared.types.Alu.{Alu}
use Rattle.cpu.specs.Registers.{applied, stack_of, wide_reg}
use Rattle.cpu.specs.Record.{regs_of, ended, source_of, wide_source}
use Rattle.cpu.specs.declared.types.Record.{Record}
use Rattle.cpu.specs.declared.types.Regs.{Regs}
use Rattle.cpu.specs.declared.types.Reg.{Reg}
use Rattle.brisk.specs.Brisk.{effected}
use Rattle.quick.specs.Quick.{quick_of, goes}
use Rattle.quick.specs.declared.types.Mode.{Mode}
use Rattle.quick.specs.declared.types.Mode.TheVariants.{Immediate, Direct, Absolute}
use Rattle.quick.specs.declared.types.Quick.{Quick}
use Rattle.quick.specs.declared.types.Quick.TheVariants.{Slow, Read, Store, Do, If, Jump}
use Rattle.cycles.specs.Cycles.{unaligned}
use Rattle.stride.specs.declared.types.Leg.{Leg}
use Rattle.stride.specs.declared.types.Spot.{Spot}
use Rattle.stride.specs.declared.types.Stretch.{Stretch}

-- where whole instructions start: in bank 0, nothing held and nothing left of what was
abbrev pub fresh : Record → Bool
fresh r = (eqb r.pbr 0 && not r.held) && (eqb r.ir 0 && eqb r.tcu 0)

-- what such a record has anyway: nothing held, no scratch words, bank 0
abbrev pub cleared_of : Record → Record
cleared_of r =
    record {
      a = r.a;
      x = r.x;
      y = r.y;
      s = r.s;
      d = r.d;
      pc = r.pc;
      pbr = 0;
      dbr = r.dbr;
      flags = r.flags;
      held = false;
      ir = 0;
      tcu = 0;
      tempaddr = 0;
      tempdata = 0;
      tempbank = 0;
    }

abbrev pub spot : (place cycles pc : ℕ) → Spot
spot p n q = record { place = p; cycles = n; pc = q }

abbrev pub leg : (cycles pc s dbr : ℕ) → Regs → Leg
leg n p s b g = record { cycles = n; pc = p; s = s; dbr = b; regs = g }

-- a leg that changes no register
abbrev pub kept : (cycles pc : ℕ) → Record → Leg
kept n p r = leg n p r.s r.dbr (regs_of r)

-- a value at a place, and the byte after
abbrev pub placed : (wide : Bool) → (place v : ℕ) → List ℕ → List ℕ
placed true p v m = set (set m p (low_of v)) (inc p) (high_of v)
placed false p v m = set m p (low_of v)

module _ (r : Record) (m : List ℕ) where
  abbrev pub there : ℕ → ℕ
  there p = get_or m p 0

  abbrev pub word_there : ℕ → ℕ
  word_there p = word (there p) (there (inc p))

  abbrev pub opcode : ℕ
  opcode = there r.pc

  -- the operand of two bytes
  abbrev pub operand : ℕ
  operand = word_there (up r.pc 1)

  -- an operand in the data bank that lies inside the memory, both of its bytes
  abbrev pub inside : ℕ → Bool
  inside p = eqb r.dbr 0 && ltb p 65535

  abbrev pub immediate_spot : (wide : Bool) → Spot
  immediate_spot w = spot (up r.pc 1) (2 + bit w) (pick w (up r.pc 3) (up r.pc 2))

  abbrev pub direct_spot : (wide : Bool) → Spot
  direct_spot w = spot (sum16 r.d (there (up r.pc 1))) (3 + bit w + bit (unaligned r.d)) (up r.pc 2)

  abbrev pub absolute_spot : (wide : Bool) → Spot
  absolute_spot w = spot operand (4 + bit w) (up r.pc 3)

  -- none where the operand lies outside
  abbrev pub spot_of : Mode → (wide : Bool) → Option Spot
  spot_of Immediate w = Some (immediate_spot w)
  spot_of Direct w = Some (direct_spot w)
  spot_of Absolute w = pick (inside operand) (Some (absolute_spot w)) None

  abbrev pub reading : Spot → Alu → Reg → (wide : Bool) → Leg
  reading t k g w = leg t.cycles t.pc r.s r.dbr (effected k g w (there t.place) (there (inc t.place)) (regs_of r))

  abbrev pub storing : Spot → Leg
  storing t = kept t.cycles t.pc r

  abbrev pub branching : (taken : Bool) → Leg
  branching taken =
      let past : ℕ = up r.pc 2 in
      let to : ℕ = displaced past (low_of (there (up r.pc 1))) in
      kept (pick taken (3 + bit (r.flags.emulation && not (same_page past to))) 2) (pick taken to past) r

  -- where there is a spot
  abbrev pub read_at : Option Spot → Alu → Reg → (wide : Bool) → Option Leg
  read_at None k g w = None
  read_at (Some t) k g w = Some (reading t k g w)

  abbrev pub stored_at : Option Spot → Option Leg
  stored_at None = None
  stored_at (Some t) = Some (storing t)

  -- none where the instruction isn't a quick one, or leaves the memory
  abbrev pub leg_by : Quick → Option Leg
  leg_by Slow = None
  leg_by (Read mode k g) = let w : Bool = wide_reg g r.flags.memsel r.flags.indexsel in read_at (spot_of mode w) k g w
  leg_by (Store mode o) = stored_at (spot_of mode (wide_source o r.flags.memsel r.flags.indexsel))
  leg_by (Do k) = Some (leg 2 (up r.pc 1) (stack_of k r.s (regs_of r)) r.dbr (applied k r.s (regs_of r)))
  leg_by (If k want) = Some (branching (goes k want r.flags))
  leg_by Jump = Some (kept 3 operand r)

  abbrev pub leg_of : Option Leg
  leg_of = leg_by (quick_of opcode)

  -- the memory after it
  abbrev pub mem_at : Option Spot → (wide : Bool) → (v : ℕ) → List ℕ
  mem_at None w v = m
  mem_at (Some t) w v = placed w t.place v m

  abbrev pub mem_by : Quick → List ℕ
  mem_by Slow = m
  mem_by (Read mode k g) = m
  mem_by (Store mode o) =
      let w : Bool = wide_source o r.flags.memsel r.flags.indexsel in
      mem_at (spot_of mode w) w (source_of o (regs_of r) r.pbr r.dbr)
  mem_by (Do k) = m
  mem_by (If k want) = m
  mem_by Jump = m

  abbrev pub mem_of : List ℕ
  mem_of = mem_by (quick_of opcode)

-- the record after a leg
abbrev pub arrived : (ir : ℕ) → Leg → Record
arrived ir l = ended ir false 0 l.pc l.s l.dbr l.regs

-- ---- a stretch of whole instructions
abbrev pub stretch : (cycles : ℕ) → Record → Stretch
stretch n r = record { cycles = n; after = r }

-- ---- what the entry answers; without a memory of 65,536 bytes nothing is done
abbrev pub whole : List ℕ → Bool
whole m = eqb (length m) 65536

abbrev pub strode_by : Record → (op : ℕ) → Option Leg → Stretch
strode_by r op None = stretch 0 r
strode_by r op (Some l) = stretch l.cycles (arrived op l)

unfoldable pub stride_of : Record → List ℕ → Stretch
stride_of r m = pick (whole m) (strode_by r (opcode r m) (leg_of r m)) (stretch 0 r)

unfoldable pub stride_mem : Record → List ℕ → List ℕ
stride_mem r m = pick (whole m) (mem_of r m) m
