-- The record: well-formed ones, and the two ways in which a cycle makes a new one.
use Rattle.std.specs.Prelude.{ℕ, ◌/◌, Bool, true, false, not, ◌&&◌, ◌||◌, Option, Some, None, eqb, ltb}
use Rattle.words.specs.Words.{pick, implied, inc, dec, page_one, index}
use Rattle.flags.specs.Flags.{byte_of, settled}
use Rattle.flags.specs.declared.Flags.{Flags}
use Rattle.cpu.specs.Registers.{get, wide_reg}
use Rattle.cpu.specs.declared.types.Record.{Record}
use Rattle.cpu.specs.declared.types.Mid.{Mid}
use Rattle.cpu.specs.declared.types.Regs.{Regs}
use Rattle.cpu.specs.declared.types.Source.{Source}
use Rattle.cpu.specs.declared.types.Source.TheVariants as of
use Rattle.cpu.specs.declared.types.Stack.{Stack}
use Rattle.cpu.specs.declared.types.Stack.TheVariants.{Paged, Raw, Home}
use Rattle.cpu.specs.declared.types.Cond.{Cond}
use Rattle.cpu.specs.declared.types.Cond.TheVariants as if
use Rattle.cpu.specs.declared.types.Kind.{Kind}
use Rattle.cpu.specs.declared.types.Kind.TheVariants as kind
use Rattle.cpu.specs.declared.types.Refusal.{Refusal}
use Rattle.cpu.specs.declared.types.Refusal.TheVariants.{Memory, Budget, Room, Malformed, Unlisted, NoCycle, Bank}

-- document 01's numbers of the refusals
abbrev pub number_of : Refusal → ℕ
number_of Memory = 1
number_of Budget = 2
number_of Room = 3
number_of Malformed = 4
number_of Unlisted = 5
number_of NoCycle = 6
number_of Bank = 7

-- 0 where nothing is refused
abbrev pub number_in : Option Refusal → ℕ
number_in None = 0
number_in (Some n) = number_of n

-- the kinds in document 01's order
abbrev pub kind_number : Kind → ℕ
kind_number kind.Opcode = 0
kind_number kind.Program = 1
kind_number kind.Data = 2
kind_number kind.Invalid = 3

-- ---- well-formed records

-- MVN is 54, MVP 44
abbrev pub is_move : ℕ → Bool
is_move op = eqb op 0x54 || eqb op 0x44

-- at an instruction's start, or between a move's bytes
abbrev pub boundary : (held : Bool) → (ir tcu : ℕ) → Bool
boundary held ir tcu = implied held (is_move ir && eqb tcu 0)

-- in emulation both width flags are set; with the index flag set the high bytes of X and Y are 0
abbrev pub widths_set : Flags → Bool
widths_set f = implied f.emulation (f.memsel && f.indexsel)

abbrev pub index_small : Flags → (x y : ℕ) → Bool
index_small f x y = implied f.indexsel (ltb x 256 && ltb y 256)

abbrev pub narrowed : Flags → (x y : ℕ) → Bool
narrowed f x y = widths_set f && index_small f x y

-- the scratch words are 0, and in emulation the high byte of S is 1
abbrev pub clean : (e : Bool) → (s addr dat bank : ℕ) → Bool
clean e s addr dat bank = (eqb addr 0 && (eqb dat 0 && eqb bank 0)) && implied e (eqb (s / 256) 1)

unfoldable pub well_formed : Record → Bool
well_formed r =
    narrowed r.flags r.x r.y
    && implied (boundary r.held r.ir r.tcu) (clean r.flags.emulation r.s r.tempaddr r.tempdata r.tempbank)

-- ---- a record's parts, and the records made of them
abbrev pub mid_of : Record → Mid
mid_of r = record { pc = r.pc; s = r.s; dbr = r.dbr; tempaddr = r.tempaddr; tempdata = r.tempdata; tempbank = r.tempbank }

abbrev pub regs_of : Record → Regs
regs_of r = record { a = r.a; x = r.x; y = r.y; d = r.d; flags = r.flags }

-- under way: the opcode ir is held and its cycle tcu comes next
abbrev pub under_way : (ir tcu pbr : ℕ) → Regs → Mid → Record
under_way ir tcu pbr g t = record {
  a = g.a;
  x = g.x;
  y = g.y;
  s = t.s;
  d = g.d;
  pc = t.pc;
  pbr = pbr;
  dbr = t.dbr;
  flags = g.flags;
  held = true;
  ir = ir;
  tcu = tcu;
  tempaddr = t.tempaddr;
  tempdata = t.tempdata;
  tempbank = t.tempbank;
}

-- an instruction's end or, if again, that of a move's byte: the scratch words are cleared, and what emulation and the
-- index flag ask of the flags, of X and Y and of S is made so
unfoldable pub ended : (ir : ℕ) → (again : Bool) → (pbr pc s dbr : ℕ) → Regs → Record
ended ir again pbr pc s dbr g =
    let f : Flags = settled g.flags in record {
      a = g.a;
      x = index f.indexsel g.x;
      y = index f.indexsel g.y;
      s = page_one f.emulation s;
      d = g.d;
      pc = pc;
      pbr = pbr;
      dbr = dbr;
      flags = f;
      held = again;
      ir = pick again ir 0;
      tcu = 0;
      tempaddr = 0;
      tempdata = 0;
      tempbank = 0;
    }

-- ---- the stack pointer after a push that stays in page 1, after a pull in the crate's two forms, and after RTL's first; a raw push is one step down
unfoldable pub pushed : (e : Bool) → ℕ → ℕ
pushed e s = page_one e (dec s)

unfoldable pub pulled : Stack → (e : Bool) → ℕ → ℕ
pulled Paged e s = page_one e (inc s)
pulled Raw e s = inc s
pulled Home e s = inc (page_one e s)

-- ---- what is stored or pushed, and whether it is 16 bits wide
abbrev pub source_of : Source → Regs → (pbr dbr : ℕ) → ℕ
source_of (of.Register r) g pbr dbr = get r g
source_of of.Zero g pbr dbr = 0
source_of of.D g pbr dbr = g.d
source_of of.P g pbr dbr = byte_of g.flags
source_of of.Pbr g pbr dbr = pbr
source_of of.Dbr g pbr dbr = dbr

abbrev pub wide_source : Source → (m x : Bool) → Bool
wide_source (of.Register r) m x = wide_reg r m x
wide_source of.Zero m x = not m
wide_source of.D m x = true
wide_source of.P m x = false
wide_source of.Pbr m x = false
wide_source of.Dbr m x = false

-- ---- whether a branch is taken
abbrev pub same : Bool → Bool → Bool
same true b = b
same false b = not b

abbrev pub holds : Cond → Flags → Bool
holds if.Always f = true
holds (if.Carry t) f = same t f.carry
holds (if.Zero t) f = same t f.zero
holds (if.Negative t) f = same t f.negative
holds (if.Overflow t) f = same t f.overflow
