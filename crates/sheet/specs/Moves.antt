-- MVN and MVP from the first byte to the last: byte after byte, as long as the opcode is held.
-- `b i k` is the byte that is answered in cycle k of the move's byte i.
use Rattle.std.specs.Prelude.{ℕ, zero, suc, Bool, false, List, [], ◌++◌, Result, Ok, Err}
use Rattle.cpu.specs.declared.types.Refusal.{Refusal}
use Rattle.words.specs.Words.{pick, up, index}
use Rattle.cpu.specs.Registers.{stepped}
use Rattle.cpu.specs.declared.types.Record.{Record}
use Rattle.cpu.specs.declared.types.Request.{Request}
use Rattle.opcodes.specs.declared.types.Operation.TheVariants.{Flag}
use Rattle.opcodes.specs.declared.types.Shape.TheVariants.{Move}
use Rattle.sheet.specs.Run.{Ran, run}
use Rattle.sheet.specs.Sheet.{sheet}

-- ---- byte after byte, cycle by cycle

-- these requests, then those of another run from the record after them where that is between a move's bytes
abbrev pub go_on : List Request → Result Record Refusal → (Record → Ran) → Ran
go_on q (Err n) f = record { requests = q; out = Err n }
go_on q (Ok r) f = pick r.held (record { requests = q ++ (f r).requests; out = (f r).out }) (record { requests = q; out = Ok r })

-- the bytes from the second on
abbrev pub others : (ℕ → ℕ → ℕ) → ℕ → ℕ → ℕ
others b i = b (suc i)

-- at most n bytes
unfoldable pub run_move : ℕ → (ℕ → ℕ → ℕ) → Record → Ran
run_move zero b r = record { requests = []; out = Ok r }
run_move (suc n) b r = go_on (run 8 (b 0) r).requests (run 8 (b 0) r).out (run_move n (others b))

-- ---- the whole move that starts at r

-- an index register after i bytes: up or down, and its high byte 0 where the index flag is set
abbrev pub index_after : (ups narrow : Bool) → ℕ → (i : ℕ) → ℕ
index_after ups narrow v zero = v
index_after ups narrow v (suc i) = index narrow (stepped ups (index_after ups narrow v i))

-- the record after it: A is FFFF and PC past the operand; X, Y and DBR are told; all else is as at the start
abbrev pub moved : Record → (x y dbr : ℕ) → Record
moved r x y dbr = record {
  a = 0xFFFF;
  x = x;
  y = y;
  s = r.s;
  d = r.d;
  pc = up r.pc 3;
  pbr = r.pbr;
  dbr = dbr;
  flags = r.flags;
  held = false;
  ir = 0;
  tcu = 0;
  tempaddr = 0;
  tempdata = 0;
  tempbank = 0;
}

abbrev pub x_after : Record → (ups : Bool) → (i : ℕ) → ℕ
x_after r ups i = index_after ups r.flags.indexsel r.x i

abbrev pub y_after : Record → (ups : Bool) → (i : ℕ) → ℕ
y_after r ups i = index_after ups r.flags.indexsel r.y i

-- the record with other index registers: all of it that a move's next byte asks otherwise
abbrev pub reindexed : Record → (x y : ℕ) → Record
reindexed r x y = record {
  a = r.a;
  x = x;
  y = y;
  s = r.s;
  d = r.d;
  pc = r.pc;
  pbr = r.pbr;
  dbr = r.dbr;
  flags = r.flags;
  held = r.held;
  ir = r.ir;
  tcu = r.tcu;
  tempaddr = r.tempaddr;
  tempdata = r.tempdata;
  tempbank = r.tempbank;
}

module _ (r : Record) (ups : Bool) (b : ℕ → ℕ → ℕ) where
  -- byte i's seven cycles, by the sheet's row; what is answered to the opcode read again isn't looked at
  abbrev pub seven : ℕ → List Request
  seven i = (sheet (reindexed r (x_after r ups i) (y_after r ups i)) (b i) Move (Flag ups) false false false).requests

  -- those of n bytes from byte i on
  abbrev pub sevens : (i n : ℕ) → List Request
  sevens i zero = []
  sevens i (suc n) = seven i ++ sevens (suc i) n

  -- A + 1 bytes, A being 16 bits at either width; DBR becomes the last byte's destination bank
  unfoldable pub whole_move : Ran
  whole_move = record { requests = sevens 0 (suc r.a); out = Ok (moved r (x_after r ups (suc r.a)) (y_after r ups (suc r.a)) (b r.a 1)) }
