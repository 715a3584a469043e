-- A figure: a row that names a start, the bytes that the bus answers cycle by cycle, then what must be seen: registers and flags after the
-- instruction, how many cycles it took, what it asked of the bus.
use Rattle.std.specs.Prelude.{ℕ, ◌+◌, Bool, false, not, ◌&&◌, List, [], ◌∷◌, ◌++◌, map, eqb, length, get_or, Result, Ok, Err}
use Rattle.cpu.specs.declared.types.Refusal as why
use Rattle.words.specs.Words.{pick, bit}
use Rattle.cpu.specs.Record.{number_of}
use Rattle.cpu.specs.declared.types.Record.{Record}
use Rattle.cpu.specs.declared.types.Request.{Request}
use Rattle.sheet.specs.Run.{Ran, run}

infix 70 ◌is◌
-- ---- what a row can name

-- the registers, DP being the direct register; the flags by their letters in the status register, d being decimal, and e for
-- emulation; whether an opcode is held, which one, and its next cycle; the scratch words; the number of cycles; wraps up, each an
-- ADC # that ended with carry set, and wraps down, each an SBC # that ended with carry clear; the refusal's number, which is seen in
-- place of whatever a row says where it came to a refusal
pub data Name : Type 0 where
  A X Y S DP PC PBR DBR : Name
  n v m x d i z c e : Name
  Held IR TCU Address Data Bank : Name
  Cycles Ups Downs Refusal : Name

-- a name and its value, a flag's being 0 or 1; or all that was asked of the bus, in order: O an opcode, P a program byte,
-- D data, I an internal cycle, W a byte written
pub data Told : Type 0 where
  ◌is◌ : Name → ℕ → Told
  Asks : List Request → Told

pub record Figure : Type 0 where
  pub start : Record
  pub answers : List (List ℕ)
  pub says : List Told

-- ---- a start: what isn't told is 0, but S is 01FF and PC is 8000; of what is told twice the first counts
abbrev pub place_of : Name → ℕ
place_of A = 0
place_of X = 1
place_of Y = 2
place_of S = 3
place_of DP = 4
place_of PC = 5
place_of PBR = 6
place_of DBR = 7
place_of n = 8
place_of v = 9
place_of m = 10
place_of x = 11
place_of d = 12
place_of i = 13
place_of z = 14
place_of c = 15
place_of e = 16
place_of Held = 17
place_of IR = 18
place_of TCU = 19
place_of Address = 20
place_of Data = 21
place_of Bank = 22
place_of Cycles = 23
place_of Ups = 24
place_of Downs = 25
place_of Refusal = 26

abbrev pub told : Name → (other : ℕ) → List Told → ℕ
told k other [] = other
told k other ((j is w) ∷ l) = pick (eqb (place_of j) (place_of k)) w (told k other l)
told k other (Asks q ∷ l) = told k other l

abbrev pub raised : Name → List Told → Bool
raised k l = eqb (told k 0 l) 1

abbrev pub start : List Told → Record
start l = record {
  a = told A 0 l;
  x = told X 0 l;
  y = told Y 0 l;
  s = told S 0x01FF l;
  d = told DP 0 l;
  pc = told PC 0x8000 l;
  pbr = told PBR 0 l;
  dbr = told DBR 0 l;
  flags = record {
    carry = raised c l;
    zero = raised z l;
    interruptdisable = raised i l;
    decimal = raised d l;
    indexsel = raised x l;
    memsel = raised m l;
    overflow = raised v l;
    negative = raised n l;
    emulation = raised e l;
  };
  held = raised Held l;
  ir = told IR 0 l;
  tcu = told TCU 0 l;
  tempaddr = told Address 0 l;
  tempdata = told Data 0 l;
  tempbank = told Bank 0 l;
}

-- m: the accumulator is 8 bits wide; x: the index registers are
abbrev pub emulation : List Told → Record
emulation l = start (e is 1 ∷ m is 1 ∷ x is 1 ∷ l)

abbrev pub native8 : List Told → Record
native8 l = start (m is 1 ∷ x is 1 ∷ l)

abbrev pub native16 : List Told → Record
native16 l = start l

-- one wide, the other not
abbrev pub wide_a : List Told → Record
wide_a l = start (x is 1 ∷ l)

abbrev pub wide_index : List Told → Record
wide_index l = start (m is 1 ∷ l)

-- ---- a row's instructions, one after the other, on a machine: the sheet's table, or cycle after cycle
abbrev pub Machine : Type 0
Machine = Record → (ℕ → ℕ) → Ran

abbrev pub cycle_after_cycle : Machine
cycle_after_cycle r b = run 8 b r

pub record Seen : Type 0 where
  pub asked : List Request
  pub out : Result Record why.Refusal
  pub ups : ℕ
  pub downs : ℕ

abbrev pub carry_after : Result Record why.Refusal → Bool
carry_after (Ok r) = r.flags.carry
carry_after (Err k) = false

abbrev pub joined : (opcode : ℕ) → Seen → Ran → Seen
joined opcode t u = record {
  asked = t.asked ++ u.requests;
  out = u.out;
  ups = t.ups + bit (eqb opcode 0x69 && carry_after u.out);
  downs = t.downs + bit (eqb opcode 0xE9 && not (carry_after u.out));
}

-- a byte that a row doesn't name is 0
abbrev pub bytes : List ℕ → ℕ → ℕ
bytes l k = get_or l k 0

abbrev pub further : Machine → List ℕ → Seen → Result Record why.Refusal → Seen
further via b t (Ok r) = joined (bytes b 0) t (via r (bytes b))
further via b t (Err k) = t

abbrev pub follow : Machine → List (List ℕ) → Seen → Seen
follow via [] t = t
follow via (b ∷ bs) t = follow via bs (further via b t t.out)

abbrev pub runs : Machine → Figure → Seen
runs via f = follow via f.answers (record { asked = []; out = Ok f.start; ups = 0; downs = 0 })

-- ---- what is seen of each thing that a row says
abbrev pub value_of : Name → Seen → Record → ℕ
value_of A t r = r.a
value_of X t r = r.x
value_of Y t r = r.y
value_of S t r = r.s
value_of DP t r = r.d
value_of PC t r = r.pc
value_of PBR t r = r.pbr
value_of DBR t r = r.dbr
value_of n t r = bit r.flags.negative
value_of v t r = bit r.flags.overflow
value_of m t r = bit r.flags.memsel
value_of x t r = bit r.flags.indexsel
value_of d t r = bit r.flags.decimal
value_of i t r = bit r.flags.interruptdisable
value_of z t r = bit r.flags.zero
value_of c t r = bit r.flags.carry
value_of e t r = bit r.flags.emulation
value_of Held t r = bit r.held
value_of IR t r = r.ir
value_of TCU t r = r.tcu
value_of Address t r = r.tempaddr
value_of Data t r = r.tempdata
value_of Bank t r = r.tempbank
value_of Cycles t r = length t.asked
value_of Ups t r = t.ups
value_of Downs t r = t.downs
value_of Refusal t r = 0

abbrev pub value_after : Name → Seen → Result Record why.Refusal → Told
value_after k t (Ok r) = k is value_of k t r
value_after k t (Err j) = Refusal is number_of j

abbrev pub look : Seen → Told → Told
look t (k is w) = value_after k t t.out
look t (Asks q) = Asks t.asked

abbrev pub gives : Machine → Figure → List Told
gives via f = map (look (runs via f)) f.says

-- ---- a row of one instruction, and of several; a pair is CLC with ADC #, or SEC with SBC #
abbrev pub row : Record → List ℕ → List Told → Figure
row r b q = record { start = r; answers = b ∷ []; says = q }

abbrev pub rows : Record → List (List ℕ) → List Told → Figure
rows r b q = record { start = r; answers = b; says = q }

abbrev pub add : List ℕ → List (List ℕ)
add b = (0x18 ∷ []) ∷ (0x69 ∷ b) ∷ []

abbrev pub subtract : List ℕ → List (List ℕ)
subtract b = (0x38 ∷ []) ∷ (0xE9 ∷ b) ∷ []
