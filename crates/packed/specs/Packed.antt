-- A record as 32 bytes, for whoever keeps it outside the core. Words stand with their low byte first.
--
--    0 edition, 1   1 held, 0 or 1   2 ir   3 tcu
--    4 A   6 X   8 Y   10 S   12 D   14 PC
--   16 PBR   17 DBR   18 P   19 E, 0 or 1
--   20 address scratch   22 data scratch   24 bank scratch   25 to 31 reserved, 0
use Rattle.std.specs.Prelude.{ℕ, ◌+◌, Bool, false, ◌&&◌, List, [], ◌∷◌, eqb, ltb, leb, length, get_or, Option, Some, None}
use Rattle.std.proofs.lemmas.List.Edits.{sets}
use Rattle.words.specs.Words.{pick, bit, low_of, high_of, word}
use Rattle.flags.specs.Flags.{bit_of, weigh}
use Rattle.flags.specs.declared.Flags.{Flags}
use Rattle.cpu.specs.declared.types.Record.{Record}

-- ---- P: N V M X D I Z C from bit 7 down, in emulation too

unfoldable pub status_of : Flags → ℕ
status_of f =
    weigh f.carry 1 + weigh f.zero 2 + weigh f.interruptdisable 4 + weigh f.decimal 8
    + weigh f.indexsel 16 + weigh f.memsel 32 + weigh f.overflow 64 + weigh f.negative 128

unfoldable pub flags_of : (p : ℕ) (e : Bool) → Flags
flags_of p e = record {
  carry = bit_of p 1;
  zero = bit_of p 2;
  interruptdisable = bit_of p 4;
  decimal = bit_of p 8;
  indexsel = bit_of p 16;
  memsel = bit_of p 32;
  overflow = bit_of p 64;
  negative = bit_of p 128;
  emulation = e;
}

-- ---- ten words, at an instruction's start

unfoldable pub start_of : (a x y s d pc pbr dbr p : ℕ) (e : Bool) → Record
start_of a x y s d pc pbr dbr p e = record {
  a = a;
  x = x;
  y = y;
  s = s;
  d = d;
  pc = pc;
  pbr = pbr;
  dbr = dbr;
  flags = flags_of p e;
  held = false;
  ir = 0;
  tcu = 0;
  tempaddr = 0;
  tempdata = 0;
  tempbank = 0;
}

-- ---- a record's bytes

unfoldable pub pack : Record → List ℕ
pack r =
    1 ∷ bit r.held ∷ r.ir ∷ r.tcu
    ∷ low_of r.a ∷ high_of r.a ∷ low_of r.x ∷ high_of r.x ∷ low_of r.y ∷ high_of r.y
    ∷ low_of r.s ∷ high_of r.s ∷ low_of r.d ∷ high_of r.d ∷ low_of r.pc ∷ high_of r.pc
    ∷ r.pbr ∷ r.dbr ∷ status_of r.flags ∷ bit r.flags.emulation
    ∷ low_of r.tempaddr ∷ high_of r.tempaddr ∷ low_of r.tempdata ∷ high_of r.tempdata ∷ r.tempbank
    ∷ 0 ∷ 0 ∷ 0 ∷ 0 ∷ 0 ∷ 0 ∷ 0 ∷ []

-- ---- the record of such bytes

abbrev pub byte_at : List ℕ → ℕ → ℕ
byte_at b k = get_or b k 0

abbrev pub word_at : List ℕ → ℕ → ℕ
word_at b k = word (byte_at b k) (byte_at b (k + 1))

unfoldable pub unpack : List ℕ → Record
unpack b = record {
  a = word_at b 4;
  x = word_at b 6;
  y = word_at b 8;
  s = word_at b 10;
  d = word_at b 12;
  pc = word_at b 14;
  pbr = byte_at b 16;
  dbr = byte_at b 17;
  flags = flags_of (byte_at b 18) (eqb (byte_at b 19) 1);
  held = eqb (byte_at b 1) 1;
  ir = byte_at b 2;
  tcu = byte_at b 3;
  tempaddr = word_at b 20;
  tempdata = word_at b 22;
  tempbank = byte_at b 24;
}

-- ---- which bytes are a record's

abbrev pub reserved : List ℕ → Bool
reserved b =
    eqb (byte_at b 25) 0 && (eqb (byte_at b 26) 0 && (eqb (byte_at b 27) 0 && (eqb (byte_at b 28) 0
    && (eqb (byte_at b 29) 0 && (eqb (byte_at b 30) 0 && eqb (byte_at b 31) 0)))))

-- edition 1, held and E truth values, the reserved bytes 0
abbrev pub regular : List ℕ → Bool
regular b = eqb (byte_at b 0) 1 && (ltb (byte_at b 1) 2 && (ltb (byte_at b 19) 2 && reserved b))

unfoldable pub is_packed : List ℕ → Bool
is_packed b = eqb (length b) 32 && regular b

abbrev pub unpacked : List ℕ → Option Record
unpacked b = pick (is_packed b) (Some (unpack b)) None

-- ---- bytes put at a place of others; without room nothing happens

abbrev pub placed : List ℕ → ℕ → List ℕ → List ℕ
placed t i x = pick (leb (i + length x) (length t)) (sets t i x) t
