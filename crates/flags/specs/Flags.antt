-- The status register: what REP, SEP, PLP, PHP and XCE make of it, and N and Z of a value.
use Rattle.std.specs.Prelude.{ℕ, ◌+◌, ◌/◌, ◌%◌, Bool, ◌||◌, eqb, leb}
use Rattle.words.specs.Words.{pick}
use Rattle.flags.specs.declared.Flags.{Flags}

-- whether a byte has the bit of that weight; a bit's weight where it is set
abbrev pub bit_of : ℕ → ℕ → Bool
bit_of b weight = eqb (b / weight % 2) 1

abbrev pub weigh : Bool → ℕ → ℕ
weigh t weight = pick t weight 0

-- PHP pushes this byte: in emulation bits 4 and 5 are set
unfoldable pub byte_of : Flags → ℕ
byte_of f =
    weigh f.carry 1 + weigh f.zero 2 + weigh f.interruptdisable 4 + weigh f.decimal 8
    + weigh (f.emulation || f.indexsel) 16 + weigh (f.emulation || f.memsel) 32
    + weigh f.overflow 64 + weigh f.negative 128

-- REP clears the flags of a mask, SEP sets them; in emulation the width flags stay as they are
unfoldable pub set_mask : Flags → ℕ → Bool → Flags
set_mask f mask set = record {
  carry = pick (bit_of mask 1) set f.carry;
  zero = pick (bit_of mask 2) set f.zero;
  interruptdisable = pick (bit_of mask 4) set f.interruptdisable;
  decimal = pick (bit_of mask 8) set f.decimal;
  indexsel = pick f.emulation f.indexsel (pick (bit_of mask 16) set f.indexsel);
  memsel = pick f.emulation f.memsel (pick (bit_of mask 32) set f.memsel);
  overflow = pick (bit_of mask 64) set f.overflow;
  negative = pick (bit_of mask 128) set f.negative;
  emulation = f.emulation;
}

-- PLP sets the flags from a byte; in emulation the width flags stay as they are
unfoldable pub set_byte : Flags → ℕ → Flags
set_byte f value = record {
  carry = bit_of value 1;
  zero = bit_of value 2;
  interruptdisable = bit_of value 4;
  decimal = bit_of value 8;
  indexsel = pick f.emulation f.indexsel (bit_of value 16);
  memsel = pick f.emulation f.memsel (bit_of value 32);
  overflow = bit_of value 64;
  negative = bit_of value 128;
  emulation = f.emulation;
}

-- other N, V, Z and C: what an operation may change
abbrev pub set_nvzc : Flags → (n v z c : Bool) → Flags
set_nvzc f n v z c = record {
  carry = c;
  zero = z;
  interruptdisable = f.interruptdisable;
  decimal = f.decimal;
  indexsel = f.indexsel;
  memsel = f.memsel;
  overflow = v;
  negative = n;
  emulation = f.emulation;
}

-- N and Z of a value at its width
unfoldable pub set_nz : Flags → ℕ → (wide : Bool) → Flags
set_nz f value wide =
    set_nvzc f (pick wide (leb 32768 value) (leb 128 (value % 256))) f.overflow (pick wide (eqb value 0) (eqb (value % 256) 0)) f.carry

-- other I and D: CLI, SEI, CLD, SED
abbrev pub set_id : Flags → (i d : Bool) → Flags
set_id f i d = record {
  carry = f.carry;
  zero = f.zero;
  interruptdisable = i;
  decimal = d;
  indexsel = f.indexsel;
  memsel = f.memsel;
  overflow = f.overflow;
  negative = f.negative;
  emulation = f.emulation;
}

-- other C, M, X and E
abbrev pub set_modes : Flags → (c m x e : Bool) → Flags
set_modes f c m x e = record {
  carry = c;
  zero = f.zero;
  interruptdisable = f.interruptdisable;
  decimal = f.decimal;
  indexsel = x;
  memsel = m;
  overflow = f.overflow;
  negative = f.negative;
  emulation = e;
}

-- XCE: carry and emulation change places
abbrev pub swap_ce : Flags → Flags
swap_ce f = set_modes f f.emulation f.memsel f.indexsel f.carry

-- in emulation both width flags are set
abbrev pub settled : Flags → Flags
settled f = set_modes f f.carry (f.emulation || f.memsel) (f.emulation || f.indexsel) f.emulation
