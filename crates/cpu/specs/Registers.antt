-- What an operation makes of the registers: no program counter, no stack pointer, no scratch word here.
use Rattle.std.specs.Prelude.{ℕ, Bool, true, false, not}
use Rattle.words.specs.Words.{pick, low_of, high_of, word, low_set, swapped, inc, dec, index}
use Rattle.flags.specs.Flags.{set_mask, set_nvzc, set_nz, set_id, swap_ce}
use Rattle.flags.specs.declared.Flags.{Flags}
use Rattle.alu.specs.Alu.{operated, shifted_at, with_carry}
use Rattle.alu.specs.declared.types.Alu.{Alu}
use Rattle.alu.specs.declared.types.Byte.{Byte}
use Rattle.alu.specs.declared.types.Word.{Word}
use Rattle.alu.specs.declared.types.Shift.{Shift}
use Rattle.cpu.specs.declared.types.Regs.{Regs}
use Rattle.cpu.specs.declared.types.Reg.{Reg}
use Rattle.cpu.specs.declared.types.Reg.TheVariants.{A, X, Y}
use Rattle.cpu.specs.declared.types.Part.{Part}
use Rattle.cpu.specs.declared.types.Part.TheVariants.{Only, Low, High}
use Rattle.cpu.specs.declared.types.One.{One}
use Rattle.cpu.specs.declared.types.One.TheVariants as one

-- ---- the three registers by name
abbrev pub get : Reg → Regs → ℕ
get A g = g.a
get X g = g.x
get Y g = g.y

abbrev pub put : Reg → ℕ → Regs → Regs
put A v g = record { a = v; x = g.x; y = g.y; d = g.d; flags = g.flags }
put X v g = record { a = g.a; x = v; y = g.y; d = g.d; flags = g.flags }
put Y v g = record { a = g.a; x = g.x; y = v; d = g.d; flags = g.flags }

abbrev pub set_flags : Flags → Regs → Regs
set_flags f g = record { a = g.a; x = g.x; y = g.y; d = g.d; flags = f }

abbrev pub set_d : ℕ → Regs → Regs
set_d v g = record { a = g.a; x = g.x; y = g.y; d = v; flags = g.flags }

-- whether a register is 16 bits wide: M is the accumulator's flag, X the index registers'
abbrev pub wide_reg : Reg → (m x : Bool) → Bool
wide_reg A m x = not m
wide_reg X m x = not x
wide_reg Y m x = not x

-- ---- the byte of an operand
abbrev pub first : Part → Bool
first Only = true
first Low = true
first High = false

abbrev pub top : Part → Bool
top Only = true
top Low = false
top High = true

-- the byte of a word that goes with it, and the word with another one there
abbrev pub half : Part → ℕ → ℕ
half Only w = low_of w
half Low w = low_of w
half High w = high_of w

abbrev pub half_set : Part → ℕ → ℕ → ℕ
half_set Only w b = low_set w b
half_set Low w b = low_set w b
half_set High w b = word w b

-- ---- what instructions do to them

-- a byte of an operation between a register and what was read
unfoldable pub operates : Alu → Reg → Part → ℕ → Regs → Regs
operates k r p b g =
    let o : Byte = operated k (first p) (top p) (half p (get r g)) b g.flags in
    set_flags o.flags (put r (half_set p (get r g) o.byte) g)

-- a byte of PLA, PLX or PLY: the flags come with the last one
unfoldable pub pulls : Reg → Part → ℕ → Regs → Regs
pulls r Only b g = set_flags (set_nz g.flags b false) (put r (low_set (get r g) b) g)
pulls r Low b g = put r (low_set (get r g) b) g
pulls r High b g = let w : ℕ = word (get r g) b in set_flags (set_nz g.flags w true) (put r w g)

-- a value into a register at its width, with N and Z
unfoldable pub transfers : Reg → ℕ → Regs → Regs
transfers r v g =
    let wide : Bool = wide_reg r g.flags.memsel g.flags.indexsel in
    set_flags (set_nz g.flags v wide) (put r (pick wide v (low_set (get r g) (low_of v))) g)

-- TSC, TDC: all 16 bits of A at either width
unfoldable pub wholly : ℕ → Regs → Regs
wholly v g = set_flags (set_nz g.flags v true) (put A v g)

-- TCD, PLD
unfoldable pub directs : ℕ → Regs → Regs
directs v g = set_flags (set_nz g.flags v true) (set_d v g)

unfoldable pub shifts : Shift → Regs → Regs
shifts k g = let o : Word = shifted_at k (not g.flags.memsel) g.a g.flags in set_flags o.flags (put A o.word g)

-- XBA: N and Z of the new low byte
unfoldable pub swaps : Regs → Regs
swaps g = set_flags (set_nz g.flags (swapped g.a) false) (put A (swapped g.a) g)

-- REP and SEP: setting the index flag clears the high bytes of X and Y at once
unfoldable pub masks : Bool → ℕ → Regs → Regs
masks to b g =
    let f : Flags = set_mask g.flags b to in
    record { a = g.a; x = index f.indexsel g.x; y = index f.indexsel g.y; d = g.d; flags = f }

-- a byte of a move: X and Y step up or down at their width, A falls by 1 as 16 bits at either width
abbrev pub stepped : Bool → ℕ → ℕ
stepped ups v = pick ups (inc v) (dec v)

unfoldable pub moves : Bool → Regs → Regs
moves ups g = record {
  a = dec g.a;
  x = index g.flags.indexsel (stepped ups g.x);
  y = index g.flags.indexsel (stepped ups g.y);
  d = g.d;
  flags = g.flags;
}

-- ---- an instruction of one byte: the registers after it, and S
abbrev pub applied : One → (s : ℕ) → Regs → Regs
applied (one.Accumulator k) s g = shifts k g
applied (one.Carry c) s g = set_flags (with_carry c g.flags) g
applied (one.Interrupt i) s g = set_flags (set_id g.flags i g.flags.decimal) g
applied (one.Decimal d) s g = set_flags (set_id g.flags g.flags.interruptdisable d) g
applied one.Clv s g = set_flags (set_nvzc g.flags g.flags.negative false g.flags.zero g.flags.carry) g
applied one.Nop s g = g
applied one.Xce s g = set_flags (swap_ce g.flags) g
applied one.Xba s g = swaps g
applied (one.Transfer from into) s g = transfers into (get from g) g
applied (one.Index r ups) s g = transfers r (stepped ups (get r g)) g
applied one.Tsx s g = transfers X s g
applied one.Txs s g = g
applied one.Tcs s g = g
applied one.Tsc s g = wholly s g
applied one.Tcd s g = directs g.a g
applied one.Tdc s g = wholly g.d g

-- TXS and TCS set no flags; in emulation the end leaves them S's low byte alone
abbrev pub stack_of : One → (s : ℕ) → Regs → ℕ
stack_of one.Txs s g = g.x
stack_of one.Tcs s g = g.a
stack_of (one.Accumulator k) s g = s
stack_of (one.Carry c) s g = s
stack_of (one.Interrupt i) s g = s
stack_of (one.Decimal d) s g = s
stack_of one.Clv s g = s
stack_of one.Nop s g = s
stack_of one.Xce s g = s
stack_of one.Xba s g = s
stack_of (one.Transfer from into) s g = s
stack_of (one.Index r ups) s g = s
stack_of one.Tsx s g = s
stack_of one.Tsc s g = s
stack_of one.Tcd s g = s
stack_of one.Tdc s g = s
