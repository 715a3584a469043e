-- The opcode list of document 01.
use Rattle.std.specs.Prelude.{ℕ, Bool, true, false, List, [], ◌∷◌, map, eqb, Option, Some, None}
use Rattle.opcodes.specs.declared.types.Shape.{Shape}
use Rattle.words.specs.Words.{pick}
use Rattle.cpu.specs.Registers.{wide_reg}
use Rattle.cpu.specs.Record.{wide_source}
use Rattle.alu.specs.declared.types.Alu.{Alu}
use Rattle.alu.specs.declared.types.Alu.TheVariants.{Adc, Sbc, Cmp, And, Ora, Eor, Bit, BitImmediate, Load}
use Rattle.alu.specs.declared.types.Shift.TheVariants.{Asl, Rol, Lsr, Ror, Inc, Dec}
use Rattle.cpu.specs.declared.types.Reg.{Reg}
use Rattle.cpu.specs.declared.types.Reg.TheVariants.{A, X, Y}
use Rattle.cpu.specs.declared.types.Source.{Source}
use Rattle.cpu.specs.declared.types.Source.TheVariants.{Register}
use Rattle.cpu.specs.declared.types.Source.TheVariants as of
use Rattle.cpu.specs.declared.types.One.{One}
use Rattle.cpu.specs.declared.types.One.TheVariants as one
use Rattle.cpu.specs.declared.types.Cond.{Cond}
use Rattle.cpu.specs.declared.types.Cond.TheVariants as if
use Rattle.opcodes.specs.declared.types.Operation.{Operation}
use Rattle.opcodes.specs.declared.types.Operation.TheVariants.{Plain, Read, Give, Take, Do, If, Flag}
use Rattle.opcodes.specs.declared.types.Shape.TheVariants.{Immediate, Absolute, Direct, StoreAbsolute, StoreDirect, Implied, Xba, Mask, Wdm, Push, Pull, PullP, PullB, PullD, Pea, Pei, Per, Jump, JumpLong, JumpIndirect, JumpIndirectLong, JumpIndexed, Call, CallIndexed, CallLong, Return, ReturnLong, Branch, BranchLong, Move}

-- a byte, and what it is
pub record Row (A : Type 0) : Type 0 where
  pub code : ℕ
  pub is : A

abbrev pub on : {A : Type 0} → ℕ → A → Row A
on c a = record { code = c; is = a }

abbrev pub find : {A : Type 0} → A → ℕ → List (Row A) → A
find other n [] = other
find other n (r ∷ rs) = pick (eqb n r.code) r.is (find other n rs)

-- accumulator and one byte
unfoldable pub one_bytes : List (Row One)
one_bytes =
    on 0x0A (one.Accumulator Asl) ∷ on 0x2A (one.Accumulator Rol) ∷ on 0x4A (one.Accumulator Lsr) ∷ on 0x6A (one.Accumulator Ror) ∷
    on 0x1A (one.Accumulator Inc) ∷ on 0x3A (one.Accumulator Dec) ∷ on 0x18 (one.Carry false) ∷ on 0x38 (one.Carry true) ∷
    on 0x58 (one.Interrupt false) ∷ on 0x78 (one.Interrupt true) ∷ on 0xB8 one.Clv ∷ on 0xD8 (one.Decimal false) ∷
    on 0xF8 (one.Decimal true) ∷ on 0xEA one.Nop ∷ on 0xFB one.Xce ∷ on 0xAA (one.Transfer A X) ∷
    on 0xA8 (one.Transfer A Y) ∷ on 0xBA one.Tsx ∷ on 0x8A (one.Transfer X A) ∷ on 0x9A one.Txs ∷
    on 0x9B (one.Transfer X Y) ∷ on 0x98 (one.Transfer Y A) ∷ on 0xBB (one.Transfer Y X) ∷ on 0x5B one.Tcd ∷
    on 0x1B one.Tcs ∷ on 0x7B one.Tdc ∷ on 0x3B one.Tsc ∷ on 0xE8 (one.Index X true) ∷
    on 0xC8 (one.Index Y true) ∷ on 0xCA (one.Index X false) ∷ on 0x88 (one.Index Y false) ∷ []

-- a listed opcode: its shape, and the operation that the cycles carry out
abbrev pub listed : Shape → Operation → Option (Shape × Operation)
listed s o = Some (s, o)

abbrev pub implied : Row One → Row (Option (Shape × Operation))
implied r = on r.code (listed Implied (Do r.is))

unfoldable pub opcodes : List (Row (Option (Shape × Operation)))
opcodes =
    -- immediate, absolute, direct
    on 0x69 (listed Immediate (Read Adc A)) ∷ on 0x6D (listed Absolute (Read Adc A)) ∷ on 0x65 (listed Direct (Read Adc A)) ∷
    on 0xE9 (listed Immediate (Read Sbc A)) ∷ on 0xED (listed Absolute (Read Sbc A)) ∷ on 0xE5 (listed Direct (Read Sbc A)) ∷
    on 0xC9 (listed Immediate (Read Cmp A)) ∷ on 0xCD (listed Absolute (Read Cmp A)) ∷ on 0xC5 (listed Direct (Read Cmp A)) ∷
    on 0x29 (listed Immediate (Read And A)) ∷ on 0x2D (listed Absolute (Read And A)) ∷ on 0x25 (listed Direct (Read And A)) ∷
    on 0x09 (listed Immediate (Read Ora A)) ∷ on 0x0D (listed Absolute (Read Ora A)) ∷ on 0x05 (listed Direct (Read Ora A)) ∷
    on 0x49 (listed Immediate (Read Eor A)) ∷ on 0x4D (listed Absolute (Read Eor A)) ∷ on 0x45 (listed Direct (Read Eor A)) ∷
    on 0x89 (listed Immediate (Read BitImmediate A)) ∷ on 0x2C (listed Absolute (Read Bit A)) ∷ on 0x24 (listed Direct (Read Bit A)) ∷
    on 0xA9 (listed Immediate (Read Load A)) ∷ on 0xAD (listed Absolute (Read Load A)) ∷ on 0xA5 (listed Direct (Read Load A)) ∷
    on 0xA2 (listed Immediate (Read Load X)) ∷ on 0xAE (listed Absolute (Read Load X)) ∷ on 0xA6 (listed Direct (Read Load X)) ∷
    on 0xA0 (listed Immediate (Read Load Y)) ∷ on 0xAC (listed Absolute (Read Load Y)) ∷ on 0xA4 (listed Direct (Read Load Y)) ∷
    on 0xE0 (listed Immediate (Read Cmp X)) ∷ on 0xEC (listed Absolute (Read Cmp X)) ∷ on 0xE4 (listed Direct (Read Cmp X)) ∷
    on 0xC0 (listed Immediate (Read Cmp Y)) ∷ on 0xCC (listed Absolute (Read Cmp Y)) ∷ on 0xC4 (listed Direct (Read Cmp Y)) ∷
    -- absolute, direct
    on 0x8D (listed StoreAbsolute (Give (Register A))) ∷ on 0x85 (listed StoreDirect (Give (Register A))) ∷
    on 0x8E (listed StoreAbsolute (Give (Register X))) ∷ on 0x86 (listed StoreDirect (Give (Register X))) ∷
    on 0x8C (listed StoreAbsolute (Give (Register Y))) ∷ on 0x84 (listed StoreDirect (Give (Register Y))) ∷
    on 0x9C (listed StoreAbsolute (Give of.Zero)) ∷ on 0x64 (listed StoreDirect (Give of.Zero)) ∷
    -- XBA, REP, SEP, WDM, MVN, MVP
    on 0xEB (listed Xba (Do one.Xba)) ∷ on 0xC2 (listed Mask (Flag false)) ∷ on 0xE2 (listed Mask (Flag true)) ∷
    on 0x42 (listed Wdm Plain) ∷ on 0x54 (listed Move (Flag true)) ∷ on 0x44 (listed Move (Flag false)) ∷
    -- branches
    on 0x10 (listed Branch (If (if.Negative false))) ∷ on 0x30 (listed Branch (If (if.Negative true))) ∷ on 0x50 (listed Branch (If (if.Overflow false))) ∷
    on 0x70 (listed Branch (If (if.Overflow true))) ∷ on 0x90 (listed Branch (If (if.Carry false))) ∷ on 0xB0 (listed Branch (If (if.Carry true))) ∷
    on 0xD0 (listed Branch (If (if.Zero false))) ∷ on 0xF0 (listed Branch (If (if.Zero true))) ∷ on 0x80 (listed Branch (If if.Always)) ∷
    on 0x82 (listed BranchLong Plain) ∷
    -- jumps, calls and returns
    on 0x4C (listed Jump Plain) ∷ on 0x6C (listed JumpIndirect Plain) ∷ on 0x7C (listed JumpIndexed Plain) ∷
    on 0x5C (listed JumpLong Plain) ∷ on 0xDC (listed JumpIndirectLong Plain) ∷ on 0x20 (listed Call Plain) ∷
    on 0xFC (listed CallIndexed Plain) ∷ on 0x22 (listed CallLong Plain) ∷ on 0x60 (listed Return Plain) ∷
    on 0x6B (listed ReturnLong Plain) ∷
    -- pushes and pulls
    on 0x48 (listed Push (Give (Register A))) ∷ on 0xDA (listed Push (Give (Register X))) ∷ on 0x5A (listed Push (Give (Register Y))) ∷
    on 0x08 (listed Push (Give of.P)) ∷ on 0x8B (listed Push (Give of.Dbr)) ∷ on 0x0B (listed Push (Give of.D)) ∷
    on 0x4B (listed Push (Give of.Pbr)) ∷ on 0x68 (listed Pull (Take A)) ∷ on 0xFA (listed Pull (Take X)) ∷
    on 0x7A (listed Pull (Take Y)) ∷ on 0x28 (listed PullP Plain) ∷ on 0xAB (listed PullB Plain) ∷
    on 0x2B (listed PullD Plain) ∷ on 0xF4 (listed Pea Plain) ∷ on 0xD4 (listed Pei Plain) ∷
    on 0x62 (listed Per Plain) ∷
    map implied one_bytes

-- what a byte is as an opcode
unfoldable pub decode_of : ℕ → Option (Shape × Operation)
decode_of n = find None n opcodes

abbrev pub is_listed : Option (Shape × Operation) → Bool
is_listed None = false
is_listed (Some (s, o)) = true

-- ---- an operation's parts; the other operations have none, and what stands for it is never looked at
abbrev pub alu_of : Operation → Alu
alu_of (Read k r) = k
alu_of Plain = Load
alu_of (Give k) = Load
alu_of (Take r) = Load
alu_of (Do k) = Load
alu_of (If k) = Load
alu_of (Flag t) = Load

abbrev pub reg_of : Operation → Reg
reg_of (Read k r) = r
reg_of (Take r) = r
reg_of Plain = A
reg_of (Give k) = A
reg_of (Do k) = A
reg_of (If k) = A
reg_of (Flag t) = A

abbrev pub source_in : Operation → Source
source_in (Give k) = k
source_in Plain = of.Zero
source_in (Read k r) = of.Zero
source_in (Take r) = of.Zero
source_in (Do k) = of.Zero
source_in (If k) = of.Zero
source_in (Flag t) = of.Zero

abbrev pub one_in : Operation → One
one_in (Do k) = k
one_in Plain = one.Nop
one_in (Read k r) = one.Nop
one_in (Give k) = one.Nop
one_in (Take r) = one.Nop
one_in (If k) = one.Nop
one_in (Flag t) = one.Nop

abbrev pub cond_in : Operation → Cond
cond_in (If k) = k
cond_in Plain = if.Always
cond_in (Read k r) = if.Always
cond_in (Give k) = if.Always
cond_in (Take r) = if.Always
cond_in (Do k) = if.Always
cond_in (Flag t) = if.Always

abbrev pub flag_in : Operation → Bool
flag_in (Flag t) = t
flag_in Plain = false
flag_in (Read k r) = false
flag_in (Give k) = false
flag_in (Take r) = false
flag_in (Do k) = false
flag_in (If k) = false

-- whether an operation is 16 bits wide
abbrev pub wide_of : Operation → (m x : Bool) → Bool
wide_of (Read k r) m x = wide_reg r m x
wide_of (Give k) m x = wide_source k m x
wide_of (Take r) m x = wide_reg r m x
wide_of Plain m x = false
wide_of (Do k) m x = false
wide_of (If k) m x = false
wide_of (Flag t) m x = false
