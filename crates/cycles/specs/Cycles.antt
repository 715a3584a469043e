-- The cycles of each shape after its fetch: one list, whose places are the cycles' numbers.
-- A cycle says what it asks; what it does to PC, S and the scratch words; what it does to the registers; and where it leads.
-- Cycle 0 exists for a move alone, whose opcode is read again for each byte. What is past a list's end is no cycle.
-- w: 16 bits wide; d: the low byte of D isn't 0; e: emulation. A branch's condition and page aren't looked at.
use Rattle.std.specs.Prelude.{ℕ, ◌%◌, Bool, true, false, not, List, [], ◌∷◌, eqb, get_or, Option, Some, None}
use Rattle.flags.specs.declared.Flags.{Flags}
use Rattle.cpu.specs.declared.types.Part.TheVariants.{Only, Low, High}
use Rattle.cpu.specs.declared.types.Refusal.TheVariants.{Unlisted, NoCycle}
use Rattle.opcodes.specs.Opcodes.{wide_of}
use Rattle.opcodes.specs.declared.types.Operation.{Operation}
use Rattle.opcodes.specs.declared.types.Shape.{Shape}
use Rattle.opcodes.specs.declared.types.Shape.TheVariants as shape
use Rattle.cycles.specs.declared.types.Ask.{Ask}
use Rattle.cycles.specs.declared.types.Ask.TheVariants.{Program, Idle, IdleBack, IdleAfter, IdleStack, IdleHome, Opcode, Far, FarNext, Near, NearNext, NearThird, Table, TableNext, PullPaged, PullRaw, PullHome, StoreFar, StoreFarNext, StoreNear, StoreNearNext, PushLow, PushHigh, PushPcLow, PushPcHigh, PushDataLow, PushDataHigh, PushPbr, MoveRead, MoveWrite, MoveIdle}
use Rattle.cycles.specs.declared.types.Move.{Move}
use Rattle.cycles.specs.declared.types.Move.TheVariants as mv
use Rattle.cycles.specs.declared.types.Change.{Change}
use Rattle.cycles.specs.declared.types.Change.TheVariants.{Keep, Operate, Fill, Apply, Mask, Status, Sign, DirectLow, DirectHigh, MoveByte}
use Rattle.cycles.specs.declared.types.To.{To}
use Rattle.cycles.specs.declared.types.To.TheVariants.{On, End, EndByte, EndBank, Taken, Crossed, Moved}
use Rattle.cycles.specs.declared.types.Cycle.{Cycle}
use Rattle.cycles.specs.declared.types.Micro.{Micro}
use Rattle.cycles.specs.declared.types.Micro.TheVariants.{Refuse, Held}

-- a cycle by its four parts
abbrev pub present : Ask → Move → Change → To → Option Cycle
present q m c t = Some (record { ask = q; step = m; change = c; to = t })

-- a cycle that keeps the registers, and goes on or is the last one
abbrev pub on : Ask → Move → Option Cycle
on q m = present q m Keep On

abbrev pub last : Ask → Move → Option Cycle
last q m = present q m Keep End

-- immediate
abbrev pub immediate : (w : Bool) → List (Option Cycle)
immediate true = None ∷ present Program mv.Step (Operate Low) On ∷ present Program mv.Step (Operate High) End ∷ []
immediate false = None ∷ present Program mv.Step (Operate Only) End ∷ []

-- the operand of absolute, and of direct with its idle cycle
abbrev pub absolute : List (Option Cycle) → List (Option Cycle)
absolute rest = None ∷ on Program mv.AddrLow ∷ on Program mv.AddrHigh ∷ rest

abbrev pub direct : (d : Bool) → List (Option Cycle) → List (Option Cycle)
direct true rest = None ∷ on Program mv.Offset ∷ on IdleBack mv.Stay ∷ rest
direct false rest = None ∷ on Program mv.Offset ∷ rest

-- the bytes of a value that is read, and of one that is stored
abbrev pub read_far : (w : Bool) → List (Option Cycle)
read_far true = present Far mv.Stay (Operate Low) On ∷ present FarNext mv.Stay (Operate High) End ∷ []
read_far false = present Far mv.Stay (Operate Only) End ∷ []

abbrev pub read_near : (w : Bool) → List (Option Cycle)
read_near true = present Near mv.Stay (Operate Low) On ∷ present NearNext mv.Stay (Operate High) End ∷ []
read_near false = present Near mv.Stay (Operate Only) End ∷ []

abbrev pub store_far : (w : Bool) → List (Option Cycle)
store_far true = on StoreFar mv.Stay ∷ last StoreFarNext mv.Stay ∷ []
store_far false = last StoreFar mv.Stay ∷ []

abbrev pub store_near : (w : Bool) → List (Option Cycle)
store_near true = on StoreNear mv.Stay ∷ last StoreNearNext mv.Stay ∷ []
store_near false = last StoreNear mv.Stay ∷ []

-- one byte, XBA, REP and SEP, WDM
abbrev pub implied : List (Option Cycle)
implied = None ∷ present Idle mv.Stacked Apply End ∷ []

abbrev pub xba : List (Option Cycle)
xba = None ∷ on Idle mv.Stay ∷ present Idle mv.Stay Apply End ∷ []

abbrev pub mask : List (Option Cycle)
mask = None ∷ present Program mv.Step Mask On ∷ last Idle mv.Stay ∷ []

abbrev pub wdm : List (Option Cycle)
wdm = None ∷ last Program mv.Step ∷ []

-- pushes and pulls
abbrev pub push : (w : Bool) → List (Option Cycle)
push true = None ∷ on Idle mv.Stay ∷ on PushHigh mv.PushRaw ∷ last PushLow mv.PushRaw ∷ []
push false = None ∷ on Idle mv.Stay ∷ last PushLow mv.PushRaw ∷ []

abbrev pub pulling : List (Option Cycle) → List (Option Cycle)
pulling rest = None ∷ on Idle mv.Stay ∷ on Idle mv.Stay ∷ rest

abbrev pub pull : (w : Bool) → List (Option Cycle)
pull true = pulling (present PullPaged mv.PullPaged (Fill Low) On ∷ present PullPaged mv.PullPaged (Fill High) End ∷ [])
pull false = pulling (present PullPaged mv.PullPaged (Fill Only) End ∷ [])

abbrev pub pull_p : List (Option Cycle)
pull_p = pulling (present PullPaged mv.PullPaged Status End ∷ [])

abbrev pub pull_b : List (Option Cycle)
pull_b = pulling (present PullRaw mv.PullBank Sign End ∷ [])

abbrev pub pull_d : List (Option Cycle)
pull_d = pulling (present PullRaw mv.PullRaw DirectLow On ∷ present PullRaw mv.PullRaw DirectHigh End ∷ [])

-- PEA, PEI and PER push what they have made, the high byte first
abbrev pub push_made : List (Option Cycle)
push_made = on PushDataHigh mv.PushRaw ∷ last PushDataLow mv.PushRaw ∷ []

abbrev pub pea : List (Option Cycle)
pea = None ∷ on Program mv.DataLow ∷ on Program mv.DataHigh ∷ push_made

abbrev pub pei : (d : Bool) → List (Option Cycle)
pei d = direct d (on Near mv.ReadLow ∷ on NearNext mv.ReadHigh ∷ push_made)

abbrev pub per : List (Option Cycle)
per = absolute (on IdleBack mv.Relative ∷ push_made)

-- jumps
abbrev pub jump : List (Option Cycle)
jump = None ∷ on Program mv.DataLow ∷ last Program mv.JumpRead ∷ []

abbrev pub jump_long : List (Option Cycle)
jump_long = absolute (present Program mv.JumpAddr Keep EndByte ∷ [])

abbrev pub jump_indirect : List (Option Cycle)
jump_indirect = absolute (on Near mv.ReadLow ∷ last NearNext mv.JumpRead ∷ [])

abbrev pub jump_indirect_long : List (Option Cycle)
jump_indirect_long = absolute (on Near mv.ReadLow ∷ on NearNext mv.ReadHigh ∷ present NearThird mv.JumpData Keep EndByte ∷ [])

abbrev pub jump_indexed : List (Option Cycle)
jump_indexed = absolute (on IdleBack mv.Stay ∷ on Table mv.ReadLow ∷ last TableNext mv.JumpRead ∷ [])

-- calls and returns
abbrev pub call : List (Option Cycle)
call =
    None ∷ on Program mv.AddrLow ∷ on Program mv.AddrLast ∷ on Idle mv.Stay
    ∷ on PushPcHigh mv.PushPaged ∷ last PushPcLow mv.Call ∷ []

abbrev pub call_indexed : List (Option Cycle)
call_indexed =
    None ∷ on Program mv.AddrLow ∷ on PushPcHigh mv.PushPaged ∷ on PushPcLow mv.PushPaged
    ∷ on Program mv.AddrLast ∷ on Idle mv.Stay ∷ on Table mv.ReadLow ∷ last TableNext mv.JumpRead ∷ []

abbrev pub call_long : List (Option Cycle)
call_long =
    absolute (on PushPbr mv.PushRaw ∷ on IdleStack mv.Stay ∷ on Program mv.BankByte
    ∷ on PushPcHigh mv.PushRaw ∷ present PushPcLow mv.Call Keep EndBank ∷ [])

abbrev pub return : List (Option Cycle)
return = pulling (on PullPaged mv.PcLowPaged ∷ on PullPaged mv.PcHighPaged ∷ last IdleHome mv.Step ∷ [])

abbrev pub return_long : List (Option Cycle)
return_long = pulling (on PullHome mv.PcLowHome ∷ on PullRaw mv.PcHighRaw ∷ present PullRaw mv.ReturnLong Keep EndByte ∷ [])

-- the third cycle takes a branch, and in emulation a fourth may follow: whatever the condition was and wherever it leads
abbrev pub branch : (e : Bool) → List (Option Cycle)
branch true = None ∷ present Program mv.Branch Keep Taken ∷ present Idle mv.Take Keep Crossed ∷ last IdleAfter mv.Stay ∷ []
branch false = None ∷ present Program mv.Branch Keep Taken ∷ last Idle mv.Take ∷ []

abbrev pub branch_long : List (Option Cycle)
branch_long = None ∷ on Program mv.AddrLow ∷ on Program mv.AddrLast ∷ last Idle mv.TakeLong ∷ []

-- a byte of a move
abbrev pub move : List (Option Cycle)
move =
    on Opcode mv.Step ∷ on Program mv.MoveTo ∷ on Program mv.MoveFrom ∷ on MoveRead mv.ReadLow
    ∷ on MoveWrite mv.MoveStore ∷ on MoveIdle mv.Stay ∷ present MoveIdle mv.MoveEnd MoveByte Moved ∷ []

abbrev pub cycles_of : Shape → (w d e : Bool) → List (Option Cycle)
cycles_of shape.Immediate w d e = immediate w
cycles_of shape.Absolute w d e = absolute (read_far w)
cycles_of shape.Direct w d e = direct d (read_near w)
cycles_of shape.StoreAbsolute w d e = absolute (store_far w)
cycles_of shape.StoreDirect w d e = direct d (store_near w)
cycles_of shape.Implied w d e = implied
cycles_of shape.Xba w d e = xba
cycles_of shape.Mask w d e = mask
cycles_of shape.Wdm w d e = wdm
cycles_of shape.Push w d e = push w
cycles_of shape.Pull w d e = pull w
cycles_of shape.PullP w d e = pull_p
cycles_of shape.PullB w d e = pull_b
cycles_of shape.PullD w d e = pull_d
cycles_of shape.Pea w d e = pea
cycles_of shape.Pei w d e = pei d
cycles_of shape.Per w d e = per
cycles_of shape.Jump w d e = jump
cycles_of shape.JumpLong w d e = jump_long
cycles_of shape.JumpIndirect w d e = jump_indirect
cycles_of shape.JumpIndirectLong w d e = jump_indirect_long
cycles_of shape.JumpIndexed w d e = jump_indexed
cycles_of shape.Call w d e = call
cycles_of shape.CallIndexed w d e = call_indexed
cycles_of shape.CallLong w d e = call_long
cycles_of shape.Return w d e = return
cycles_of shape.ReturnLong w d e = return_long
cycles_of shape.Branch w d e = branch e
cycles_of shape.BranchLong w d e = branch_long
cycles_of shape.Move w d e = move

-- a shape's cycle
abbrev pub phase_of : Shape → (w d e : Bool) → (tcu : ℕ) → Option Cycle
phase_of s w d e tcu = get_or (cycles_of s w d e) tcu None

abbrev pub unaligned : ℕ → Bool
unaligned d = not (eqb (d % 256) 0)

-- what a held opcode's cycle does: refusal 6 for a cycle that it hasn't, 5 for an opcode that isn't listed
abbrev pub carrying : Operation → Option Cycle → Micro
carrying o None = Refuse NoCycle
carrying o (Some c) = Held c.ask c.step c.change c.to o

abbrev pub held_micro : Option (Shape × Operation) → Flags → (d tcu : ℕ) → Micro
held_micro None f d tcu = Refuse Unlisted
held_micro (Some (s, o)) f d tcu = carrying o (phase_of s (wide_of o f.memsel f.indexsel) (unaligned d) f.emulation tcu)
