-- What holds of every row of every shape's list, by one test that computes: a cycle that may go on keeps the index registers and
-- width flags in order, a cycle that writes doesn't look at the byte, and one after which the opcode is read again is a move's.
use Prim.Native.Nat.{ℕ, zero, suc}
use Rattle.std.proofs.Common.{Option, Some, None}
use mathlib.Core.Path.{◌≡◌, refl}
use mathlib.Core.Bool.{Bool, true, false, ◌&&◌}
use mathlib.Core.List.{List, [], ◌∷◌}
use lib.ListN.{get_or}
use Rattle.words.specs.Words.{pick, implied}
use Rattle.flags.specs.declared.Flags.{Flags}
use Rattle.cpu.specs.Record.{well_formed}
use Rattle.cpu.specs.declared.types.Record.{Record}
use Rattle.cpu.specs.declared.types.Refusal.TheVariants.{Malformed}
use Rattle.opcodes.specs.Opcodes.{decode_of, wide_of}
use Rattle.opcodes.specs.declared.types.Operation.{Operation}
use Rattle.opcodes.specs.declared.types.Shape.{Shape}
use Rattle.opcodes.specs.declared.types.Shape.TheVariants as shape
use Rattle.cycles.specs.Cycles.{cycles_of, phase_of, unaligned, carrying, held_micro}
use Rattle.cpu.specs.declared.types.Part.TheVariants.{Only, Low, High}
use Rattle.cycles.specs.declared.types.Ask.{Ask}
use Rattle.cycles.specs.declared.types.Ask.TheVariants as ask
use Rattle.cycles.specs.declared.types.Move.{Move}
use Rattle.cycles.specs.declared.types.Move.TheVariants as move
use Rattle.cycles.specs.declared.types.Change.{Change}
use Rattle.cycles.specs.declared.types.Change.TheVariants.{Keep, Operate, Fill, Apply, Mask, Status, Sign, DirectLow, DirectHigh, MoveByte}
use Rattle.cycles.specs.declared.types.To.{To}
use Rattle.cycles.specs.declared.types.To.TheVariants as to
use Rattle.cycles.specs.declared.types.Cycle.{Cycle}
use Rattle.cycles.specs.declared.types.Micro.{Micro}
use Rattle.cycles.specs.declared.types.Micro.TheVariants.{Refuse, Fetch, Held}
use Rattle.step.specs.Cycle.{micro_of}
use Rattle.sheet.proofs.Walk.{and_left, and_right}
use Rattle.sheet.proofs.Moving.{moving, is_moving}

-- ---- changes that keep the index registers and width flags in order: those of a cycle before the last
abbrev pub calm : Change → Bool
calm Keep = true
calm (Operate Low) = true
calm (Fill Low) = true
calm Mask = true
calm DirectLow = true
calm (Operate Only) = false
calm (Operate High) = false
calm (Fill Only) = false
calm (Fill High) = false
calm Apply = false
calm Status = false
calm Sign = false
calm DirectHigh = false
calm MoveByte = false

-- ---- a cycle that may go on has a calm change
abbrev pub fine : To → Change → Bool
fine to.On c = calm c
fine to.Taken c = calm c
fine to.Crossed c = calm c
fine to.End c = true
fine to.EndByte c = true
fine to.EndBank c = true
fine to.Moved c = true

-- ---- a cycle that writes doesn't look at the byte
abbrev pub writing : Ask → Bool
writing ask.Program = false
writing ask.Idle = false
writing ask.IdleBack = false
writing ask.IdleAfter = false
writing ask.IdleStack = false
writing ask.IdleHome = false
writing ask.Opcode = false
writing ask.Far = false
writing ask.FarNext = false
writing ask.Near = false
writing ask.NearNext = false
writing ask.NearThird = false
writing ask.Table = false
writing ask.TableNext = false
writing ask.PullPaged = false
writing ask.PullRaw = false
writing ask.PullHome = false
writing ask.StoreFar = true
writing ask.StoreFarNext = true
writing ask.StoreNear = true
writing ask.StoreNearNext = true
writing ask.PushLow = true
writing ask.PushHigh = true
writing ask.PushPcLow = true
writing ask.PushPcHigh = true
writing ask.PushDataLow = true
writing ask.PushDataHigh = true
writing ask.PushPbr = true
writing ask.MoveRead = false
writing ask.MoveWrite = true
writing ask.MoveIdle = false

abbrev pub deaf_move : Move → Bool
deaf_move move.Stay = true
deaf_move move.Step = false
deaf_move move.AddrLow = false
deaf_move move.AddrHigh = false
deaf_move move.AddrLast = false
deaf_move move.Offset = false
deaf_move move.DataLow = false
deaf_move move.DataHigh = false
deaf_move move.ReadLow = false
deaf_move move.ReadHigh = false
deaf_move move.BankByte = false
deaf_move move.PullPaged = false
deaf_move move.PullRaw = false
deaf_move move.PullBank = false
deaf_move move.PushPaged = true
deaf_move move.PushRaw = true
deaf_move move.Stacked = false
deaf_move move.Relative = false
deaf_move move.JumpRead = false
deaf_move move.JumpAddr = false
deaf_move move.JumpData = false
deaf_move move.Call = true
deaf_move move.PcLowPaged = false
deaf_move move.PcLowHome = false
deaf_move move.PcHighPaged = false
deaf_move move.PcHighRaw = false
deaf_move move.ReturnLong = false
deaf_move move.Branch = false
deaf_move move.Take = false
deaf_move move.TakeLong = false
deaf_move move.MoveTo = false
deaf_move move.MoveFrom = false
deaf_move move.MoveStore = true
deaf_move move.MoveEnd = false

abbrev pub deaf_change : Change → Bool
deaf_change Keep = true
deaf_change (Operate Only) = false
deaf_change (Operate Low) = false
deaf_change (Operate High) = false
deaf_change (Fill Only) = false
deaf_change (Fill Low) = false
deaf_change (Fill High) = false
deaf_change Apply = false
deaf_change Mask = false
deaf_change Status = false
deaf_change Sign = false
deaf_change DirectLow = false
deaf_change DirectHigh = false
deaf_change MoveByte = false

abbrev pub deaf_to : To → Bool
deaf_to to.On = true
deaf_to to.End = true
deaf_to to.EndByte = false
deaf_to to.EndBank = true
deaf_to to.Taken = false
deaf_to to.Crossed = false
deaf_to to.Moved = false

abbrev pub silent : Ask → Move → Change → To → Bool
silent q m c t = implied (writing q) (deaf_move m && (deaf_change c && deaf_to t))

-- ---- a cycle after which the opcode may be read again
abbrev pub again : To → Bool
again to.On = false
again to.End = false
again to.EndByte = false
again to.EndBank = false
again to.Taken = false
again to.Crossed = false
again to.Moved = true

-- ---- so it is in every list
abbrev orderly : Shape → Option Cycle → Bool
orderly s None = true
orderly s (Some c) = (fine c.to c.change && silent c.ask c.step c.change c.to) && implied (again c.to) (moving s)

abbrev all_orderly : Shape → List (Option Cycle) → Bool
all_orderly s [] = true
all_orderly s (x ∷ cs) = orderly s x && all_orderly s cs

orderly_at : (s : Shape) (cs : List (Option Cycle)) (n : ℕ) → all_orderly s cs ≡ true → orderly s (get_or cs n None) ≡ true
orderly_at s [] n h = refl
orderly_at s (x ∷ cs) zero h = and_left (orderly s x) (all_orderly s cs) h
orderly_at s (x ∷ cs) (suc n) h = orderly_at s cs n (and_right (orderly s x) (all_orderly s cs) h)

lists_orderly : (s : Shape) (w d e : Bool) → all_orderly s (cycles_of s w d e) ≡ true
lists_orderly shape.Immediate true d e = refl
lists_orderly shape.Immediate false d e = refl
lists_orderly shape.Absolute true d e = refl
lists_orderly shape.Absolute false d e = refl
lists_orderly shape.Direct true true e = refl
lists_orderly shape.Direct true false e = refl
lists_orderly shape.Direct false true e = refl
lists_orderly shape.Direct false false e = refl
lists_orderly shape.StoreAbsolute true d e = refl
lists_orderly shape.StoreAbsolute false d e = refl
lists_orderly shape.StoreDirect true true e = refl
lists_orderly shape.StoreDirect true false e = refl
lists_orderly shape.StoreDirect false true e = refl
lists_orderly shape.StoreDirect false false e = refl
lists_orderly shape.Implied w d e = refl
lists_orderly shape.Xba w d e = refl
lists_orderly shape.Mask w d e = refl
lists_orderly shape.Wdm w d e = refl
lists_orderly shape.Push true d e = refl
lists_orderly shape.Push false d e = refl
lists_orderly shape.Pull true d e = refl
lists_orderly shape.Pull false d e = refl
lists_orderly shape.PullP w d e = refl
lists_orderly shape.PullB w d e = refl
lists_orderly shape.PullD w d e = refl
lists_orderly shape.Pea w d e = refl
lists_orderly shape.Pei w true e = refl
lists_orderly shape.Pei w false e = refl
lists_orderly shape.Per w d e = refl
lists_orderly shape.Jump w d e = refl
lists_orderly shape.JumpLong w d e = refl
lists_orderly shape.JumpIndirect w d e = refl
lists_orderly shape.JumpIndirectLong w d e = refl
lists_orderly shape.JumpIndexed w d e = refl
lists_orderly shape.Call w d e = refl
lists_orderly shape.CallIndexed w d e = refl
lists_orderly shape.CallLong w d e = refl
lists_orderly shape.Return w d e = refl
lists_orderly shape.ReturnLong w d e = refl
lists_orderly shape.Branch w d true = refl
lists_orderly shape.Branch w d false = refl
lists_orderly shape.BranchLong w d e = refl
lists_orderly shape.Move w d e = refl

phase_orderly : (s : Shape) (w d e : Bool) (tcu : ℕ) → orderly s (phase_of s w d e tcu) ≡ true
phase_orderly s w d e tcu = orderly_at s (cycles_of s w d e) tcu (lists_orderly s w d e)

-- ---- so is every cycle that a record may come to, which holds the opcode k
abbrev pub in_order : Option (Shape × Operation) → Micro → Bool
in_order k (Refuse n) = true
in_order k Fetch = true
in_order k (Held q m c t o) = (fine t c && silent q m c t) && implied (again t) (is_moving k)

carrying_in_order : (s : Shape) (o : Operation) (x : Option Cycle) → orderly s x ≡ true → in_order (Some (s, o)) (carrying o x) ≡ true
carrying_in_order s o None h = refl
carrying_in_order s o (Some c) h = h

held_in_order : (k : Option (Shape × Operation)) (f : Flags) (d tcu : ℕ) → in_order k (held_micro k f d tcu) ≡ true
held_in_order None f d tcu = refl
held_in_order (Some (s, o)) f d tcu =
    let w : Bool = wide_of o f.memsel f.indexsel in
    carrying_in_order s o (phase_of s w (unaligned d) f.emulation tcu) (phase_orderly s w (unaligned d) f.emulation tcu)

picked_in_order : (k : Option (Shape × Operation)) (w h : Bool) (m : Micro) → in_order k m ≡ true → in_order k (pick w (pick h m Fetch) (Refuse Malformed)) ≡ true
picked_in_order k true true m e = e
picked_in_order k true false m e = refl
picked_in_order k false h m e = refl

pub micro_in_order : (r : Record) → in_order (decode_of r.ir) (micro_of r) ≡ true
unfolding micro_of
micro_in_order r =
    picked_in_order (decode_of r.ir) (well_formed r) r.held (held_micro (decode_of r.ir) r.flags r.d r.tcu)
    (held_in_order (decode_of r.ir) r.flags r.d r.tcu)
