-- Demand 1: any record asks, and any record and answered byte is accepted, or it is refused by a number of document 01's list; no caller
-- checks first.
-- What a refusal is given for stands in Refusals; here: the two entries refuse alike, and after a write the byte is ignored.
use Prim.Native.Nat.{ℕ, ◌≤◌}
use Rattle.opcodes.specs.declared.types.Shape.{Shape}
use Rattle.std.proofs.Common.{Option, Result, Ok, Err}
use mathlib.Core.Path.{◌≡◌, refl, sym, ap, subst, ◌∙◌}
use mathlib.Core.List.{[]}
use mathlib.Core.Logic.{◌⊎◌, inl, inr}
use lib.ListN.{length}
use mathlib.Core.Bool.{Bool, true, false, ◌&&◌}
use Rattle.cpu.specs.Record.{number_of}
use Rattle.cpu.specs.declared.types.Record.{Record}
use Rattle.cpu.specs.declared.types.Refusal.{Refusal}
use Rattle.cpu.specs.declared.types.Request.{Request}
use Rattle.opcodes.specs.Opcodes.{decode_of}
use Rattle.opcodes.specs.declared.types.Operation.{Operation}
use Rattle.cpu.specs.declared.types.Part.TheVariants.{Only, Low, High}
use Rattle.cycles.specs.declared.types.Ask.{Ask as Asks}
use Rattle.cycles.specs.declared.types.Ask.TheVariants as ask
use Rattle.cycles.specs.declared.types.Move.{Move}
use Rattle.cycles.specs.declared.types.Move.TheVariants as move
use Rattle.cycles.specs.declared.types.Change.{Change}
use Rattle.cycles.specs.declared.types.Change.TheVariants as change
use Rattle.cycles.specs.declared.types.To.{To}
use Rattle.cycles.specs.declared.types.To.TheVariants as to
use Rattle.cycles.specs.declared.types.Micro.{Micro}
use Rattle.cycles.specs.declared.types.Micro.TheVariants.{Refuse, Fetch, Held}
use Rattle.bus.specs.Bus.{ask_of}
use Rattle.mid.specs.Mid.{mid_after}
use Rattle.act.specs.Act.{regs_after, way_of, act_of}
use Rattle.step.specs.Answers.{answer_number, asked_number, asked_values}
use Rattle.step.specs.Cycle.{micro_of, asked_by, answered_by, request_of, answer_of}
use Rattle.sheet.proofs.Walk.{and_left, and_right, false_true}
use Rattle.sheet.proofs.Rows.{writing, deaf_move, deaf_change, deaf_to, fine, silent, in_order, micro_in_order}
use Rattle.sheet.proofs.Refusals.{request_numbers, answer_numbers}

-- ---- accepted, or refused by 4, 5 or 6
pub data Outcome (a : Result Record Refusal) : Type 0 where
  accepted : (s : Record) → a ≡ Ok s → Outcome a
  refused : (n : Refusal) → a ≡ Err n → 4 ≤ number_of n → number_of n ≤ 6 → Outcome a

outcome : (r : Record) (b : ℕ) (a : Result Record Refusal) → answer_of r b ≡ a → Outcome a
outcome r b (Ok s) e = accepted s refl
outcome r b (Err n) e = refused n refl (answer_numbers r b n e).0 (answer_numbers r b n e).1

-- Demand 1, for a cycle.
pub demand_1 : (r : Record) (b : ℕ) → Outcome (answer_of r b)
demand_1 r b = outcome r b (answer_of r b) refl

-- and for its request: asked, or refused by 4, 5 or 6
pub data Question (a : Result Request Refusal) : Type 0 where
  asked : (q : Request) → a ≡ Ok q → Question a
  declined : (n : Refusal) → a ≡ Err n → 4 ≤ number_of n → number_of n ≤ 6 → Question a

question : (r : Record) (a : Result Request Refusal) → request_of r ≡ a → Question a
question r (Ok q) e = asked q refl
question r (Err n) e = declined n refl (request_numbers r n e).0 (request_numbers r n e).1

pub demand_1_request : (r : Record) → Question (request_of r)
demand_1_request r = question r (request_of r) refl

-- In document 01's numbers: 0 for accepted, or 4 to 6.
numbers : (a : Result Record Refusal) → Outcome a → (answer_number a ≡ 0) ⊎ ((4 ≤ answer_number a) × (answer_number a ≤ 6))
numbers a (accepted s e) = inl (ap answer_number e)
numbers a (refused n e p q) =
    inr (subst (λ (x : Result Record Refusal). (4 ≤ answer_number x) × (answer_number x ≤ 6)) (sym e) (p, q))

pub demand_1_numbers : (r : Record) (b : ℕ) → let n : ℕ = answer_number (answer_of r b) in (n ≡ 0) ⊎ ((4 ≤ n) × (n ≤ 6))
demand_1_numbers r b = numbers (answer_of r b) (demand_1 r b)

-- A request that is made has its four values and the number 0; one that is refused has no values, and 4 to 6.
abbrev Told : Result Request Refusal → Type 0
Told a =
    ((asked_number a ≡ 0) × (length (asked_values a) ≡ 4)) ⊎ ((4 ≤ asked_number a) × (asked_number a ≤ 6) × (asked_values a ≡ []))

told : (a : Result Request Refusal) → Question a → Told a
told a (asked q e) = subst Told (sym e) (inl (refl, refl))
told a (declined n e p q) = subst Told (sym e) (inr (p, q, refl))

pub demand_1_request_numbers : (r : Record) → Told (request_of r)
demand_1_request_numbers r = told (request_of r) (demand_1_request r)

-- ---- what the request refuses, the answer refuses, whatever the byte
refused_by : (m : Micro) (r : Record) (b : ℕ) (n : Refusal) → asked_by m r ≡ Err n → answered_by m r b ≡ Err n
refused_by (Refuse k) r b n e = let same : k ≡ n = cc in ap Err same
refused_by Fetch r b n e = absurd (ask_no e)
  where
    ask_no : {q : Request} → Ok q ≡ Err n → ⊥
    ask_no h = let z : ◌≡◌ {A = Bool} false true = cc in false_true z
refused_by (Held q m c t o) r b n e = absurd (ask_no e)
  where
    ask_no : {q : Request} → Ok q ≡ Err n → ⊥
    ask_no h = let z : ◌≡◌ {A = Bool} false true = cc in false_true z

pub refused_alike : (r : Record) (b : ℕ) (n : Refusal) → request_of r ≡ Err n → answer_of r b ≡ Err n
unfolding request_of answer_of
refused_alike r b n e = refused_by (micro_of r) r b n e

-- ---- after a write the byte is ignored
writes_so : (q : Asks) (o : Operation) (r : Record) → (ask_of q o r).write ≡ writing q
writes_so ask.Program o r = refl
writes_so ask.Idle o r = refl
writes_so ask.IdleBack o r = refl
writes_so ask.IdleAfter o r = refl
writes_so ask.IdleStack o r = refl
writes_so ask.IdleHome o r = refl
writes_so ask.Opcode o r = refl
writes_so ask.Far o r = refl
writes_so ask.FarNext o r = refl
writes_so ask.Near o r = refl
writes_so ask.NearNext o r = refl
writes_so ask.NearThird o r = refl
writes_so ask.Table o r = refl
writes_so ask.TableNext o r = refl
writes_so ask.PullPaged o r = refl
writes_so ask.PullRaw o r = refl
writes_so ask.PullHome o r = refl
writes_so ask.StoreFar o r = refl
writes_so ask.StoreFarNext o r = refl
writes_so ask.StoreNear o r = refl
writes_so ask.StoreNearNext o r = refl
writes_so ask.PushLow o r = refl
writes_so ask.PushHigh o r = refl
writes_so ask.PushPcLow o r = refl
writes_so ask.PushPcHigh o r = refl
writes_so ask.PushDataLow o r = refl
writes_so ask.PushDataHigh o r = refl
writes_so ask.PushPbr o r = refl
writes_so ask.MoveRead o r = refl
writes_so ask.MoveWrite o r = refl
writes_so ask.MoveIdle o r = refl

move_deaf : (m : Move) (o : Operation) (r : Record) (b c : ℕ) → deaf_move m ≡ true → mid_after m o r b ≡ mid_after m o r c
move_deaf move.Stay o r b c h = refl
move_deaf move.Step o r b c h = absurd (false_true h)
move_deaf move.AddrLow o r b c h = absurd (false_true h)
move_deaf move.AddrHigh o r b c h = absurd (false_true h)
move_deaf move.AddrLast o r b c h = absurd (false_true h)
move_deaf move.Offset o r b c h = absurd (false_true h)
move_deaf move.DataLow o r b c h = absurd (false_true h)
move_deaf move.DataHigh o r b c h = absurd (false_true h)
move_deaf move.ReadLow o r b c h = absurd (false_true h)
move_deaf move.ReadHigh o r b c h = absurd (false_true h)
move_deaf move.BankByte o r b c h = absurd (false_true h)
move_deaf move.PullPaged o r b c h = absurd (false_true h)
move_deaf move.PullRaw o r b c h = absurd (false_true h)
move_deaf move.PullBank o r b c h = absurd (false_true h)
move_deaf move.PushPaged o r b c h = refl
move_deaf move.PushRaw o r b c h = refl
move_deaf move.Stacked o r b c h = absurd (false_true h)
move_deaf move.Relative o r b c h = absurd (false_true h)
move_deaf move.JumpRead o r b c h = absurd (false_true h)
move_deaf move.JumpAddr o r b c h = absurd (false_true h)
move_deaf move.JumpData o r b c h = absurd (false_true h)
move_deaf move.Call o r b c h = refl
move_deaf move.PcLowPaged o r b c h = absurd (false_true h)
move_deaf move.PcLowHome o r b c h = absurd (false_true h)
move_deaf move.PcHighPaged o r b c h = absurd (false_true h)
move_deaf move.PcHighRaw o r b c h = absurd (false_true h)
move_deaf move.ReturnLong o r b c h = absurd (false_true h)
move_deaf move.Branch o r b c h = absurd (false_true h)
move_deaf move.Take o r b c h = absurd (false_true h)
move_deaf move.TakeLong o r b c h = absurd (false_true h)
move_deaf move.MoveTo o r b c h = absurd (false_true h)
move_deaf move.MoveFrom o r b c h = absurd (false_true h)
move_deaf move.MoveStore o r b c h = refl
move_deaf move.MoveEnd o r b c h = absurd (false_true h)

change_deaf : (k : Change) (o : Operation) (r : Record) (b c : ℕ) → deaf_change k ≡ true → regs_after k o r b ≡ regs_after k o r c
change_deaf change.Keep o r b c h = refl
change_deaf (change.Operate Only) o r b c h = absurd (false_true h)
change_deaf (change.Operate Low) o r b c h = absurd (false_true h)
change_deaf (change.Operate High) o r b c h = absurd (false_true h)
change_deaf (change.Fill Only) o r b c h = absurd (false_true h)
change_deaf (change.Fill Low) o r b c h = absurd (false_true h)
change_deaf (change.Fill High) o r b c h = absurd (false_true h)
change_deaf change.Apply o r b c h = absurd (false_true h)
change_deaf change.Mask o r b c h = absurd (false_true h)
change_deaf change.Status o r b c h = absurd (false_true h)
change_deaf change.Sign o r b c h = absurd (false_true h)
change_deaf change.DirectLow o r b c h = absurd (false_true h)
change_deaf change.DirectHigh o r b c h = absurd (false_true h)
change_deaf change.MoveByte o r b c h = absurd (false_true h)

to_deaf : (t : To) (o : Operation) (r : Record) (b c : ℕ) → deaf_to t ≡ true → way_of t o r b ≡ way_of t o r c
to_deaf to.On o r b c h = refl
to_deaf to.End o r b c h = refl
to_deaf to.EndByte o r b c h = absurd (false_true h)
to_deaf to.EndBank o r b c h = refl
to_deaf to.Taken o r b c h = absurd (false_true h)
to_deaf to.Crossed o r b c h = absurd (false_true h)
to_deaf to.Moved o r b c h = absurd (false_true h)

module _ (r : Record) (b c : ℕ) where
  act_deaf : (m : Move) (k : Change) (t : To) (o : Operation) → (deaf_move m && (deaf_change k && deaf_to t)) ≡ true → act_of m k t o r b ≡ act_of m k t o r c
  act_deaf m k t o h =
      let rest : (deaf_change k && deaf_to t) ≡ true = and_right (deaf_move m) (deaf_change k && deaf_to t) h in
      rw (
        move_deaf m o r b c (and_left (deaf_move m) (deaf_change k && deaf_to t) h),
        change_deaf k o r b c (and_left (deaf_change k) (deaf_to t) rest),
        to_deaf t o r b c (and_right (deaf_change k) (deaf_to t) rest),
      )

  held_ignores : (q : Asks) (m : Move) (k : Change) (t : To) (o : Operation) → silent q m k t ≡ true → writing q ≡ true → act_of m k t o r b ≡ act_of m k t o r c
  held_ignores q m k t o h w = act_deaf m k t o (rw w at h)

  written : {p q : Request} → ◌≡◌ {A = Result Request Refusal} (Ok p) (Ok q) → q.write ≡ true → p.write ≡ true
  written {p} {q} e w = let same : p ≡ q = cc in ap (λ (x : Request). x.write) same ∙ w

  micro_ignores : (k : Option (Shape × Operation)) (m : Micro) (q : Request) → in_order k m ≡ true → asked_by m r ≡ Ok q → q.write ≡ true → answered_by m r b ≡ answered_by m r c
  micro_ignores l (Refuse n) q i e w = refl
  micro_ignores l Fetch q i e w = absurd (false_true (written e w))
  micro_ignores l (Held p m k t o) q i e w =
      let f : (fine t k && silent p m k t) ≡ true = and_left _ _ i in
      ap Ok (held_ignores p m k t o (and_right (fine t k) (silent p m k t) f) (sym (writes_so p o r) ∙ written e w))

pub write_ignores : (r : Record) (b c : ℕ) (q : Request) → request_of r ≡ Ok q → q.write ≡ true → answer_of r b ≡ answer_of r c
unfolding request_of answer_of
write_ignores r b c q e w = micro_ignores r b c (decode_of r.ir) (micro_of r) q (micro_in_order r) e w
