-- The refusals of a cycle in document 01's words, written from its table of counts and not from the lists of cycles.
use Rattle.std.specs.Prelude.{ℕ, ◌≡◌, Bool, true, false, ◌&&◌, leb, ltb, Option, Some, None, Result, Ok, Err}
use Rattle.cpu.specs.declared.types.Request.{Request}
use Rattle.words.specs.Words.{pick}
use Rattle.flags.specs.declared.Flags.{Flags}
use Rattle.cpu.specs.Record.{well_formed}
use Rattle.cpu.specs.declared.types.Record.{Record}
use Rattle.cpu.specs.declared.types.Refusal.{Refusal}
use Rattle.cpu.specs.declared.types.Refusal.TheVariants.{Memory, Budget, Room, Malformed, Unlisted, NoCycle, Bank}
use Rattle.opcodes.specs.Opcodes.{decode_of, wide_of}
use Rattle.opcodes.specs.declared.types.Operation.{Operation}
use Rattle.opcodes.specs.declared.types.Shape.{Shape}
use Rattle.opcodes.specs.declared.types.Shape.TheVariants.{Immediate, Absolute, Direct, StoreAbsolute, StoreDirect, Implied, Xba, Mask, Wdm, Push, Pull, PullP, PullB, PullD, Pea, Pei, Per, Jump, JumpLong, JumpIndirect, JumpIndirectLong, JumpIndexed, Call, CallIndexed, CallLong, Return, ReturnLong, Branch, BranchLong, Move}
use Rattle.cycles.specs.Cycles.{unaligned}
use Rattle.sheet.specs.Counts.{count_of}

-- the first cycle of a held opcode: the fetch is cycle 0, and held cycle 0 exists for MVN and MVP only
abbrev pub first_of : Shape → ℕ
first_of Move = 0
first_of Immediate = 1
first_of Direct = 1
first_of StoreDirect = 1
first_of Absolute = 1
first_of StoreAbsolute = 1
first_of Implied = 1
first_of Xba = 1
first_of Mask = 1
first_of Wdm = 1
first_of Push = 1
first_of Pull = 1
first_of PullP = 1
first_of PullB = 1
first_of PullD = 1
first_of Pea = 1
first_of Pei = 1
first_of Per = 1
first_of Jump = 1
first_of JumpLong = 1
first_of JumpIndirect = 1
first_of JumpIndexed = 1
first_of JumpIndirectLong = 1
first_of Call = 1
first_of CallIndexed = 1
first_of CallLong = 1
first_of Return = 1
first_of ReturnLong = 1
first_of BranchLong = 1
first_of Branch = 1

-- the cycles that it may take: a branch's condition and page aren't looked at, so those of one that is taken, onto another page
abbrev pub longest_of : Shape → (w d e : Bool) → ℕ
longest_of s w d e = count_of s w d e true true

-- whether a held opcode has that cycle, at the record's widths, low byte of D and mode
abbrev pub existing : Shape → (w d e : Bool) → (tcu : ℕ) → Bool
existing s w d e tcu = leb (first_of s) tcu && ltb tcu (longest_of s w d e)

abbrev pub has_cycle : Shape → Operation → Flags → (d tcu : ℕ) → Bool
has_cycle s o f d tcu = existing s (wide_of o f.memsel f.indexsel) (unaligned d) f.emulation tcu

-- ---- document 01's table of refusals, for a record's next cycle; 1, 2, 3 and 7 are given by runs alone
abbrev pub Given : Refusal → Record → Type 0
Given Malformed r = well_formed r ≡ false
Given Unlisted r = (well_formed r ≡ true) × (r.held ≡ true) × (decode_of r.ir ≡ None)
Given NoCycle r = (well_formed r ≡ true) × (r.held ≡ true) × ((s : Shape) × ((o : Operation) × ((decode_of r.ir ≡ Some (s, o)) × (has_cycle s o r.flags r.d r.tcu ≡ false))))
Given Memory r = ⊥
Given Budget r = ⊥
Given Room r = ⊥
Given Bank r = ⊥

-- and last, once the byte is answered: 5 for a fetched one
abbrev pub GivenLast : Refusal → Record → (b : ℕ) → Type 0
GivenLast Unlisted r b = (well_formed r ≡ true) × (r.held ≡ false) × (decode_of b ≡ None)
GivenLast Malformed r b = ⊥
GivenLast NoCycle r b = ⊥
GivenLast Memory r b = ⊥
GivenLast Budget r b = ⊥
GivenLast Room r b = ⊥
GivenLast Bank r b = ⊥

-- ---- the same in its order, as the one refusal if there is one: 4, then 5 and 6 for a held opcode
abbrev pub held_refusal : Option (Shape × Operation) → Flags → (d tcu : ℕ) → Option Refusal
held_refusal None f d tcu = Some Unlisted
held_refusal (Some (s, o)) f d tcu = pick (has_cycle s o f d tcu) None (Some NoCycle)

unfoldable pub refusal_of : Record → Option Refusal
refusal_of r = pick (well_formed r) (pick r.held (held_refusal (decode_of r.ir) r.flags r.d r.tcu) None) (Some Malformed)

-- and last, once the byte is answered, 5 for a fetched one
abbrev pub fetch_refusal : (held : Bool) → Option (Shape × Operation) → Option Refusal
fetch_refusal true o = None
fetch_refusal false None = Some Unlisted
fetch_refusal false (Some (s, o)) = None

abbrev pub or_else : Option Refusal → Option Refusal → Option Refusal
or_else (Some n) later = Some n
or_else None later = later

unfoldable pub refusal_at : Record → (b : ℕ) → Option Refusal
refusal_at r b = or_else (refusal_of r) (fetch_refusal r.held (decode_of b))

-- ---- the refusal that a request or an answer is, if it is one
abbrev pub no_of : Result Request Refusal → Option Refusal
no_of (Ok q) = None
no_of (Err n) = Some n

abbrev pub refused_of : Result Record Refusal → Option Refusal
refused_of (Ok r) = None
refused_of (Err n) = Some n
