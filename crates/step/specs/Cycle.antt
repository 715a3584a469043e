-- A cycle, for any record whatever: the request that it makes and, for any answered byte, the record after; or the refusal.
-- The refusals come in document 01's order: 4, then 5 and 6 of a held opcode, last 5 of a fetched byte.
use Rattle.std.specs.Prelude.{ℕ, Bool, Option, Result, Ok, Err}
use Rattle.opcodes.specs.declared.types.Operation.{Operation}
use Rattle.opcodes.specs.declared.types.Shape.{Shape}
use Rattle.cpu.specs.declared.types.Refusal.{Refusal}
use Rattle.cpu.specs.declared.types.Request.{Request}
use Rattle.words.specs.Words.{pick}
use Rattle.cpu.specs.Record.{well_formed, mid_of, regs_of, under_way}
use Rattle.cpu.specs.declared.types.Record.{Record}
use Rattle.cpu.specs.declared.types.Kind.TheVariants as kind
use Rattle.cpu.specs.declared.types.Refusal.TheVariants.{Malformed, Unlisted}
use Rattle.opcodes.specs.Opcodes.{decode_of, is_listed}
use Rattle.cycles.specs.Cycles.{held_micro}
use Rattle.cycles.specs.declared.types.Micro.{Micro}
use Rattle.cycles.specs.declared.types.Micro.TheVariants.{Refuse, Fetch, Held}
use Rattle.bus.specs.Bus.{reads, here, ask_of}
use Rattle.mid.specs.Mid.{past}
use Rattle.act.specs.Act.{act_of}

-- what a well-formed record's next cycle does, and any record's
abbrev pub well_micro : Record → Micro
well_micro r = pick r.held (held_micro (decode_of r.ir) r.flags r.d r.tcu) Fetch

unfoldable pub micro_of : Record → Micro
micro_of r = pick (well_formed r) (well_micro r) (Refuse Malformed)

-- the opcode's byte: where it is known, the first cycle of its instruction comes next
abbrev pub begun_if : Bool → Record → ℕ → Result Record Refusal
begun_if known r b = pick known (Ok (under_way b 1 r.pbr (regs_of r) (past (mid_of r)))) (Err Unlisted)

abbrev pub begun : Option (Shape × Operation) → Record → ℕ → Result Record Refusal
begun o r b = begun_if (is_listed o) r b

abbrev pub asked_by : Micro → Record → Result Request Refusal
asked_by (Refuse n) r = Err n
asked_by Fetch r = Ok (reads kind.Opcode (here r))
asked_by (Held q m c t o) r = Ok (ask_of q o r)

abbrev pub answered_by : Micro → Record → ℕ → Result Record Refusal
answered_by (Refuse n) r b = Err n
answered_by Fetch r b = begun (decode_of b) r b
answered_by (Held q m c t o) r b = Ok (act_of m c t o r b)

unfoldable pub request_of : Record → Result Request Refusal
request_of r = asked_by (micro_of r) r

unfoldable pub answer_of : Record → ℕ → Result Record Refusal
answer_of r b = answered_by (micro_of r) r b
