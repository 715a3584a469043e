-- What a cycle asks of the bus: direction, kind, 24-bit address and, for a write, the byte. It depends on the record alone.
use Rattle.std.specs.Prelude.{ℕ, true, false}
use Rattle.words.specs.Words.{low_of, high_of, inc, dec, sum16, at, sum24, page_one}
use Rattle.cpu.specs.Record.{regs_of, source_of, pulled}
use Rattle.cpu.specs.declared.types.Record.{Record}
use Rattle.cpu.specs.declared.types.Request.{Request}
use Rattle.cpu.specs.declared.types.Kind.{Kind}
use Rattle.cpu.specs.declared.types.Kind.TheVariants as kind
use Rattle.cpu.specs.declared.types.Stack.TheVariants as stack
use Rattle.opcodes.specs.Opcodes.{source_in}
use Rattle.opcodes.specs.declared.types.Operation.{Operation}
use Rattle.cycles.specs.declared.types.Ask.{Ask}
use Rattle.cycles.specs.declared.types.Ask.TheVariants.{Program, Idle, IdleBack, IdleAfter, IdleStack, IdleHome, Opcode, Far, FarNext, Near, NearNext, NearThird, Table, TableNext, PullPaged, PullRaw, PullHome, StoreFar, StoreFarNext, StoreNear, StoreNearNext, PushLow, PushHigh, PushPcLow, PushPcHigh, PushDataLow, PushDataHigh, PushPbr, MoveRead, MoveWrite, MoveIdle}

-- a read of a kind; a write is always of data
abbrev pub reads : Kind → ℕ → Request
reads k p = record { write = false; kind = k; addr = p; byte = 0 }

abbrev pub writes : ℕ → ℕ → Request
writes p v = record { write = true; kind = kind.Data; addr = p; byte = v }

-- the program's next byte; absolute data and the byte after, a 24-bit sum; an entry of a table
abbrev pub here : Record → ℕ
here r = at r.pbr r.pc

abbrev pub far : Record → ℕ
far r = at r.dbr r.tempaddr

abbrev pub far_next : Record → ℕ
far_next r = sum24 (far r) 1

abbrev pub entry : Record → ℕ
entry r = sum16 r.tempaddr r.x

-- what is stored or pushed
abbrev pub given : Operation → Record → ℕ
given o r = source_of (source_in o) (regs_of r) r.pbr r.dbr

abbrev pub pushes : Record → ℕ → Request
pushes r v = writes (at 0 r.s) v

abbrev pub ask_of : Ask → Operation → Record → Request
ask_of Program o r = reads kind.Program (here r)
ask_of Idle o r = reads kind.Invalid (here r)
ask_of IdleBack o r = reads kind.Invalid (at r.pbr (dec r.pc))
ask_of IdleAfter o r = reads kind.Invalid (at r.pbr r.tempdata)
ask_of IdleStack o r = reads kind.Invalid (at 0 (inc r.s))
ask_of IdleHome o r = reads kind.Invalid (at 0 (page_one r.flags.emulation r.s))
ask_of Opcode o r = reads kind.Opcode (here r)
ask_of Far o r = reads kind.Data (far r)
ask_of FarNext o r = reads kind.Data (far_next r)
ask_of Near o r = reads kind.Data (at 0 r.tempaddr)
ask_of NearNext o r = reads kind.Data (at 0 (inc r.tempaddr))
ask_of NearThird o r = reads kind.Data (at 0 (inc (inc r.tempaddr)))
ask_of Table o r = reads kind.Program (at r.pbr (entry r))
ask_of TableNext o r = reads kind.Program (at r.pbr (inc (entry r)))
ask_of PullPaged o r = reads kind.Data (at 0 (pulled stack.Paged r.flags.emulation r.s))
ask_of PullRaw o r = reads kind.Data (at 0 (pulled stack.Raw r.flags.emulation r.s))
ask_of PullHome o r = reads kind.Data (at 0 (pulled stack.Home r.flags.emulation r.s))
ask_of StoreFar o r = writes (far r) (low_of (given o r))
ask_of StoreFarNext o r = writes (far_next r) (high_of (given o r))
ask_of StoreNear o r = writes (at 0 r.tempaddr) (low_of (given o r))
ask_of StoreNearNext o r = writes (at 0 (inc r.tempaddr)) (high_of (given o r))
ask_of PushLow o r = pushes r (low_of (given o r))
ask_of PushHigh o r = pushes r (high_of (given o r))
ask_of PushPcLow o r = pushes r (low_of r.pc)
ask_of PushPcHigh o r = pushes r (high_of r.pc)
ask_of PushDataLow o r = pushes r (low_of r.tempdata)
ask_of PushDataHigh o r = pushes r (high_of r.tempdata)
ask_of PushPbr o r = pushes r r.pbr
ask_of MoveRead o r = reads kind.Data (at (low_of r.tempaddr) r.x)
ask_of MoveWrite o r = writes (at r.tempbank r.y) (low_of r.tempdata)
ask_of MoveIdle o r = reads kind.Invalid (at r.tempbank r.y)
