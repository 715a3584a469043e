-- What a cycle does to PC, S, DBR and the scratch words.
use Rattle.std.specs.Prelude.{ℕ, Bool, eqb}
use Rattle.words.specs.Words.{pick, low_of, word, low_set, inc, dec, sum16, displaced}
use Rattle.cpu.specs.Registers.{stack_of}
use Rattle.cpu.specs.Record.{mid_of, regs_of, pushed, pulled}
use Rattle.cpu.specs.declared.types.Record.{Record}
use Rattle.cpu.specs.declared.types.Mid.{Mid}
use Rattle.cpu.specs.declared.types.Stack.TheVariants.{Paged, Raw, Home}
use Rattle.opcodes.specs.Opcodes.{one_in}
use Rattle.opcodes.specs.declared.types.Operation.{Operation}
use Rattle.cycles.specs.declared.types.Move.{Move}
use Rattle.cycles.specs.declared.types.Move.TheVariants.{Stay, Step, AddrLow, AddrHigh, AddrLast, Offset, DataLow, DataHigh, ReadLow, ReadHigh, BankByte, PullPaged, PullRaw, PullBank, PushPaged, PushRaw, Stacked, Relative, JumpRead, JumpAddr, JumpData, Call, PcLowPaged, PcLowHome, PcHighPaged, PcHighRaw, ReturnLong, Branch, Take, TakeLong, MoveTo, MoveFrom, MoveStore, MoveEnd}

-- one setter a field
abbrev pub set_pc : ℕ → Mid → Mid
set_pc v t = record { pc = v; s = t.s; dbr = t.dbr; tempaddr = t.tempaddr; tempdata = t.tempdata; tempbank = t.tempbank }

abbrev pub set_s : ℕ → Mid → Mid
set_s v t = record { pc = t.pc; s = v; dbr = t.dbr; tempaddr = t.tempaddr; tempdata = t.tempdata; tempbank = t.tempbank }

abbrev pub set_dbr : ℕ → Mid → Mid
set_dbr v t = record { pc = t.pc; s = t.s; dbr = v; tempaddr = t.tempaddr; tempdata = t.tempdata; tempbank = t.tempbank }

abbrev pub set_addr : ℕ → Mid → Mid
set_addr v t = record { pc = t.pc; s = t.s; dbr = t.dbr; tempaddr = v; tempdata = t.tempdata; tempbank = t.tempbank }

abbrev pub set_data : ℕ → Mid → Mid
set_data v t = record { pc = t.pc; s = t.s; dbr = t.dbr; tempaddr = t.tempaddr; tempdata = v; tempbank = t.tempbank }

abbrev pub set_bank : ℕ → Mid → Mid
set_bank v t = record { pc = t.pc; s = t.s; dbr = t.dbr; tempaddr = t.tempaddr; tempdata = t.tempdata; tempbank = v }

-- the program counter one further
abbrev pub past : Mid → Mid
past t = set_pc (inc t.pc) t

-- where a branch goes
abbrev pub target : Record → ℕ
target r = displaced r.pc (low_of r.tempaddr)

-- a move's last byte, after which A is FFFF, steps past the operand; another one goes back to the opcode
abbrev pub last_byte : Record → Bool
last_byte r = eqb (dec r.a) 0xFFFF

abbrev pub mid_after : Move → Operation → Record → ℕ → Mid
mid_after Stay o r b = mid_of r
mid_after Step o r b = past (mid_of r)
mid_after AddrLow o r b = set_addr b (past (mid_of r))
mid_after AddrHigh o r b = set_addr (word r.tempaddr b) (past (mid_of r))
mid_after AddrLast o r b = set_addr (word r.tempaddr b) (mid_of r)
mid_after Offset o r b = set_addr (sum16 r.d b) (past (mid_of r))
mid_after DataLow o r b = set_data b (past (mid_of r))
mid_after DataHigh o r b = set_data (word r.tempdata b) (past (mid_of r))
mid_after ReadLow o r b = set_data b (mid_of r)
mid_after ReadHigh o r b = set_data (word r.tempdata b) (mid_of r)
mid_after BankByte o r b = set_bank b (mid_of r)
mid_after PullPaged o r b = set_s (pulled Paged r.flags.emulation r.s) (mid_of r)
mid_after PullRaw o r b = set_s (pulled Raw r.flags.emulation r.s) (mid_of r)
mid_after PullBank o r b = set_dbr b (set_s (pulled Raw r.flags.emulation r.s) (mid_of r))
mid_after PushPaged o r b = set_s (pushed r.flags.emulation r.s) (mid_of r)
mid_after PushRaw o r b = set_s (dec r.s) (mid_of r)
mid_after Stacked o r b = set_s (stack_of (one_in o) r.s (regs_of r)) (mid_of r)
mid_after Relative o r b = set_data (sum16 r.pc r.tempaddr) (mid_of r)
mid_after JumpRead o r b = set_pc (word r.tempdata b) (mid_of r)
mid_after JumpAddr o r b = set_pc r.tempaddr (mid_of r)
mid_after JumpData o r b = set_pc r.tempdata (mid_of r)
mid_after Call o r b = set_pc r.tempaddr (set_s (dec r.s) (mid_of r))
mid_after PcLowPaged o r b = set_pc (low_set r.pc b) (set_s (pulled Paged r.flags.emulation r.s) (mid_of r))
mid_after PcLowHome o r b = set_pc (low_set r.pc b) (set_s (pulled Home r.flags.emulation r.s) (mid_of r))
mid_after PcHighPaged o r b = set_pc (word r.pc b) (set_s (pulled Paged r.flags.emulation r.s) (mid_of r))
mid_after PcHighRaw o r b = set_pc (word r.pc b) (set_s (pulled Raw r.flags.emulation r.s) (mid_of r))
mid_after ReturnLong o r b = past (set_s (pulled Raw r.flags.emulation r.s) (mid_of r))
mid_after Branch o r b = set_addr b (set_data (inc r.pc) (past (mid_of r)))
mid_after Take o r b = set_pc (target r) (mid_of r)
mid_after TakeLong o r b = set_pc (sum16 (inc r.pc) r.tempaddr) (mid_of r)
mid_after MoveTo o r b = set_bank b (past (mid_of r))
mid_after MoveFrom o r b = set_addr b (mid_of r)
mid_after MoveStore o r b = set_dbr r.tempbank (mid_of r)
mid_after MoveEnd o r b = set_pc (pick (last_byte r) (inc r.pc) (dec (dec r.pc))) (mid_of r)
