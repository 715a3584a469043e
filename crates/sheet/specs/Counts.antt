-- Document 01's table "Cycles by instruction", with the instructions' lengths beside it.
-- w: 16 bits wide; d: the low byte of D isn't 0; e: emulation.
use Rattle.std.specs.Prelude.{ℕ, ◌+◌, Bool, true, false, not, ◌&&◌}
use Rattle.words.specs.Words.{pick, bit, low_of, up, displaced, same_page}
use Rattle.flags.specs.declared.Flags.{Flags}
use Rattle.cpu.specs.Record.{holds}
use Rattle.opcodes.specs.Opcodes.{cond_in}
use Rattle.opcodes.specs.declared.types.Operation.{Operation}
use Rattle.opcodes.specs.declared.types.Shape.{Shape}
use Rattle.opcodes.specs.declared.types.Shape.TheVariants.{Immediate, Absolute, Direct, StoreAbsolute, StoreDirect, Implied, Xba, Mask, Wdm, Push, Pull, PullP, PullB, PullD, Pea, Pei, Per, Jump, JumpLong, JumpIndirect, JumpIndirectLong, JumpIndexed, Call, CallIndexed, CallLong, Return, ReturnLong, Branch, BranchLong, Move}

-- the cycles of an instruction, and of each byte of a move; the opcode fetch is counted
-- taken: a branch's condition holds; page: it leads to another page
abbrev pub count_of : Shape → (w d e taken page : Bool) → ℕ
count_of Immediate w d e taken page = 2 + bit w
count_of Direct w d e taken page = 3 + bit w + bit d
count_of StoreDirect w d e taken page = 3 + bit w + bit d
count_of Absolute w d e taken page = 4 + bit w
count_of StoreAbsolute w d e taken page = 4 + bit w
count_of Implied w d e taken page = 2
count_of Xba w d e taken page = 3
count_of Mask w d e taken page = 3
count_of Wdm w d e taken page = 2
-- a push is as wide as its operation: PHP, PHB and PHK never are, PHD always is
count_of Push w d e taken page = 3 + bit w
count_of Pull w d e taken page = 4 + bit w
count_of PullP w d e taken page = 4
count_of PullB w d e taken page = 4
count_of PullD w d e taken page = 5
count_of Pea w d e taken page = 5
count_of Pei w d e taken page = 6 + bit d
count_of Per w d e taken page = 6
count_of Jump w d e taken page = 3
count_of JumpLong w d e taken page = 4
count_of JumpIndirect w d e taken page = 5
count_of JumpIndexed w d e taken page = 6
count_of JumpIndirectLong w d e taken page = 6
count_of Call w d e taken page = 6
count_of CallIndexed w d e taken page = 8
count_of CallLong w d e taken page = 8
count_of Return w d e taken page = 6
count_of ReturnLong w d e taken page = 6
count_of BranchLong w d e taken page = 4
count_of Branch w d e taken page = pick taken (pick (e && page) 4 3) 2
count_of Move w d e taken page = 7

-- an instruction's length in bytes
abbrev pub length_of : Shape → (w : Bool) → ℕ
length_of Immediate w = 2 + bit w
length_of Direct w = 2
length_of StoreDirect w = 2
length_of Absolute w = 3
length_of StoreAbsolute w = 3
length_of Implied w = 1
length_of Xba w = 1
length_of Mask w = 2
length_of Wdm w = 2
length_of Push w = 1
length_of Pull w = 1
length_of PullP w = 1
length_of PullB w = 1
length_of PullD w = 1
length_of Pea w = 3
length_of Pei w = 2
length_of Per w = 3
length_of Jump w = 3
length_of JumpLong w = 4
length_of JumpIndirect w = 3
length_of JumpIndexed w = 3
length_of JumpIndirectLong w = 3
length_of Call w = 3
length_of CallIndexed w = 3
length_of CallLong w = 4
length_of Return w = 1
length_of ReturnLong w = 1
length_of BranchLong w = 3
length_of Branch w = 2
length_of Move w = 3

-- whether the program counter goes elsewhere than past the instruction's own bytes: a branch by its condition; a move's
-- goes back to the opcode for each byte but the last
abbrev pub jumps : Shape → Operation → Flags → Bool
jumps Immediate o f = false
jumps Direct o f = false
jumps StoreDirect o f = false
jumps Absolute o f = false
jumps StoreAbsolute o f = false
jumps Implied o f = false
jumps Xba o f = false
jumps Mask o f = false
jumps Wdm o f = false
jumps Push o f = false
jumps Pull o f = false
jumps PullP o f = false
jumps PullB o f = false
jumps PullD o f = false
jumps Pea o f = false
jumps Pei o f = false
jumps Per o f = false
jumps Jump o f = true
jumps JumpLong o f = true
jumps JumpIndirect o f = true
jumps JumpIndexed o f = true
jumps JumpIndirectLong o f = true
jumps Call o f = true
jumps CallIndexed o f = true
jumps CallLong o f = true
jumps Return o f = true
jumps ReturnLong o f = true
jumps BranchLong o f = true
jumps Branch o f = holds (cond_in o) f
jumps Move o f = true

-- whether a branch with that displacement leads from the address after its operand to another page
abbrev pub crosses : (pc displacement : ℕ) → Bool
crosses pc displacement = not (same_page (up pc 2) (displaced (up pc 2) (low_of displacement)))
