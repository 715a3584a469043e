use borrow.Author.Rules.{rules}
use Rattle.opcodes.proofs.ListedRows.{listed_bit}
use Rattle.opcodes.proofs.opcode.listed.Goals as goal

pub returns : goal.returns
returns c = simp c.row.ensures (listed_bit c.args.op (search rules))
