use native.Mathlib.Omega.{arith}
use lib.ListN.{get_or}
use Rattle.cpu.specs.declared.types.Kind.TheVariants.{Data}
use Rattle.prints.proofs.Laws.{drawn_line}
use borrow.Author.Rules.{rules}
use Rattle.prints.proofs.datum_line.Goals as goal

pub returns : goal.returns
returns c =
    let u = c.put_near-q.ensures in
    rw c.mark_of.ensures
    (drawn_line _ _ c.args.m _ _ Data c.args.store c.args.p (get_or c.args.mem.now c.args.p 0) (search rules) (search rules) (rw (c.data_marks.ensures, c.tail.ensures) at u) c.turned.ensures)
