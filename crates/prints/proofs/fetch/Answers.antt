use mathlib.Core.Bool.{false}
use Rattle.prints.proofs.Laws.{drawn_line}
use borrow.Author.Rules.{rules}
use Rattle.prints.proofs.fetch.Goals as goal

pub returns : goal.returns
returns c =
    let u = c.put_near-q.ensures in
    rw c.mark_of.ensures
    (drawn_line _ _ c.args.m _ _ c.args.kind false c.args.p c.args.byte (search rules) (search rules) (rw (c.marks.ensures, c.tail.ensures) at u) c.turned.ensures)
