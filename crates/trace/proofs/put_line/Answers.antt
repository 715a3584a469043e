use native.Mathlib.Omega.{arith}
use mathlib.Core.Path.{sym, ◌∙◌}
use borrow.Author.Tests.{leb-true, leb-false}
use Rattle.trace.proofs.Laws.{line_length, wrote_put, full_put}
use Rattle.trace.proofs.put_line.Goals as goal

pub write_line-requires : goal.write_line-requires
write_line-requires c =
    let t = sym c.line_has_room.ensures ∙ c.if-line_has_room.true in
    omega (arith, leb-true, line_length c.args.n c.args.line)

pub returns-then-line_has_room : goal.returns-then-line_has_room
returns-then-line_has_room c =
    let t = sym c.line_has_room.ensures ∙ c.if-line_has_room.true in
    wrote_put (omega (arith, leb-true, line_length c.args.n c.args.line)) c.write_line.ensures

pub returns : goal.returns
returns c =
    let t = sym c.line_has_room.ensures ∙ c.if-line_has_room.false in
    full_put (omega (arith, leb-false, line_length c.args.n c.args.line))
