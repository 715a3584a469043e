use native.Mathlib.Omega.{arith}
use mathlib.Core.Path.{sym, ◌∙◌}
use Rattle.trace.proofs.Decimal.{decimal_short}
use Rattle.trace.proofs.Laws.{room_any}
use Rattle.trace.proofs.line_has_room.Goals as goal

pub returns-then-has_room : goal.returns-then-has_room
returns-then-has_room c =
    room_any c.args.len c.args.at c.args.n (omega arith) (sym c.has_room.ensures ∙ c.if-has_room.true)

pub overflow_add-width : goal.overflow_add-width
overflow_add-width c = omega (arith, c.width.ensures, decimal_short 9 c.args.n (omega arith))
