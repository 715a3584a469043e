use mathlib.Core.Path.{ap, ◌∙◌}
use Rattle.std.proofs.Common.{None}
use Rattle.session.specs.Sessions.{stepped}
use Rattle.session.specs.declared.types.Session.{Session}
use Rattle.session.proofs.ByTurn.{no_size, stops, goes_on}
use Rattle.session.proofs.session.cycled_by.Goals as goal

pub returns-then-mem-ne65536 : goal.returns-then-mem-ne65536
returns-then-mem-ne65536 c = no_size _ _ _ _ c.if-mem-ne65536.true c.stepped.ensures

pub returns-in_default : goal.returns-in_default
returns-in_default c =
    stops _ _ _ _ _ _ _ c.if-mem-ne65536.false c.turn-t.ensures.0 c.turn-t.ensures.1 c.in_default.is
    (rw (c.err.ensures.value, c.in_default.is) at c.stepped-in_default.ensures)

pub returns : goal.returns
returns c =
    goes_on _ _ _ _ _ _ _ _ c.if-mem-ne65536.false c.turn-t.ensures.0 c.turn-t.ensures.1 c.in-Ok.is
    (c.stepped-2.ensures ∙ ap (λ (z : Session). stepped z None) c.gone_on.ensures)
