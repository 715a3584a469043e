use mathlib.Core.Path.{sym, ◌∙◌}
use Rattle.packed.proofs.RoundTrip.{put_back}
use Rattle.cycle_port.proofs.Laws.{came_some, answer_refused, answer_next}
use Rattle.cycle_port.proofs.cycle.glavorint_answer.Goals as goal

pub returns-in-Err : goal.returns-in-Err
returns-in-Err c =
    let e = answer_refused c.args.rec.now c.args.byte _ _ c.answered-a.ensures c.in-Err.is in
    (rw (e, c.from.ensures), rw e)

pub returns-in-Ok : goal.returns-in-Ok
returns-in-Ok c =
    let a = c.answered-a.ensures in
    let e = answer_next c.args.rec.now c.args.byte _ _ a c.in-Ok.is in
    let u = came_some _ _ _ (sym a ∙ c.in-Ok.is) in
    (rw e, rw e (put_back c.args.rec.now _ _ _ _ u.1 c.pack-after.ensures c.put.ensures))
