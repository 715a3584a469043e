use Rattle.std.proofs.Common.{◌+◌, ◌-◌, ◌∙◌, arith}
use Rattle.course.proofs.Laws.{course_more, course_differs, course_end}
use Rattle.course.proofs.run.run.Goals as goal

pub returns-in_default : goal.returns-in_default
returns-in_default c =
    let x = c.args.p.count in
    let n = c.loop-done.done in
    rw (← c.record_of-r.ensures) (course_differs (x - n) (x - (n + 1)) _ _ _ _ _ _ (omega arith) c.turn-met.ensures c.in_default.is ∙ c.loop-done.invariant)

pub loop-done-preserved : goal.loop-done-preserved
loop-done-preserved c =
    let x = c.args.p.count in
    let n = c.loop-done.done in
    course_more (x - n) (x - (n + 1)) _ _ _ _ _ _ _ (omega arith) c.turn-met.ensures c.in-Ok.is c.next_place-at.ensures ∙ c.loop-done.invariant

pub returns : goal.returns
returns c =
    let x = c.args.p.count in
    let n = c.loop-done.done in
    rw (← c.record_of-r.ensures) (course_end (x - n) _ _ _ _ _ (omega arith) (omega arith) ∙ c.loop-done.invariant)
