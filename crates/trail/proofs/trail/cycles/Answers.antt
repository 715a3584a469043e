use Rattle.run.proofs.Laws.{turned}
use Rattle.trail.proofs.Going.{going_start, going_on, going_ahead, going_stop, going_end, one_more}
use Rattle.trail.proofs.trail.cycles.Goals as goal

pub loop-done-init : goal.loop-done-init
loop-done-init c = going_start _ _ _ _ _ _ c.requires.budget_bound.1 c.requires.well

pub returns-in_default : goal.returns-in_default
returns-in_default c =
    let z = going_ahead _ _ _ _ _ _ _ _ _ _ _ c.loop-done.invariant _ _ _ _ c.loop-done-test.true c.requires.budget_bound.0 (c.ahead-far.ensures.driven, c.ahead-far.ensures.passes) in
    let t = turned _ _ _ _ z.well c.well_micro.ensures c.turn-t.ensures.0 in
    let u = c.in_default.is in
    rw (c.told.ensures, c.err.ensures.value, u) (going_stop _ _ _ _ _ _ _ _ _ _ _ z _ _ _ (one_more _ _ _ c.loop-done-test.true c.ahead-far.ensures.passes.2) t c.turn-t.ensures.1 u)

pub loop-done-preserved : goal.loop-done-preserved
loop-done-preserved c =
    let z = going_ahead _ _ _ _ _ _ _ _ _ _ _ c.loop-done.invariant _ _ _ _ c.loop-done-test.true c.requires.budget_bound.0 (c.ahead-far.ensures.driven, c.ahead-far.ensures.passes) in
    let t = turned _ _ _ _ z.well c.well_micro.ensures c.turn-t.ensures.0 in
    going_on
    _ _ _ _ _ _ _ _ _ _ _
    z
    _ _ _ _ _ _
    (one_more _ _ _ c.loop-done-test.true c.ahead-far.ensures.passes.2)
    c.requires.budget_bound.0
    t
    c.turn-t.ensures.1
    c.in-Ok.is
    c.put_line-place.ensures

pub returns : goal.returns
returns c = rw c.told-2.ensures (going_end _ _ _ _ _ _ _ _ _ _ _ c.loop-done.invariant c.loop-done-test.false)
