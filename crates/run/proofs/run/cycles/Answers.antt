use mathlib.Core.Path.{sym}
use native.Mathlib.Omega.{arith}
use Rattle.run.proofs.Laws.{left_done, left_stop, left_end, left_told, turned, still_well}
use Rattle.run.proofs.Stretches.{left_ahead}
use Rattle.run.proofs.run.cycles.Goals as goal

pub returns-in_default : goal.returns-in_default
returns-in_default c =
    let t = turned _ _ _ _ c.ahead-far.ensures.goes.1 c.well_micro.ensures c.turn-t.ensures.0 in
    let g = c.in_default.is in
    let far = left_ahead _ _ _ _ _ _ _ _ c.ahead-far.ensures.less c.ahead-far.ensures.goes.0 c.loop-done.invariant.2 in
    let a = left_stop _ _ _ _ _ _ _ _ (omega (arith, c.ahead-far.ensures.less)) t c.turn-t.ensures.1 g far in
    (rw (c.ended.ensures, c.err.ensures.value, g) (left_told _ _ _ _ _ a), sym a.mem)

pub loop-done-preserved : goal.loop-done-preserved
loop-done-preserved c =
    let t = turned _ _ _ _ c.ahead-far.ensures.goes.1 c.well_micro.ensures c.turn-t.ensures.0 in
    let g = c.in-Ok.is in
    let far = left_ahead _ _ _ _ _ _ _ _ c.ahead-far.ensures.less c.ahead-far.ensures.goes.0 c.loop-done.invariant.2 in (
      omega (arith, c.ahead-far.ensures.less),
      still_well _ _ _ _ _ t g,
      left_done _ _ _ _ _ _ _ _ _ (omega (arith, c.ahead-far.ensures.less)) t c.turn-t.ensures.1 g far,
    )

pub returns : goal.returns
returns c =
    let a = left_end _ _ _ _ _ c.loop-done-test.false c.loop-done.invariant.2 in
    (rw c.ended-2.ensures (left_told _ _ _ _ _ a), sym a.mem)
