use mathlib.Core.Path.{ap}
use native.Mathlib.Omega.{arith}
use Rattle.stride.specs.declared.types.Stretch.{Stretch}
use Rattle.run.proofs.Stretches.{no_stride, strode, stopped}
use Rattle.run.proofs.Far.{far_start, far_more, far_stopped, far_ended}
use Rattle.run.proofs.run.paces.Goals as goal

pub loop-left-init : goal.loop-left-init
loop-left-init g c =
    let p = g.P.Pace in
    (omega arith, c.requires.2, c.requires.0, c.requires.1, no_stride _ _ _, far_start p.turn p.memory p.FLOOR _ _ _)

pub returns-then-t-eq0-clause-goes : goal.returns-then-t-eq0-clause-goes
returns-then-t-eq0-clause-goes g c =
    (stopped _ _ _ _ _ _ c.loop-left.invariant.0 c.loop-left.invariant.1 c.loop-left.invariant.4 _ _ _ (c.go-t.ensures.paced c.loop-left.invariant.2 c.loop-left.invariant.3).goes c.if-t-eq0.true c.stretch_of.ensures).0

pub returns-then-t-eq0-clause-far : goal.returns-then-t-eq0-clause-far
returns-then-t-eq0-clause-far g c =
    let p = g.P.Pace in
    far_stopped p.turn p.memory p.FLOOR _ _ _ _ _ _ c.loop-left.invariant.0 c.loop-left.invariant.5 _ _ c.go-t.ensures.value.0 c.if-t-eq0.true (ap (λ (v : Stretch). v.cycles) c.stretch_of.ensures)

pub loop-left-preserved : goal.loop-left-preserved
loop-left-preserved g c =
    let p = g.P.Pace in
    let y = c.go-t.ensures.paced c.loop-left.invariant.2 c.loop-left.invariant.3 in
    let s = y.short in
    let n = c.loop-left-test.true in (
      omega (arith, c.loop-left.invariant.0),
      omega (arith, s, n),
      y.goes.1,
      y.again,
      strode _ _ _ _ _ _ c.loop-left.invariant.0 c.loop-left.invariant.1 c.loop-left.invariant.4 _ _ _ (omega (arith, s, n)) y.goes.0,
      far_more p.turn p.memory p.FLOOR _ _ _ _ _ _ c.loop-left.invariant.0 c.loop-left.invariant.5 (omega (arith, n)) _ _ c.go-t.ensures.value (omega (arith, s, n)) c.if-t-eq0.false,
    )

pub returns-clause-far : goal.returns-clause-far
returns-clause-far g c =
    let p = g.P.Pace in
    far_ended p.turn p.memory p.FLOOR _ _ _ _ _ _ c.loop-left.invariant.0 c.loop-left.invariant.5 _ (omega (arith, c.loop-left-test.false)) (ap (λ (v : Stretch). v.cycles) c.stretch_of-2.ensures)
