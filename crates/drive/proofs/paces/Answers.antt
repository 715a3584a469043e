use mathlib.Core.Path.{ap, ◌∙◌}
use native.Mathlib.Omega.{arith}
use Rattle.run.proofs.Far.{far_start, far_more, far_stopped, far_ended}
use Rattle.drive.specs.declared.types.Walk.{Walk}
use Rattle.prints.specs.declared.Mark.{Mark}
use Rattle.drive.proofs.Walks.{shows_start, walked_start, room_left, walked_on, shows_on, walked_stop}
use Rattle.drive.proofs.paces.Goals as goal

pub loop-left-init : goal.loop-left-init
loop-left-init g c =
    let p = g.P.Pace in
    let k = c.mark_of-m.ensures in (
      omega arith,
      c.requires.begins.2,
      c.requires.begins.1,
      shows_start _ _ _ (ap (λ (v : Mark). v.dial) k ∙ c.dial_of.ensures),
      walked_start _ _ _ _ _ _ _ (ap (λ (v : Mark). v.place) k) c.requires.begins.0,
      far_start p.turn p.memory p.FLOOR _ _ _,
    )

pub lined-requires : goal.lined-requires
lined-requires g c =
    let i = c.loop-left.invariant in
    let u = room_left _ _ _ _ _ _ _ _ _ _ _ i.0 c.requires.budget_bound.0 i.4 i.3 c.requires.budget_bound.1 in
    (i.4.well, i.2, omega (arith, u, g.met.P.Lined.wide, c.FLOOR.ensures, c.loop-left-test.true))

pub returns-then-t-eq0-clause-walked : goal.returns-then-t-eq0-clause-walked
returns-then-t-eq0-clause-walked g c =
    let i = c.loop-left.invariant in
    let y = c.lined.ensures.paced in
    walked_stop _ _ _ _ _ _ _ _ _ _ _ i.0 c.requires.budget_bound.0 i.4 i.3 _ _ _ _ _ (omega (arith, c.if-t-eq0.true)) y.goes.0 c.lined.ensures.drawn _ y.goes.1 c.lined.ensures.small c.if-t-eq0.true c.walk_of.ensures

pub returns-then-t-eq0-clause-far : goal.returns-then-t-eq0-clause-far
returns-then-t-eq0-clause-far g c =
    let p = g.P.Pace in
    let i = c.loop-left.invariant in
    far_stopped p.turn p.memory p.FLOOR _ _ _ _ _ _ i.0 i.5 _ _ c.lined.ensures.value.0 c.if-t-eq0.true (ap (λ (v : Walk). v.cycles) c.walk_of.ensures)

pub loop-left-preserved : goal.loop-left-preserved
loop-left-preserved g c =
    let p = g.P.Pace in
    let i = c.loop-left.invariant in
    let y = c.lined.ensures.paced in
    let n = c.loop-left-test.true in (
      omega (arith, i.0),
      omega (arith, y.short, n, c.FLOOR.ensures),
      y.again,
      shows_on _ _ _ _ _ _ _ _ _ _ _ i.0 c.requires.budget_bound.0 i.4 i.3 _ _ _ _ _ (omega (arith, y.short, n, c.FLOOR.ensures)) y.goes.0 c.lined.ensures.drawn,
      walked_on _ _ _ _ _ _ _ _ _ _ _ i.0 c.requires.budget_bound.0 i.4 i.3 _ _ _ _ _ (omega (arith, y.short, n, c.FLOOR.ensures)) y.goes.0 c.lined.ensures.drawn y.goes.1 c.lined.ensures.small,
      far_more p.turn p.memory p.FLOOR _ _ _ _ _ _ i.0 i.5 (omega (arith, n, c.FLOOR.ensures)) _ _ c.lined.ensures.value (omega (arith, y.short, n, c.FLOOR.ensures)) c.if-t-eq0.false,
    )

pub returns-clause-far : goal.returns-clause-far
returns-clause-far g c =
    let p = g.P.Pace in
    far_ended p.turn p.memory p.FLOOR _ _ _ _ _ _ c.loop-left.invariant.0 c.loop-left.invariant.5 _ (omega (arith, c.loop-left-test.false, c.FLOOR.ensures)) (ap (λ (v : Walk). v.cycles) c.walk_of-2.ensures)
