use native.Mathlib.Omega.{arith}
use mathlib.Core.Path.{◌∙◌}
use Rattle.run.proofs.ByOpcode.{stride_goes}
use Rattle.drive.proofs.Walks.{drawn_all, drawn_nothing, small_nothing, small_stride}
use Rattle.drive.proofs.StridingLined.lined.Goals as goal

pub returns-then-t-eq0-clause-paced : goal.returns-then-t-eq0-clause-paced
returns-then-t-eq0-clause-paced c =
    let y = stride_goes _ _ c.told-mem c.requires.0 c.requires.1 c.stride-t.ensures.inside _ _ c.stride-t.ensures.value in
    record { goes = y.0; again = y.1.1; short = omega (arith, y.1.0) }

pub returns-then-t-eq0-clause-drawn : goal.returns-then-t-eq0-clause-drawn
returns-then-t-eq0-clause-drawn c = drawn_nothing _ _ _ _ _ c.if-t-eq0.true

pub returns-then-t-eq0-clause-small : goal.returns-then-t-eq0-clause-small
returns-then-t-eq0-clause-small c = small_nothing _ _ c.args.text.now c.args.m _ c.if-t-eq0.true

pub returns-clause-paced : goal.returns-clause-paced
returns-clause-paced c =
    let y = stride_goes _ _ c.told-mem c.requires.0 c.requires.1 c.stride-t.ensures.inside _ _ c.stride-t.ensures.value in
    record { goes = y.0; again = y.1.1; short = omega (arith, y.1.0) }

pub returns-clause-drawn : goal.returns-clause-drawn
returns-clause-drawn c =
    let y = stride_goes _ _ c.told-mem c.requires.0 c.requires.1 c.stride-t.ensures.inside _ _ c.stride-t.ensures.value in
    let d = rw (c.track.ensures, c.fetched-f.ensures) at c.put_track.ensures in
    drawn_all _ _ _ _ _ _ _ _ _ (y.2 c.if-t-eq0.false) c.requires.2 (c.stride-t.auto.mem ∙ c.told-mem) d

pub returns-clause-small : goal.returns-clause-small
returns-clause-small c =
    let y = stride_goes _ _ c.told-mem c.requires.0 c.requires.1 c.stride-t.ensures.inside _ _ c.stride-t.ensures.value in
    small_stride _ _ _ _ (y.2 c.if-t-eq0.false) c.stride-t.ensures.inside (c.fits-mem _)
