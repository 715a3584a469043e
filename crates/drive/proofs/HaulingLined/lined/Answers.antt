use mathlib.Core.Path.{refl, ◌∙◌}
use native.Mathlib.Omega.{arith}
use Rattle.run.proofs.ByOpcode.{haul_goes}
use Rattle.drive.proofs.Walks.{drawn_all, drawn_nothing, small_nothing, small_byte}
use Rattle.drive.proofs.HaulingLined.lined.Goals as goal

pub returns-then-t-eq0-clause-paced : goal.returns-then-t-eq0-clause-paced
returns-then-t-eq0-clause-paced c =
    let z = c.haul-t.ensures in
    let y = haul_goes _ _ c.told-mem c.requires.0 z.inside.0 z.inside.1 z.inside.2 _ _ z.value in
    record { goes = y.0; again = refl; short = omega (arith, y.1) }

pub returns-then-t-eq0-clause-drawn : goal.returns-then-t-eq0-clause-drawn
returns-then-t-eq0-clause-drawn c = drawn_nothing _ _ _ _ _ c.if-t-eq0.true

pub returns-then-t-eq0-clause-small : goal.returns-then-t-eq0-clause-small
returns-then-t-eq0-clause-small c = small_nothing _ _ c.args.text.now c.args.m _ c.if-t-eq0.true

pub returns-clause-paced : goal.returns-clause-paced
returns-clause-paced c =
    let z = c.haul-t.ensures in
    let y = haul_goes _ _ c.told-mem c.requires.0 z.inside.0 z.inside.1 z.inside.2 _ _ z.value in
    record { goes = y.0; again = refl; short = omega (arith, y.1) }

pub returns-clause-drawn : goal.returns-clause-drawn
returns-clause-drawn c =
    let z = c.haul-t.ensures in
    let y = haul_goes _ _ c.told-mem c.requires.0 z.inside.0 z.inside.1 z.inside.2 _ _ z.value in
    let d = rw (c.fetched-f.ensures, c.peek-v.ensures) at c.put_haul.ensures in
    drawn_all _ _ _ _ _ _ _ _ _ (y.2 c.if-t-eq0.false) c.requires.2 (c.haul-t.auto.mem ∙ c.told-mem) d

pub returns-clause-small : goal.returns-clause-small
returns-clause-small c =
    let z = c.haul-t.ensures in
    let y = haul_goes _ _ c.told-mem c.requires.0 z.inside.0 z.inside.1 z.inside.2 _ _ z.value in
    small_byte _ _ _ _ (y.2 c.if-t-eq0.false) z.inside
