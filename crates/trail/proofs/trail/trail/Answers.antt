use mathlib.Core.Bool.{true, false}
use Rattle.drive.proofs.Whole.{parts}
use Rattle.trail.proofs.Whole.{all, nothing, tested, not_whole}
use Rattle.trail.proofs.trail.trail.Goals as goal

pub returns-in_default : goal.returns-in_default
returns-in_default c =
    let x = c.args in
    rw c.told.ensures (nothing x.start x.before x.budget x.rec x.mem.now x.text.now (not_whole x.start x.before x.budget x.rec x.mem.now x.text.now c.in_default.ensures.cases))

pub cycles-requires : goal.cycles-requires
cycles-requires c =
    let x = c.args in
    let i = rw (c.both-fit.ensures, c.well_formed-2.ensures, c.is_roomy.ensures) at c.if-fit.true in
    let d = parts x.start x.before x.budget x.rec x.mem.now x.text.now (tested x.start x.before x.budget x.rec x.mem.now x.text.now true c.in-Some.ensures.cases.long i) in
    record { well = d.0.1; budget_bound = d.1 }

pub returns-then-fit : goal.returns-then-fit
returns-then-fit c =
    let x = c.args in
    let i = rw (c.both-fit.ensures, c.well_formed-2.ensures, c.is_roomy.ensures) at c.if-fit.true in
    let z = tested x.start x.before x.budget x.rec x.mem.now x.text.now true c.in-Some.ensures.cases.long i in
    all x.start x.before x.budget x.rec x.mem.now x.text.now _ _ _ z (rw c.in-Some.ensures.cases.same at c.cycles.ensures)

pub returns-else-fit : goal.returns-else-fit
returns-else-fit c =
    let x = c.args in
    let i = rw (c.both-fit.ensures, c.well_formed-2.ensures, c.is_roomy.ensures) at c.if-fit.false in
    let z = tested x.start x.before x.budget x.rec x.mem.now x.text.now false c.in-Some.ensures.cases.long i in
    rw (c.told-else-fit.ensures, c.in-Some.ensures.cases.same) (nothing x.start x.before x.budget x.rec x.mem.now x.text.now z)
