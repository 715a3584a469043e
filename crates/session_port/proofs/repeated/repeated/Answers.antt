use mathlib.Core.Path.{◌∙◌}
use Rattle.session_port.proofs.AsRun.{as_told}
use Rattle.session_port.proofs.Courses.{over_whole}
use Rattle.session_port.proofs.Paces.{unfit_course, fit}
use Rattle.session_port.proofs.repeated.repeated.Goals as goal

pub returns-then-fit : goal.returns-then-fit
returns-then-fit c =
    let i = c.if-fit.true in
    let f = fit c.args.s c.args.mem.now (rw (c.both-fit.ensures, c.well_formed-2.ensures) at i) in
    let e = over_whole c.args.count c.args.s c.args.mem.now f.0 in
    let k = as_told c.args.count c.args.s c.args.mem.now f.0 in
    let y = c.paces.ensures in
    (rw (c.gone_on.ensures, y.0, e) k.0, rw e (y.1 ∙ k.1))

pub returns-else-fit : goal.returns-else-fit
returns-else-fit c =
    let i = c.if-fit.false in
    let h = unfit_course c.args.count c.args.s c.args.mem.now (rw (c.both-fit.ensures, c.well_formed-2.ensures) at i) in
    (c.unfit.ensures ∙ h.0, h.1)
