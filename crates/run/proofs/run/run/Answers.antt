use mathlib.Core.Path.{sym, ◌∙◌}
use Rattle.run.proofs.Laws.{refused_1, refused_2, refused_4, accepted}
use Rattle.run.proofs.run.run.Goals as goal

pub returns-in_default : goal.returns-in_default
returns-in_default c = let e = refused_1 c.args.budget c.args.rec c.args.mem.now c.in_default.ensures.cases in (rw (c.ended.ensures, e), rw e)

pub returns-then-budget-gt1000000 : goal.returns-then-budget-gt1000000
returns-then-budget-gt1000000 c =
    let m = c.in-Some.ensures.cases in
    let e = refused_2 c.args.budget c.args.rec c.args.mem.now m.long c.if-budget-gt1000000.true in
    (rw (c.ended-then-budget-gt1000000.ensures, e), rw e m.same)

pub returns-then-well_formed : goal.returns-then-well_formed
returns-then-well_formed c =
    let m = c.in-Some.ensures.cases in
    let e = accepted c.args.budget c.args.rec c.args.mem.now m.long c.if-budget-gt1000000.false in
    let f = rw m.same at c.cycles.ensures in
    (rw e f.0, rw e f.1)

pub returns-else-well_formed : goal.returns-else-well_formed
returns-else-well_formed c =
    let m = c.in-Some.ensures.cases in
    let e = accepted c.args.budget c.args.rec c.args.mem.now m.long c.if-budget-gt1000000.false in
    let f = refused_4 c.args.budget c.args.rec c.args.mem.now (sym c.well_formed-2.ensures ∙ c.if-well_formed.false) in
    (rw (c.unfit.ensures, e) f.0, rw e (m.same ∙ f.1))
