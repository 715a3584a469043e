use mathlib.Core.Bool.{true, false}
use Rattle.drive.proofs.Whole.{drives, gone, stayed, stayed_inside, tested, not_whole}
use Rattle.drive.proofs.ahead.Goals as goal

pub returns-then-r-ne0-clause-driven : goal.returns-then-r-ne0-clause-driven
returns-then-r-ne0-clause-driven c = rw c.walk_of.ensures (stayed_inside c.args.start c.args.before c.args.budget c.args.r c.args.mem.now c.args.text.now c.if-r-ne0.true).0

pub returns-then-r-ne0-clause-passes : goal.returns-then-r-ne0-clause-passes
returns-then-r-ne0-clause-passes c = rw c.walk_of.ensures (stayed_inside c.args.start c.args.before c.args.budget c.args.r c.args.mem.now c.args.text.now c.if-r-ne0.true).1

pub returns-in_default-clause-driven : goal.returns-in_default-clause-driven
returns-in_default-clause-driven c =
    let x = c.args in
    let z = not_whole x.start x.before x.budget x.r x.mem.now x.text.now c.in_default.ensures.cases in
    rw c.walk_of-in_default.ensures (stayed x.start x.before x.budget x.r x.mem.now x.text.now z).0

pub returns-in_default-clause-passes : goal.returns-in_default-clause-passes
returns-in_default-clause-passes c =
    let x = c.args in
    let z = not_whole x.start x.before x.budget x.r x.mem.now x.text.now c.in_default.ensures.cases in
    rw c.walk_of-in_default.ensures (stayed x.start x.before x.budget x.r x.mem.now x.text.now z).1

pub forth-requires-clause-begins : goal.forth-requires-clause-begins
forth-requires-clause-begins c =
    let x = c.args in
    let i = rw (c.both-go.ensures, c.both-fit.ensures, c.well_formed-2.ensures, c.is_roomy.ensures) at c.if-go.true in
    let z = tested x.start x.before x.budget x.r x.mem.now x.text.now true c.in-Some.ensures.cases.long i in
    let d = drives x.start x.before x.budget x.r x.mem.now x.text.now z in
    (d.0.1, d.0.2)

pub forth-requires-clause-budget_bound : goal.forth-requires-clause-budget_bound
forth-requires-clause-budget_bound c =
    let x = c.args in
    let i = rw (c.both-go.ensures, c.both-fit.ensures, c.well_formed-2.ensures, c.is_roomy.ensures) at c.if-go.true in
    let z = tested x.start x.before x.budget x.r x.mem.now x.text.now true c.in-Some.ensures.cases.long i in
    (drives x.start x.before x.budget x.r x.mem.now x.text.now z).1

pub returns-then-go-clause-driven : goal.returns-then-go-clause-driven
returns-then-go-clause-driven c =
    let x = c.args in
    let i = rw (c.both-go.ensures, c.both-fit.ensures, c.well_formed-2.ensures, c.is_roomy.ensures) at c.if-go.true in
    let z = tested x.start x.before x.budget x.r x.mem.now x.text.now true c.in-Some.ensures.cases.long i in
    let w = rw c.in-Some.ensures.cases.same at c.forth.ensures.walked in
    let f = rw c.in-Some.ensures.cases.same at c.forth.ensures.far in
    (gone x.start x.before x.budget x.r x.mem.now x.text.now _ _ _ z w c.forth.ensures.less f).0

pub returns-then-go-clause-passes : goal.returns-then-go-clause-passes
returns-then-go-clause-passes c =
    let x = c.args in
    let i = rw (c.both-go.ensures, c.both-fit.ensures, c.well_formed-2.ensures, c.is_roomy.ensures) at c.if-go.true in
    let z = tested x.start x.before x.budget x.r x.mem.now x.text.now true c.in-Some.ensures.cases.long i in
    let w = rw c.in-Some.ensures.cases.same at c.forth.ensures.walked in
    let f = rw c.in-Some.ensures.cases.same at c.forth.ensures.far in
    (gone x.start x.before x.budget x.r x.mem.now x.text.now _ _ _ z w c.forth.ensures.less f).1

pub returns-else-go-clause-driven : goal.returns-else-go-clause-driven
returns-else-go-clause-driven c =
    let x = c.args in
    let i = rw (c.both-go.ensures, c.both-fit.ensures, c.well_formed-2.ensures, c.is_roomy.ensures) at c.if-go.false in
    let z = tested x.start x.before x.budget x.r x.mem.now x.text.now false c.in-Some.ensures.cases.long i in
    let y = stayed x.start x.before x.budget x.r x.mem.now x.text.now z in
    rw (c.walk_of-else-go.ensures, c.in-Some.ensures.cases.same) y.0

pub returns-else-go-clause-passes : goal.returns-else-go-clause-passes
returns-else-go-clause-passes c =
    let x = c.args in
    let i = rw (c.both-go.ensures, c.both-fit.ensures, c.well_formed-2.ensures, c.is_roomy.ensures) at c.if-go.false in
    let z = tested x.start x.before x.budget x.r x.mem.now x.text.now false c.in-Some.ensures.cases.long i in
    let y = stayed x.start x.before x.budget x.r x.mem.now x.text.now z in
    rw (c.walk_of-else-go.ensures, c.in-Some.ensures.cases.same) y.1
