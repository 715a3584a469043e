use mathlib.Core.Path.{sym, subst, ap, ◌∙◌}
use native.Mathlib.Omega.{arith}
use Rattle.cpu.specs.declared.types.Record.{Record}
use Rattle.cpu.specs.Record.{well_formed}
use Rattle.stride.specs.Strides.{fresh}
use Rattle.run.specs.Passes.{Goes}
use Rattle.run.specs.Far.{strides_far}
use Rattle.run.proofs.Whole.{passes_none}
use Rattle.run.proofs.Stretches.{cleared_is}
use Rattle.run.proofs.Far.{far_inside, far_short, far_fresh}
use Rattle.run.proofs.run.ahead.Goals as goal

pub returns-then-r-ne0-clause-goes : goal.returns-then-r-ne0-clause-goes
returns-then-r-ne0-clause-goes c = rw c.stretch_of.ensures ((passes_none c.args.r c.args.mem.now, c.requires.0))

pub returns-then-r-ne0-clause-far : goal.returns-then-r-ne0-clause-far
returns-then-r-ne0-clause-far c = rw c.stretch_of.ensures (sym (far_inside c.args.r c.if-r-ne0.true c.args.budget c.args.mem.now))

pub returns-then-budget-le7-clause-goes : goal.returns-then-budget-le7-clause-goes
returns-then-budget-le7-clause-goes c = rw c.stretch_of-then-budget-le7.ensures ((passes_none c.args.r c.args.mem.now, c.requires.0))

pub returns-then-budget-le7-clause-far : goal.returns-then-budget-le7-clause-far
returns-then-budget-le7-clause-far c =
    rw c.stretch_of-then-budget-le7.ensures
    (sym (far_short c.args.budget c.args.r c.args.mem.now (omega (arith, c.if-budget-le7.true))))

pub paces-requires : goal.paces-requires
paces-requires c =
    let f = sym c.is_fresh.ensures ∙ c.if-is_fresh.true in
    let e = c.cleared.ensures ∙ cleared_is _ c.requires.0 f in
    (ap well_formed e ∙ c.requires.0, ap fresh e ∙ f, c.requires.1)

pub returns-then-is_fresh-clause-goes : goal.returns-then-is_fresh-clause-goes
returns-then-is_fresh-clause-goes c =
    let f = sym c.is_fresh.ensures ∙ c.if-is_fresh.true in
    let e = c.cleared.ensures ∙ cleared_is _ c.requires.0 f in
    subst (λ (v : Record). Goes v c.args.mem.now c.paces.result c.paces.new.mem) e c.paces.ensures.goes

pub returns-then-is_fresh-clause-far : goal.returns-then-is_fresh-clause-far
returns-then-is_fresh-clause-far c =
    let f = sym c.is_fresh.ensures ∙ c.if-is_fresh.true in
    let e = c.cleared.ensures ∙ cleared_is _ c.requires.0 f in
    c.paces.ensures.far ∙ ap (λ (v : Record). strides_far c.args.budget v c.args.mem.now) e ∙ sym (far_fresh c.args.budget c.args.r c.args.mem.now f)
