use mathlib.Core.Path.{sym, ap, ◌∙◌}
use Rattle.cpu.specs.declared.types.Record.{Record}
use Rattle.cpu.specs.Record.{well_formed}
use Rattle.stride.specs.Strides.{fresh}
use Rattle.run.specs.Far.{strides_far}
use Rattle.run.proofs.Stretches.{cleared_is}
use Rattle.run.proofs.Far.{far_fresh}
use Rattle.drive.proofs.Walks.{walked_from}
use Rattle.drive.proofs.forth.Goals as goal

pub paces-requires-clause-begins : goal.paces-requires-clause-begins
paces-requires-clause-begins c =
    let f = sym c.is_fresh.ensures ∙ c.if-is_fresh.true in
    let e = c.cleared.ensures ∙ cleared_is _ c.requires.begins.0 f in
    (ap well_formed e ∙ c.requires.begins.0, ap fresh e ∙ f, c.requires.begins.1)

pub returns-then-is_fresh-clause-walked : goal.returns-then-is_fresh-clause-walked
returns-then-is_fresh-clause-walked c =
    let f = sym c.is_fresh.ensures ∙ c.if-is_fresh.true in
    walked_from _ _ _ _ _ _ _ _ _ (c.cleared.ensures ∙ cleared_is _ c.requires.begins.0 f) c.paces.ensures.walked

pub returns-then-is_fresh-clause-far : goal.returns-then-is_fresh-clause-far
returns-then-is_fresh-clause-far c =
    let f = sym c.is_fresh.ensures ∙ c.if-is_fresh.true in
    let e = c.cleared.ensures ∙ cleared_is _ c.requires.begins.0 f in
    c.paces.ensures.far ∙ ap (λ (v : Record). strides_far c.args.budget v c.args.mem.now) e ∙ sym (far_fresh c.args.budget c.args.r c.args.mem.now f)
