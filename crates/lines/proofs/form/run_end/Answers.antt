use Rattle.std.proofs.Common.{◌+◌, ◌-◌, ◌∙◌, refl, arith}
use Rattle.lines.proofs.Laws.{run_on, run_off, run_out}
use Rattle.lines.proofs.form.run_end.Goals as goal

pub loop-step-init : goal.loop-step-init
loop-step-init c = refl

pub returns-then-not-belongs : goal.returns-then-not-belongs
returns-then-not-belongs c =
    let n = c.loop-step._step in
    run_off (1024 - n) (1024 - (n + 1)) _ _ _ _ _ _ (omega arith) c.byte_at.ensures c.belongs.ensures c.if-not-belongs.true ∙ c.loop-step.invariant

pub loop-step-preserved : goal.loop-step-preserved
loop-step-preserved c =
    let n = c.loop-step._step in
    run_on (1024 - n) (1024 - (n + 1)) _ _ _ _ _ _ _ (omega arith) c.byte_at.ensures c.belongs.ensures c.if-not-belongs.false c.past-end.ensures ∙ c.loop-step.invariant

pub returns : goal.returns
returns c = run_out _ _ _ _ _ (omega arith) ∙ c.loop-step.invariant
