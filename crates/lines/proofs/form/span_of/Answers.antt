use Rattle.std.proofs.Common.{◌+◌, ◌-◌, ◌∙◌, refl, arith}
use Rattle.lines.proofs.Laws.{span_bad, span_more, span_end, span_none}
use Rattle.lines.proofs.form.span_of.Goals as goal

pub loop-count-init : goal.loop-count-init
loop-count-init c = refl

pub returns-in_err-end : goal.returns-in_err-end
returns-in_err-end c =
    let n = c.loop-count.count in
    c.from_residual.ensures ∙ span_bad (128 - n) (128 - (n + 1)) _ _ _ _ (omega arith) c.cycle_end.ensures c.in_err-end.was ∙ c.loop-count.invariant

pub returns-then-not-is_at : goal.returns-then-not-is_at
returns-then-not-is_at c =
    let n = c.loop-count.count in
    span_end (128 - n) (128 - (n + 1)) _ _ _ _ _ _ (omega arith) c.cycle_end.ensures c.in_ok-end.was c.is_at.ensures c.if-not-is_at.true ∙ c.loop-count.invariant

pub loop-count-preserved : goal.loop-count-preserved
loop-count-preserved c =
    let n = c.loop-count.count in
    span_more (128 - n) (128 - (n + 1)) _ _ _ _ _ _ _ (omega arith) c.cycle_end.ensures c.in_ok-end.was c.is_at.ensures c.if-not-is_at.false c.past-from.ensures ∙ c.loop-count.invariant

pub returns : goal.returns
returns c =
    let n = c.loop-count.count in
    span_none (128 - n) _ _ _ (omega arith) ∙ c.loop-count.invariant
