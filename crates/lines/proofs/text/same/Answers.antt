use Rattle.std.proofs.Common.{refl, ◌∙◌}
use Rattle.lines.specs.Text.{same_at}
use Rattle.lines.proofs.Laws.{same_more, same_not, same_all}
use Rattle.lines.proofs.text.same.Goals as goal

pub loop-i-init : goal.loop-i-init
unfolding same_at
loop-i-init c = refl

pub returns-then-not-is_at : goal.returns-then-not-is_at
returns-then-not-is_at c = same_not _ _ _ _ _ _ c.loop-i-test.true c.past.ensures c.is_at.ensures c.if-not-is_at.true ∙ c.loop-i.invariant

pub loop-i-preserved : goal.loop-i-preserved
loop-i-preserved c = same_more _ _ _ _ _ _ c.loop-i-test.true c.past.ensures c.is_at.ensures c.if-not-is_at.false ∙ c.loop-i.invariant

pub returns : goal.returns
returns c = same_all _ _ _ _ c.loop-i-test.false ∙ c.loop-i.invariant
