use Rattle.std.proofs.Common.{sym, ◌∙◌}
use Rattle.slip.proofs.Laws.{not_a_digit, next_digit, all_digits}
use Rattle.slip.proofs.number.number_from.Goals as goal

pub returns-in_err-n : goal.returns-in_err-n
returns-in_err-n c =
    c.from_residual.ensures ∙ sym (not_a_digit _ _ _ _ c.loop-b-test.true (sym c.longer.ensures ∙ c.in_err-n.was)) ∙ c.loop-b.invariant

pub loop-b-preserved : goal.loop-b-preserved
loop-b-preserved c = sym (next_digit _ _ _ _ _ c.loop-b-test.true (sym c.longer.ensures ∙ c.in_ok-n.was)) ∙ c.loop-b.invariant

pub returns : goal.returns
returns c = sym (all_digits _ _ _ _ c.loop-b-test.false) ∙ c.loop-b.invariant
