use Rattle.session.specs.Sessions.{answered_to}
use Rattle.session.proofs.session.answered.Goals as goal

pub returns-in_default : goal.returns-in_default
unfolding answered_to
returns-in_default c = simp (
  c.stepped.ensures,
  c.err.ensures.value,
  c.in_default.is,
  ← c.answer-a.ensures,
)

pub returns : goal.returns
unfolding answered_to
returns c = simp (
  c.stepped-2.ensures,
  c.gone_on.ensures,
  c.in-Ok.is,
  ← c.answer-a.ensures,
)
