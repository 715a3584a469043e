use Rattle.course.specs.Course.{turn_of}
use Rattle.course.proofs.run.turn.Goals as goal

pub returns-then-both : goal.returns-then-both
unfolding turn_of
returns-then-both c = simp (
  c.if-both.true,
  ← c.both.ensures,
  ← c.is_home.ensures,
)

pub returns-else-both : goal.returns-else-both
unfolding turn_of
returns-else-both c = simp (
  c.cycle.ensures,
  c.if-both.false,
  ← c.both.ensures,
  ← c.is_home.ensures,
)
