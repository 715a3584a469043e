use Rattle.opcodes.specs.Opcodes.{decode_of}
use Rattle.shapes.proofs.ListedShapes.{number_lists}
use Rattle.step.specs.Cycle.{answer_of}
use Rattle.step.proofs.answer.Goals as goal

pub returns-in_default : goal.returns-in_default
unfolding answer_of
returns-in_default c = simp (c.answer_at.ensures, c.decoded_micro-m.ensures)

pub returns : goal.returns
unfolding answer_of
returns c = simp (
  c.begin_if.ensures,
  c.shape_of.ensures.value,
  number_lists (decode_of c.args.b),
  c.in-Fetch.is,
  ← c.decoded_micro-m.ensures,
)
