use Rattle.slip.proofs.Lines.{line_of_steps}
use Rattle.slip.proofs.line.line.Goals as goal

pub returns : goal.returns
returns c = simp (
  c.put_scratch.ensures,
  c.put_held.ensures,
  c.put_status.ensures,
  c.put_pointers.ensures,
  c.put_registers.ensures,
) (line_of_steps _)
