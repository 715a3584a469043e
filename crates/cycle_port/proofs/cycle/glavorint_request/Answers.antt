use Rattle.cycle_port.specs.Port.{request_number}
use Rattle.cycle_port.proofs.cycle.glavorint_request.Goals as goal

pub returns : goal.returns
unfolding request_number
returns c = rw (c.asked_number.ensures, c.asked.ensures)
