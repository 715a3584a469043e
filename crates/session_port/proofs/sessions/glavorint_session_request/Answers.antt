use Rattle.session_port.specs.Port.{session_request}
use Rattle.session_port.proofs.sessions.glavorint_session_request.Goals as goal

pub returns-in-Some : goal.returns-in-Some
unfolding session_request
returns-in-Some c = simp (
  c.asked_number.ensures,
  c.asking.ensures,
  c.in-Some.is,
  ← c.session_of-o.ensures,
)

pub returns-in-None : goal.returns-in-None
unfolding session_request
returns-in-None c = simp (c.in-None.is, ← c.session_of-o.ensures)
