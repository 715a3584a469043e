use Rattle.course.proofs.Laws.{request_lined}
use Rattle.course.proofs.asked.request_text.Goals as goal

pub returns : goal.returns
returns c = request_lined _ _ _ c.put_line.ensures c.past.ensures c.shown-high.ensures c.past-2.ensures c.shown-low.ensures
