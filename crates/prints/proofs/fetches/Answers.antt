use Rattle.prints.proofs.Laws.{drawn_then, up_to_two}
use Rattle.prints.proofs.fetches.Goals as goal

pub returns-clause-drawn : goal.returns-clause-drawn
returns-clause-drawn c = up_to_two _ _ _ _ _ _ _ c.if-k-eq0.false c.if-k-eq1.false (drawn_then _ _ _ _ _ _ _ _ c.fetch-a.ensures c.fetch.ensures)
