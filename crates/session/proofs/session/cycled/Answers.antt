use Rattle.session.proofs.ByTurn.{own_by}
use Rattle.session.proofs.session.cycled.Goals as goal

pub returns : goal.returns
returns c =
    own_by _ _ _ _ _ c.next_micro.ensures c.cycled_by.ensures.0 c.cycled_by.ensures.1
