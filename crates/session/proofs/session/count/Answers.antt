use Rattle.session.specs.Sessions.{counted_on}
use Rattle.session.proofs.session.count.Goals as goal

pub returns : goal.returns
unfolding counted_on
returns c = c.count_on.ensures
