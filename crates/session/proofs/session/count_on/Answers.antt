use mathlib.Core.Path.{sym, ◌∙◌}
use native.Mathlib.Omega.{arith}
use Rattle.session.proofs.Sessions.{counted_least}
use Rattle.session.proofs.session.count_on.Goals as goal

pub returns : goal.returns
returns c = rw c.from.ensures at c.saturating_add.ensures ∙ sym (counted_least c.args.more c.args.n (omega (arith, c.ranges.n)))
