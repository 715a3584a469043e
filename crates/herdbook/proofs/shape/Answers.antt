use mathlib.Core.Path.{sym, ap}
use Rattle.cycles.proofs.Past.{past}
use Rattle.herdbook.specs.Herdbook.{shape_at, shapes}
use Rattle.herdbook.proofs.shape.Goals as goal

pub returns-in_default : goal.returns-in_default
unfolding shape_at shapes
returns-in_default c = past shapes c.args.n _ c.in_default.in_default-own.rest
