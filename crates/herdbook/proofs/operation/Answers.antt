use mathlib.Core.Path.{sym, ap}
use Rattle.cycles.proofs.Past.{past}
use Rattle.herdbook.specs.Herdbook.{operation_at, operations}
use Rattle.herdbook.proofs.operation.Goals as goal

pub returns-in_default : goal.returns-in_default
unfolding operation_at operations
returns-in_default c = past operations c.args.n _ c.in_default.in_default-own.rest
