use Rattle.trace.proofs.Laws.{then, wrote_one}
use Rattle.trace.proofs.put_end.Goals as goal

pub returns : goal.returns
returns c = then (wrote_one _ _ _) (then c.put_hex2-end.ensures (wrote_one _ _ _))
