use mathlib.Core.Path.{◌∙◌}
use Rattle.packed.proofs.RoundTrip.{reserved_all}
use Rattle.packed.proofs.bytes.is_reserved.Goals as goal

pub returns : goal.returns
returns c = c.are_zeros.ensures ∙ reserved_all c.args.bytes.now c.told-bytes
