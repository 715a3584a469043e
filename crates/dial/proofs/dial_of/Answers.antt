use Rattle.dial.specs.Dial.{dial_of}
use Rattle.dial.proofs.dial_of.Goals as goal

pub returns : goal.returns
unfolding dial_of
returns c = simp c.of_tens.ensures
