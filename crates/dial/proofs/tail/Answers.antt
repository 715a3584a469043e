use borrow.Author.Rules.{rules}
use Rattle.trace.specs.Text.{hex2}
use Rattle.dial.specs.Dial.{tail_text}
use Rattle.dial.proofs.tail.Goals as goal

pub returns : goal.returns
unfolding tail_text hex2
returns c = search rules
