use borrow.Author.Rules.{rules}
use Rattle.trace.specs.Text.{hex2, hex6}
use Rattle.trace.proofs.Laws.{then}
use Rattle.trace.proofs.put_hex6.Goals as goal

pub put_hex2-low-requires : goal.put_hex2-low-requires
unfolding hex2
put_hex2-low-requires c = search rules

pub put_hex2-requires : goal.put_hex2-requires
unfolding hex2
put_hex2-requires c = search rules

pub returns : goal.returns
unfolding hex6
returns c =
    then c.put_hex2-high.ensures (then c.put_hex2-low.ensures c.put_hex2.ensures)
