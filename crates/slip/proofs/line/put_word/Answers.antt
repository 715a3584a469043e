use Rattle.std.proofs.Common.{◌∙◌, ap}
use Rattle.packed.specs.Packed.{placed}
use Rattle.slip.proofs.Laws.{digits_back}
use Rattle.slip.proofs.line.put_word.Goals as goal

pub returns : goal.returns
returns c = c.put.ensures ∙ ap (placed c.args.text.now c.args.at) (c.four_digits.ensures ∙ digits_back _ _ _ (c.fits-bytes c.args.from) c.join.ensures)
