use Prim.Native.Nat.{◌%◌}
use mathlib.Core.Path.{◌∙◌}
use native.Mathlib.Omega.{arith}
use Rattle.dial.proofs.Laws.{row_length, row_stored}
use Rattle.prints.proofs.put_near.Goals as goal

pub returns : goal.returns
returns c =
    let long = row_length c.args.front (c.args.width % 8) c.args.last c.args.marks c.args.end in
    record {
      place = omega (arith, long);
      text =
          c.put_word-3.ensures
          ∙ rw (c.put_word-2.ensures, c.put_word.ensures)
          (row_stored c.args.text.now c.args.at c.args.front (c.args.width % 8) c.args.last c.args.marks c.args.end (omega arith));
    }
