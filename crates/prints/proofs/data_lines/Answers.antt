use Rattle.prints.proofs.Laws.{drawn_then, up_to_two}
use Rattle.prints.proofs.data_lines.Goals as goal

pub returns : goal.returns
returns c =
    let v = c.datum_line.ensures in
    up_to_two _ _ _ _ _ _ _ c.if-k-eq0.false c.if-k-eq1.false (drawn_then _ _ _ _ _ _ _ _ c.datum_line-a.ensures (rw c.up.ensures at v))
