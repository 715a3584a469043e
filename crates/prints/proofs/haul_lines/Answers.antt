use Rattle.prints.proofs.Laws.{drawn_then}
use Rattle.prints.proofs.haul_lines.Goals as goal

pub returns : goal.returns
returns c =
    let b = c.fetch-b.ensures in
    let d = c.fetch-c.ensures in
    drawn_then _ _ _ _ _ _ _ _ c.fetch-a.ensures
    (drawn_then _ _ _ _ _ _ _ _ (rw c.up.ensures at b)
    (drawn_then _ _ _ _ _ _ _ _ (rw (c.up-3.ensures, c.up-2.ensures) at d)
    (drawn_then _ _ _ _ _ _ _ _ c.fetch-d.ensures
    (drawn_then _ _ _ _ _ _ _ _ c.datum_line-e.ensures
    (drawn_then _ _ _ _ _ _ _ _ c.fetch-f.ensures c.fetch.ensures)))))
