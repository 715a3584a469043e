use Rattle.prints.proofs.Laws.{drawn_then}
use Rattle.prints.proofs.opening.Goals as goal

pub returns : goal.returns
returns c =
    let v = c.fetch.ensures in
    drawn_then _ _ _ _ _ _ _ _ c.fetch-a.ensures (rw (c.second_kind.ensures, c.up.ensures) at v)
