use Rattle.prints.proofs.Laws.{drawn_then}
use Rattle.prints.proofs.track_lines.Goals as goal

pub returns : goal.returns
returns c =
    let v = c.fetches-b.ensures.drawn in
    let w = c.data_lines.ensures in
    drawn_then _ _ _ _ _ _ _ _ c.opening-a.ensures
    (drawn_then _ _ _ _ _ _ _ _
    (rw (
      c.between-k.ensures,
      c.low.ensures,
      c.third_kind.ensures,
      c.choose-2.ensures,
      c.choose.ensures,
      c.up-3.ensures,
      c.up-2.ensures,
      c.up.ensures,
      c.is_direct-direct.ensures,
    ) at v)
    (rw (
      c.less-2.ensures,
      c.less.ensures,
      c.between-k.ensures,
      c.low.ensures,
      c.is_store.ensures,
      c.place.ensures,
    ) at w))
