use Prim.Native.Nat.{◌+◌, ◌≤◌}
use lib.ListN.{length}
use borrow.Author.Tests.{leb-true}
use mathlib.Core.Path.{sym, ◌∙◌}
use Rattle.trace.proofs.Laws.{wrote_put, wrote_part}
use Rattle.trace.proofs.put_bytes.Goals as goal

pub returns : goal.returns
returns c =
    let room : c.args.at + length c.args.src.now ≤ length c.args.text.now = leb-true _ _ (sym c.has_room.ensures ∙ c.if-not-has_room.false) in
    wrote_put room (wrote_part c.args.text.now c.args.src.now c.args.at _ c.copy_from_slice.ensures.after room)
