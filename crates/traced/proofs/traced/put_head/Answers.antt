use native.Mathlib.Omega.{arith}
use mathlib.Core.Path.{ap}
use lib.ListN.{length}
use Rattle.trace.proofs.Laws.{put_fits, wrote_none}
use Rattle.traced.proofs.Laws.{head_first, head_later}
use Rattle.traced.proofs.traced.put_head.Goals as goal

pub returns-then-before-eq0 : goal.returns-then-before-eq0
returns-then-before-eq0 c =
    let h = head_first _ c.if-before-eq0.true in
    rw h (put_fits (omega (arith, ap length h, c.requires)) c.put_header.ensures)

pub returns : goal.returns
returns c = rw (head_later _ c.if-before-eq0.false) (wrote_none _ _)
