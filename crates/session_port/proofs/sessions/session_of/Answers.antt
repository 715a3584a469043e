use borrow.Author.Tests.{eq-eqb, ne_eqb}
use mathlib.Core.Path.{sym}
use native.Mathlib.Omega.{arith}
use lib.Seq.{length-take-le}
use Rattle.session_port.specs.Port.{opened}
use Rattle.session_port.proofs.sessions.session_of.Goals as goal

pub returns-then-bytes-ne40 : goal.returns-then-bytes-ne40
unfolding opened
returns-then-bytes-ne40 c = simp (ne_eqb _ _ c.if-bytes-ne40.true)

pub returns-in_err-at : goal.returns-in_err-at
unfolding opened
returns-in_err-at c = simp (
  c.from_residual.ensures,
  c.in_err-at.was,
  ← c.unpack.ensures,
  eq-eqb _ _ c.if-bytes-ne40.false,
)

pub returns : goal.returns
unfolding opened
returns c = simp (
  c.session_at.ensures,
  c.count_at.ensures,
  c.in_ok-at.was,
  ← c.unpack.ensures,
  eq-eqb _ _ c.if-bytes-ne40.false,
)

pub slice_bounds-unpack-end : goal.slice_bounds-unpack-end
slice_bounds-unpack-end c = sym (length-take-le 32 c.args.bytes.now (omega arith))
