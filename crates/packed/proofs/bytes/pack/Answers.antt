use Rattle.packed.specs.Packed.{pack}
use Rattle.packed.proofs.bytes.pack.Goals as goal

pub returns : goal.returns
unfolding pack
returns c = simp (
  c.high-8.ensures,
  c.low-8.ensures,
  c.high-7.ensures,
  c.low-7.ensures,
  c.one_if-2.ensures.value,
  c.status.ensures,
  c.high-6.ensures,
  c.low-6.ensures,
  c.high-5.ensures,
  c.low-5.ensures,
  c.high-4.ensures,
  c.low-4.ensures,
  c.high-3.ensures,
  c.low-3.ensures,
  c.high-2.ensures,
  c.low-2.ensures,
  c.high.ensures,
  c.low.ensures,
  c.one_if.ensures.value,
)
