use Rattle.lines.specs.State.{words_in}
use Rattle.lines.proofs.state.words_of.Goals as goal

pub returns : goal.returns
unfolding words_in
returns c = simp (
  c.put-10.ensures,
  c.put-9.ensures,
  c.put-8.ensures,
  c.put-7.ensures,
  c.put-6.ensures,
  c.put-5.ensures,
  c.put-4.ensures,
  c.put-3.ensures,
  c.put-2.ensures,
  c.put.ensures,
  c.digit.ensures,
  c.one_if.ensures.value,
  c.two_digits-3.ensures,
  c.as_byte.ensures,
  c.two_digits-2.ensures,
  c.two_digits.ensures,
  c.four_digits-6.ensures,
  c.four_digits-5.ensures,
  c.four_digits-4.ensures,
  c.four_digits-3.ensures,
  c.four_digits-2.ensures,
  c.four_digits.ensures,
)
