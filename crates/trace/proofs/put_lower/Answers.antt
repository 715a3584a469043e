use native.Mathlib.Omega.{arith}
use Rattle.trace.specs.Places.{lower_of}
use Rattle.trace.proofs.Decimal.{lower_length}
use Rattle.trace.proofs.Laws.{then, wrote_one}
use Rattle.trace.proofs.put_lower.Goals as goal

pub put_digit-p-requires : goal.put_digit-p-requires
put_digit-p-requires c =
    (omega arith, omega (arith, c.requires, lower_length c.args.n))

pub put_digit-p-requires-2 : goal.put_digit-p-requires-2
put_digit-p-requires-2 c =
    (omega arith, omega (arith, c.requires, lower_length c.args.n, c.put_digit-p.ensures.place, c.put_digit-p.auto.text))

pub put_digit-p-requires-3 : goal.put_digit-p-requires-3
put_digit-p-requires-3 c =
    (omega arith, omega (arith, c.requires, lower_length c.args.n, c.put_digit-p.ensures.place, c.put_digit-p.auto.text, c.put_digit-p-2.ensures.place, c.put_digit-p-2.auto.text))

pub put_digit-p-requires-4 : goal.put_digit-p-requires-4
put_digit-p-requires-4 c =
    (omega arith, omega (arith, c.requires, lower_length c.args.n, c.put_digit-p.ensures.place, c.put_digit-p.auto.text, c.put_digit-p-2.ensures.place, c.put_digit-p-2.auto.text, c.put_digit-p-3.ensures.place, c.put_digit-p-3.auto.text))

pub bounds-text-p : goal.bounds-text-p
bounds-text-p c =
    omega (arith, c.requires, lower_length c.args.n, c.put_digit-p.ensures.place, c.put_digit-p.auto.text, c.put_digit-p-2.ensures.place, c.put_digit-p-2.auto.text, c.put_digit-p-3.ensures.place, c.put_digit-p-3.auto.text, c.put_digit-p-4.ensures.place, c.put_digit-p-4.auto.text)

pub overflow_add-result : goal.overflow_add-result
overflow_add-result c =
    omega (arith, c.requires, lower_length c.args.n, c.put_digit-p.ensures.place, c.put_digit-p.auto.text, c.put_digit-p-2.ensures.place, c.put_digit-p-2.auto.text, c.put_digit-p-3.ensures.place, c.put_digit-p-3.auto.text, c.put_digit-p-4.ensures.place, c.put_digit-p-4.auto.text)

pub returns : goal.returns
unfolding lower_of
returns c =
    then c.put_digit-p.ensures (then c.put_digit-p-2.ensures (then c.put_digit-p-3.ensures (then c.put_digit-p-4.ensures (wrote_one _ _ _))))
