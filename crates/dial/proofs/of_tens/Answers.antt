use Prim.Native.Nat.{◌%◌, ◌<◌}
use mathlib.Core.Path.{sym, ◌∙◌}
use native.Mathlib.Omega.{arith}
use native.Mathlib.Nat.{zero-add}
use Rattle.dial.specs.Dial.{front_of, of_tens}
use Rattle.dial.proofs.Packing.{before_none}
use Rattle.dial.proofs.Front.{front_none, front_longer, front_short, front_small, front_step, front_holds}
use Rattle.dial.proofs.of_tens.Goals as goal

pub loop-k-init : goal.loop-k-init
loop-k-init c = (before_none (front_of (c.args.m % 10000000)), omega arith)

pub overflow_mul-front : goal.overflow_mul-front
overflow_mul-front c =
    let m = c.args.m in
    omega (arith, front_holds c.loop-k.k c.loop-k.front c.loop-k-test.true, c.loop-k.invariant.0, front_small (m % 10000000) (omega arith))

pub overflow_add-front-in-loop-k : goal.overflow_add-front-in-loop-k
overflow_add-front-in-loop-k c =
    let m = c.args.m in
    omega (arith, front_holds c.loop-k.k c.loop-k.front c.loop-k-test.true, c.loop-k.invariant.0, front_small (m % 10000000) (omega arith))

pub overflow_add-width : goal.overflow_add-width
overflow_add-width c =
    let m = c.args.m in
    omega (arith, front_short (m % 10000000) (omega arith))

pub loop-k-preserved : goal.loop-k-preserved
loop-k-preserved c =
    let less = c.loop-k-test.true in
    (sym (front_step c.loop-k.k c.loop-k.front less) ∙ c.loop-k.invariant.0, omega (arith, front_longer c.loop-k.k less, c.loop-k.invariant.1))

pub returns : goal.returns
unfolding of_tens
returns c =
    let none : c.loop-k.k < 1 = omega (arith, c.loop-k-test.false) in
    rw (← c.loop-k.invariant.0, ← c.loop-k.invariant.1, front_none c.loop-k.k none, zero-add)
