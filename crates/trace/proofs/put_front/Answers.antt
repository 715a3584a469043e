use Prim.Native.Nat.{suc, ◌+◌}
use mathlib.Core.Path.{◌≡◌, refl, ap}
use native.Mathlib.Omega.{arith}
use lib.ListN.{length, length-set}
use Rattle.trace.proofs.Scaled.{front_none, front_one, front_two}
use Rattle.trace.proofs.Laws.{wrote_none, wrote_one}
use Rattle.trace.proofs.put_front.Goals as goal

pub bounds-text-at : goal.bounds-text-at
bounds-text-at c = omega (arith, c.requires.1, ap length (front_two _ c.if-n-ge10.true c.requires.0))

pub bounds-text-at-then-n-ge10 : goal.bounds-text-at-then-n-ge10
bounds-text-at-then-n-ge10 c = simp length-set (omega (arith, c.requires.1, ap length (front_two _ c.if-n-ge10.true c.requires.0)))

pub returns-then-n-ge10 : goal.returns-then-n-ge10
returns-then-n-ge10 c =
    let at = c.args.at in
    let e1 : at + 1 ≡ suc at = omega arith in
    rw (front_two _ c.if-n-ge10.true c.requires.0) (record { place = refl; text = rw e1 })

pub bounds-text-at-then-n-ge1 : goal.bounds-text-at-then-n-ge1
bounds-text-at-then-n-ge1 c = omega (arith, c.requires.1, ap length (front_one _ c.if-n-ge1.true c.if-n-ge10.false))

pub returns-then-n-ge1 : goal.returns-then-n-ge1
returns-then-n-ge1 c = rw (front_one _ c.if-n-ge1.true c.if-n-ge10.false) (wrote_one _ _ _)

pub returns : goal.returns
returns c = rw (front_none _ c.if-n-ge1.false) (wrote_none _ _)
