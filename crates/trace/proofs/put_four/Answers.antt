use Prim.Native.Nat.{suc, ◌+◌}
use mathlib.Core.Path.{◌≡◌, refl}
use native.Mathlib.Omega.{arith}
use Rattle.trace.specs.Places.{four_of}
use Rattle.trace.proofs.put_four.Goals as goal

pub returns : goal.returns
unfolding four_of
returns c =
    let at = c.args.at in
    let e1 : at + 1 ≡ suc at = omega arith in
    let e2 : at + 2 ≡ suc (suc at) = omega arith in
    let e3 : at + 3 ≡ suc (suc (suc at)) = omega arith in
    record { place = refl; text = rw (e1, e2, e3) }
