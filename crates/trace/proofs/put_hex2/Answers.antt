use Prim.Native.Nat.{suc, ◌+◌}
use mathlib.Core.Path.{◌≡◌, refl}
use native.Mathlib.Omega.{arith}
use Rattle.trace.specs.Text.{hex2}
use Rattle.trace.proofs.put_hex2.Goals as goal

pub returns : goal.returns
unfolding hex2
returns c =
    let at = c.args.at in
    let e1 : at + 1 ≡ suc at = omega arith in
    rw (← c.hex_digit-high.ensures, ← c.hex_digit-low.ensures) (record { place = refl; text = rw (e1) })
