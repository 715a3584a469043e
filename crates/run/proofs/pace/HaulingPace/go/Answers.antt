use mathlib.Core.Path.{refl}
use native.Mathlib.Omega.{arith}
use Rattle.run.proofs.ByOpcode.{haul_goes}
use Rattle.run.proofs.pace.HaulingPace.go.Goals as goal

pub returns-clause-paced : goal.returns-clause-paced
returns-clause-paced c = λ w s.
    let z = c.haul.ensures in
    let y = haul_goes _ _ c.told-mem w z.inside.0 z.inside.1 z.inside.2 _ _ z.value in
    record { goes = y.0; again = refl; short = omega (arith, y.1) }
