use native.Mathlib.Omega.{arith}
use Rattle.run.proofs.ByOpcode.{stride_goes}
use Rattle.run.proofs.pace.StridingPace.go.Goals as goal

pub returns-clause-paced : goal.returns-clause-paced
returns-clause-paced c = λ w s.
    let y = stride_goes _ _ c.told-mem w s c.stride.ensures.inside _ _ c.stride.ensures.value in
    record { goes = y.0; again = y.1.1; short = omega (arith, y.1.0) }
