-- A hex digit has four bits.
use Rattle.std.proofs.Common.{ℕ, ◌<◌, unwrap_or, arith}
use Rattle.lines.specs.Text.{digit_of}

pub digit_small : (b : ℕ) → unwrap_or (digit_of b) 0 < 16
unfolding digit_of
digit_small b = grind arith
