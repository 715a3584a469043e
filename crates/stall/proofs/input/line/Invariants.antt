use Rattle.std.proofs.Common.{◌≤◌}
use Rattle.stall.proofs.input.line.Given as goal

abbrev pub invariant-loop : goal.invariant-loop
invariant-loop g l = l.n ≤ 8
