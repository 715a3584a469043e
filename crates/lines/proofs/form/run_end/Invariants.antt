use Rattle.std.proofs.Common.{◌≡◌, ◌-◌}
use Rattle.lines.specs.Form.{run_end}
use Rattle.lines.proofs.form.run_end.Given as goal

-- what is left of the run ends where the whole does
abbrev pub invariant-loop-step : goal.invariant-loop-step
invariant-loop-step l = run_end (1024 - l._step) l.text l.end l.low l.high ≡ run_end 1024 l.text l.initial.end l.low l.high
