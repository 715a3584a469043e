use Rattle.std.proofs.Common.{◌≡◌, ◌-◌}
use Rattle.lines.specs.Form.{span_of}
use Rattle.lines.proofs.form.span_of.Given as goal

-- the cycles that are left give the whole
abbrev pub invariant-loop-count : goal.invariant-loop-count
invariant-loop-count l = span_of (128 - l.count) l.text l.from l.count ≡ span_of 128 l.text l.initial.from 0
