use Rattle.std.proofs.Common.{◌≡◌, ◌-◌}
use Rattle.course.specs.Course.{course_of}
use Rattle.course.proofs.run.run.Given as goal

-- the cycles that are left give the whole
abbrev pub invariant-loop-done : goal.invariant-loop-done
invariant-loop-done l = course_of (l.done-end - l.done) l.text l.at l.done l.r ≡ course_of l.done-end l.text l.initial.at 0 l.initial.r
