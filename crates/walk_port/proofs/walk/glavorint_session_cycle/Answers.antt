use mathlib.Core.Path.{ap, ◌∙◌}
use Rattle.cpu.specs.Record.{number_in}
use Rattle.session_port.specs.declared.types.Tally.{Tally}
use Rattle.session_port.specs.Port.{Cycled}
use Rattle.session_port.proofs.Courses.{one_cycle_lem}
use Rattle.walk_port.proofs.walk.glavorint_session_cycle.Goals as goal

pub returns : goal.returns
returns c =
    let e = one_cycle_lem c.args.session.now c.args.mem.now in (
      c.number_in.ensures ∙ ap (λ (z : Tally). number_in z.refusal) c.cycles_of-t.ensures.0 ∙ ap (λ (z : Cycled). z.number) e,
      c.cycles_of-t.ensures.1 ∙ ap (λ (z : Cycled). z.bytes) e,
      c.cycles_of-t.ensures.2 ∙ ap (λ (z : Cycled). z.mem) e,
    )
