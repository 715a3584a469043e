use mathlib.Core.Path.{sym, ap, ◌∙◌}
use Rattle.session_port.specs.declared.types.Went.{Went}
use Rattle.session_port.specs.Port.{pack_session, tallied}
use Rattle.session_port.proofs.Laws.{opened_size}
use Rattle.session_port.proofs.Courses.{cycles_bad, cycles_good}
use Rattle.session_port.proofs.sessions.cycles_of.Goals as goal

pub returns-in_default : goal.returns-in_default
returns-in_default c =
    let e = cycles_bad c.args.session.now c.args.mem.now c.args.count _ c.session_of-o.ensures c.in_default.is in
    (rw (e, c.tally.ensures, c.unfit_by.ensures), rw e, rw e)

pub put_session-requires : goal.put_session-requires
put_session-requires c =
    opened_size c.args.session.now _ (sym c.session_of-o.ensures ∙ c.in-Some.is)

pub returns : goal.returns
returns c =
    let e = cycles_good c.args.session.now c.args.mem.now c.args.count _ c.session_of-o.ensures _ c.in-Some.is in
    let t = c.repeated-w.ensures.0 in (
      rw e (c.tally-2.ensures ∙ ap (λ (z : Went). tallied z.cycles z.refusal) t),
      rw e (c.put_session.ensures ∙ ap (λ (z : Went). pack_session z.session) t),
      rw e c.repeated-w.ensures.1,
    )
