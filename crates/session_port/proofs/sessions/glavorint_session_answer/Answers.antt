use mathlib.Core.Path.{sym, ap, ◌∙◌}
use Rattle.cpu.specs.Record.{number_in}
use Rattle.session.specs.declared.types.Stepped.{Stepped}
use Rattle.session_port.specs.Port.{pack_session}
use Rattle.session_port.proofs.Laws.{opened_size, answer_bad, answer_good}
use Rattle.session_port.proofs.sessions.glavorint_session_answer.Goals as goal

pub returns-in_default : goal.returns-in_default
returns-in_default c =
    let e = answer_bad c.args.session.now c.args.byte _ c.session_of-o.ensures c.in_default.is in
    (rw (e, c.from.ensures), rw e)

pub put_session-requires : goal.put_session-requires
put_session-requires c =
    opened_size c.args.session.now _ (sym c.session_of-o.ensures ∙ c.in-Some.is)

pub returns : goal.returns
returns c =
    let e = answer_good c.args.session.now c.args.byte _ c.session_of-o.ensures _ c.in-Some.is in
    let t = c.answered-t.ensures in
    (rw e (c.number_in.ensures ∙ ap (λ (z : Stepped). number_in z.refusal) t), rw e (c.put_session.ensures ∙ ap (λ (z : Stepped). pack_session z.session) t))
