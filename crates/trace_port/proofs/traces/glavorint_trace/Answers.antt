use mathlib.Core.Path.{sym, ap, ◌∙◌}
use Rattle.cpu.specs.Record.{number_in}
use Rattle.traced.specs.declared.types.Traced.{Traced}
use Rattle.packed.specs.Packed.{pack}
use Rattle.packed.proofs.RoundTrip.{put_back}
use Rattle.trace_port.specs.Port.{trace_number}
use Rattle.trace_port.proofs.Laws.{trace_bad, trace_good, fits}
use Rattle.trace_port.proofs.traces.glavorint_trace.Goals as goal

pub returns-in_default : goal.returns-in_default
returns-in_default c =
    let e = trace_bad c.args.rec.now c.args.mem.now c.args.text.now c.args.before c.args.budget _ c.unpack-u.ensures c.in_default.is in
    (rw (e, c.trace_number.ensures, c.unfit_by.ensures), rw e, rw e, rw e)

pub trace_number-requires-2 : goal.trace_number-requires-2
trace_number-requires-2 c =
    rw c.traced_piece-o.ensures.answer (fits c.args.before c.args.budget _ c.args.mem.now c.args.text.now)

pub returns : goal.returns
returns c =
    let u = c.unpack-u.ensures in
    let e = trace_good c.args.rec.now c.args.mem.now c.args.text.now c.args.before c.args.budget _ u _ c.in-Some.is in
    let t = c.traced_piece-o.ensures in (
      rw e (c.trace_number-2.ensures ∙ ap (λ (z : Traced). trace_number (number_in z.refusal) z.cycles z.written) t.answer),
      rw e (put_back c.args.rec.now _ _ _ _ (sym u ∙ c.in-Some.is) c.pack-bytes.ensures c.put.ensures ∙ ap (λ (z : Traced). pack z.after) t.answer),
      rw e t.mem,
      rw e t.text,
    )
