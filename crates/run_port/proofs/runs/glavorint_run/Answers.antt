use mathlib.Core.Path.{sym, ap, ◌∙◌}
use Rattle.std.proofs.Common.{Option}
use Rattle.cpu.specs.Record.{number_in}
use Rattle.cpu.specs.declared.types.Refusal.{Refusal}
use Rattle.run.specs.declared.types.Outcome.{Outcome}
use Rattle.packed.specs.Packed.{pack}
use Rattle.packed.proofs.RoundTrip.{put_back}
use Rattle.numbers.specs.Numbers.{run_number}
use Rattle.run_port.proofs.Laws.{run_bad, run_good}
use Rattle.run_port.proofs.runs.glavorint_run.Goals as goal

pub returns-in_default : goal.returns-in_default
returns-in_default c =
    let e = run_bad c.args.rec.now c.args.mem.now c.args.budget _ c.unpack-u.ensures c.in_default.is in
    (rw (e, c.ended_number.ensures, c.unfit_by.ensures), rw e, rw e)

pub returns : goal.returns
returns c =
    let u = c.unpack-u.ensures in
    let e = run_good c.args.rec.now c.args.mem.now c.args.budget _ u _ c.in-Some.is in
    let t = c.run-o.ensures.0 in (
      rw e (c.ended_number-2.ensures ∙ ap (λ (z : Outcome (Option Refusal)). run_number (number_in z.refusal) z.cycles) t),
      rw e (put_back c.args.rec.now _ _ _ _ (sym u ∙ c.in-Some.is) c.pack-bytes.ensures c.put.ensures ∙ ap (λ (z : Outcome (Option Refusal)). pack z.after) t),
      rw e c.run-o.ensures.1,
    )
