use native.Mathlib.Omega.{arith}
use mathlib.Core.Path.{sym, ◌∙◌}
use Rattle.trail.proofs.Whole.{run_told}
use Rattle.traced.proofs.Laws.{piece_told, piece_short, unfit_listed}
use Rattle.traced.proofs.traced.piece.Goals as goal

pub returns-then-well_formed : goal.returns-then-well_formed
returns-then-well_formed c =
    let f = piece_short _ _ c.args.rec c.args.mem.now c.requires.0 in
    let well = sym c.well_formed-2.ensures ∙ c.if-well_formed.true in
    let l = run_told _ _ _ _ _ _ c.told-mem c.requires.0 (omega (arith, c.put_head-place.auto.text, c.put_head-place.ensures.place, c.requires.1)) well _ _ _ c.trail.ensures in
    rw c.as_traced.ensures (piece_told _ _ _ _ _ _ _ _ c.put_head-place.ensures l (omega (arith, f, c.requires.1)))

pub returns-else-well_formed : goal.returns-else-well_formed
returns-else-well_formed c =
    let f = piece_short _ _ c.args.rec c.args.mem.now c.requires.0 in
    let n = sym c.well_formed-2.ensures ∙ c.if-well_formed.false in
    rw c.unfit.ensures (piece_told _ _ _ _ _ _ _ _ c.put_head-place.ensures (unfit_listed _ _ _ _ _ _ n) (omega (arith, f, c.requires.1)))
