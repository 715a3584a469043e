use borrow.Author.Tests.{eq-eqb, ne_eqb}
use Rattle.haul.specs.Hauls.{haul_of, haul_mem}
use Rattle.haul.proofs.haul.Goals as goal

pub returns-clause-value : goal.returns-clause-value
unfolding haul_of haul_mem
returns-clause-value c = let m = c.in-Some.ensures.cases in
    let w = eq-eqb _ _ m.long in
    (simp (w, c.haul_in.ensures.0, m.same), simp (w, c.haul_in.ensures.1, m.same))

pub returns-in_default-clause-value : goal.returns-in_default-clause-value
unfolding haul_of haul_mem
returns-in_default-clause-value c = let w = ne_eqb _ _ c.in_default.ensures.cases in
    (simp (w, c.stretch_of.ensures), simp w)
