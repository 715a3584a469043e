use native.Mathlib.Omega.{arith}
use lib.ListN.{length-set}
use Rattle.packed.proofs.Laws.{sets_next, placed_all}
use Rattle.packed.proofs.bytes.put.Goals as goal

pub loop-i-preserved : goal.loop-i-preserved
loop-i-preserved c = (simp length-set (omega arith), sets_next _ _ _ _ _ (omega arith) c.loop-i.invariant.1)

pub returns : goal.returns
returns c = placed_all c.args.src.now c.args.bytes.now _ c.args.at _ (omega arith) (omega arith) c.loop-i.invariant.1
