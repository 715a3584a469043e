use Rattle.std.proofs.Common.{sym, arith}
use Rattle.brisk.proofs.WholeLaws.{effected_at}
use Rattle.brisk.proofs.regs.worked.Goals as goal

pub returns : goal.returns
returns c = simp (
  c.with_flags.ensures,
  c.with_value.ensures,
  c.work-o.ensures,
  c.join.ensures,
  c.value_of.ensures,
) (sym (effected_at c.args.k c.args.r c.args.wide c.args.l c.args.h c.args.g (omega arith)))
