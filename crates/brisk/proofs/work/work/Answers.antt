use Rattle.std.proofs.Common.{sym, arith}
use Rattle.brisk.proofs.WholeLaws.{cmp_compared, and_placed, ora_placed, eor_placed, load_placed, bit_tested, bit_immediate_tested}
use Rattle.brisk.proofs.work.work.Goals as goal

pub returns-in-Cmp : goal.returns-in-Cmp
returns-in-Cmp c = simp (c.compare.ensures, c.in-Cmp.is) (sym (cmp_compared c.args.a c.args.v c.args.f (omega arith) (omega arith) c.args.wide))

pub returns-in-And : goal.returns-in-And
returns-in-And c = simp (c.place.ensures, c.in-And.is) (sym (and_placed c.args.a c.args.v c.args.f (omega arith) (omega arith) c.args.wide))

pub returns-in-Ora : goal.returns-in-Ora
returns-in-Ora c = simp (c.place-in-Ora.ensures, c.in-Ora.is) (sym (ora_placed c.args.a c.args.v c.args.f (omega arith) (omega arith) c.args.wide))

pub returns-in-Eor : goal.returns-in-Eor
returns-in-Eor c = simp (c.place-in-Eor.ensures, c.in-Eor.is) (sym (eor_placed c.args.a c.args.v c.args.f (omega arith) (omega arith) c.args.wide))

pub returns-in-Bit : goal.returns-in-Bit
returns-in-Bit c = simp (c.test.ensures, c.in-Bit.is) (sym (bit_tested c.args.a c.args.v c.args.f (omega arith) (omega arith) c.args.wide))

pub returns-in-BitImmediate : goal.returns-in-BitImmediate
returns-in-BitImmediate c = simp (c.test-in-BitImmediate.ensures, c.in-BitImmediate.is) (sym (bit_immediate_tested c.args.a c.args.v c.args.f (omega arith) (omega arith) c.args.wide))

pub returns-in-Load : goal.returns-in-Load
returns-in-Load c = simp (c.place-in-Load.ensures, c.in-Load.is) (sym (load_placed c.args.a c.args.v c.args.f (omega arith) (omega arith) c.args.wide))
