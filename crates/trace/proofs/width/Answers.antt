use native.Mathlib.Omega.{arith}
use Rattle.trace.proofs.Decimal.{width_one, width_more}
use Rattle.trace.proofs.width.Goals as goal

pub returns-then-n-lt10 : goal.returns-then-n-lt10
returns-then-n-lt10 c = width_one _ c.if-n-lt10.true

pub returns-then-n-lt100 : goal.returns-then-n-lt100
returns-then-n-lt100 c = width_more 0 _ c.if-n-lt10.false c.if-n-lt100.true

pub returns-then-n-lt1000 : goal.returns-then-n-lt1000
returns-then-n-lt1000 c = width_more 1 _ c.if-n-lt100.false c.if-n-lt1000.true

pub returns-then-n-lt10000 : goal.returns-then-n-lt10000
returns-then-n-lt10000 c = width_more 2 _ c.if-n-lt1000.false c.if-n-lt10000.true

pub returns-then-n-lt100000 : goal.returns-then-n-lt100000
returns-then-n-lt100000 c = width_more 3 _ c.if-n-lt10000.false c.if-n-lt100000.true

pub returns-then-n-lt1000000 : goal.returns-then-n-lt1000000
returns-then-n-lt1000000 c = width_more 4 _ c.if-n-lt100000.false c.if-n-lt1000000.true

pub returns-then-n-lt10000000 : goal.returns-then-n-lt10000000
returns-then-n-lt10000000 c = width_more 5 _ c.if-n-lt1000000.false c.if-n-lt10000000.true

pub returns-then-n-lt100000000 : goal.returns-then-n-lt100000000
returns-then-n-lt100000000 c = width_more 6 _ c.if-n-lt10000000.false c.if-n-lt100000000.true

pub returns-then-n-lt1000000000 : goal.returns-then-n-lt1000000000
returns-then-n-lt1000000000 c = width_more 7 _ c.if-n-lt100000000.false c.if-n-lt1000000000.true

pub returns : goal.returns
returns c = width_more 8 _ c.if-n-lt1000000000.false (omega arith)
