-- The index is judged before the table is read.
use Rattle.std.proofs.Common.{arith}
use Rattle.mt1.specs.Interval.{interval_seconds}
use Rattle.mt1.proofs.interval.interval_seconds.Goals as goal

pub returns-then-index-ge15 : goal.returns-then-index-ge15
unfolding interval_seconds
returns-then-index-ge15 c = grind arith

pub returns : goal.returns
unfolding interval_seconds
returns c = grind arith
