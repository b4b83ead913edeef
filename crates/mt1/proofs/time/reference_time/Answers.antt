-- The checks of the definition, in its order.
use Rattle.std.proofs.Common.{arith}
use Rattle.mt1.specs.Time.{reference_time}
use Rattle.mt1.proofs.time.reference_time.Goals as goal

pub returns-then-second-gt-LAST_SECOND : goal.returns-then-second-gt-LAST_SECOND
unfolding reference_time
returns-then-second-gt-LAST_SECOND c = grind arith

pub returns-then-time-gt-LAST_TIME : goal.returns-then-time-gt-LAST_TIME
unfolding reference_time
returns-then-time-gt-LAST_TIME c = grind arith

pub returns : goal.returns
unfolding reference_time
returns c = grind arith
