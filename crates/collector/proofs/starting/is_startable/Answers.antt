-- The first test decides, or the second does.
use native.Mathlib.Omega.{arith}
use borrow.Author.Tests.{le-leb, lt-leb}
use Rattle.collector.specs.Feed.{startable}
use Rattle.collector.proofs.starting.is_startable.Goals as goal

pub returns-then-timeout-ge1 : goal.returns-then-timeout-ge1
unfolding startable
returns-then-timeout-ge1 c = rw (le-leb 1 c.args.timeout (omega arith))

pub returns-else-timeout-ge1 : goal.returns-else-timeout-ge1
unfolding startable
returns-else-timeout-ge1 c = rw (lt-leb 1 c.args.timeout (omega arith))
