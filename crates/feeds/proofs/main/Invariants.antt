-- The collector is one that our calls made.
-- It begins as one, and a feed leaves one.
use Rattle.collector.specs.Image.{Made}
use Rattle.feeds.proofs.main.Given as goal

abbrev pub invariant-loop-feed : goal.invariant-loop-feed
invariant-loop-feed l = Made l.collector
