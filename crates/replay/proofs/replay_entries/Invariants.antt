-- The collector is one that our calls made.
-- It begins as one, and an entry leaves one.
use Rattle.collector.specs.Image.{Made}
use Rattle.replay.proofs.replay_entries.Given as goal

abbrev pub invariant-loop : goal.invariant-loop
invariant-loop g l = Made l.collector
