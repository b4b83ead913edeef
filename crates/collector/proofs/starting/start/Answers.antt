-- The time-out is within range, or the collector is of 1 s.
use mathlib.Core.Path.{sym, ◌∙◌}
use Rattle.collector.proofs.Starts.{starts, starts-not}
use Rattle.collector.proofs.starting.start.Goals as goal

pub returns-then-is_startable : goal.returns-then-is_startable
returns-then-is_startable c = starts c.args.timeout c.fresh_collector-collector.result (sym c.is_startable.ensures ∙ c.if-is_startable.true) c.fresh_collector-collector.ensures

pub returns : goal.returns
returns c = starts-not c.args.timeout c.fresh_collector-collector-2.result (sym c.is_startable.ensures ∙ c.if-is_startable.false) c.fresh_collector-collector-2.ensures
