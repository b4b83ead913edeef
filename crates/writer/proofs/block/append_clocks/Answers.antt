-- The interval, the multipliers and the clocks, one behind another; nothing if the flag is 0.
use Rattle.writer.proofs.Appending.{appends-join, block-none, block-there}
use Rattle.writer.proofs.block.append_clocks.Goals as goal

pub returns-then-not-append_interval : goal.returns-then-not-append_interval
returns-then-not-append_interval c =
    let i = c.append_interval.ensures in
    block-none c.args.message.records.now 2 i.0 i.1 _ c.if-not-append_interval.true

pub returns : goal.returns
returns c =
    let i = c.append_interval.ensures in
    block-there c.args.message.records.now 2 i.0 i.1 c.if-not-append_interval.false
    (appends-join c.append_multiplier.ensures
    (appends-join c.append_multiplier-2.ensures
    (appends-join c.append_parts.ensures c.append_parts-2.ensures)))
