-- The interval and the part of each system, one behind another; nothing if the flag is 0.
use Rattle.writer.proofs.Appending.{appends-join, block-none, block-there}
use Rattle.writer.proofs.block.append_block.Goals as goal

pub returns-then-not-append_interval : goal.returns-then-not-append_interval
returns-then-not-append_interval c =
    let i = c.append_interval.ensures in
    block-none c.args.message.records.now c.args.k i.0 i.1 _ c.if-not-append_interval.true

pub returns : goal.returns
returns c =
    let i = c.append_interval.ensures in
    block-there c.args.message.records.now c.args.k i.0 i.1 c.if-not-append_interval.false (appends-join c.append_parts.ensures c.append_parts-2.ensures)
