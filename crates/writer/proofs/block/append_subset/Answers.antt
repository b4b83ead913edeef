-- The interval, how many systems are in the subset, and the part of each, one behind another; nothing if the flag is 0.
use mathlib.Core.Path.{ap₂}
use Prim.Native.Nat.{◌+◌}
use Rattle.writer.proofs.Appending.{appends-join, appends-number, flag-number, block-none, block-there}
use Rattle.writer.proofs.block.append_subset.Goals as goal

pub returns-then-not-append_interval : goal.returns-then-not-append_interval
returns-then-not-append_interval c =
    let i = c.append_interval.ensures in
    block-none c.args.message.records.now 3 i.0 i.1 _ c.if-not-append_interval.true

pub returns : goal.returns
returns c =
    let i = c.append_interval.ensures in
    block-there c.args.message.records.now 3 i.0 i.1 c.if-not-append_interval.false
    (appends-join (appends-number 4 (ap₂ ◌+◌ (flag-number c.from.ensures c.is_in_subset.ensures) (flag-number c.from-2.ensures c.is_in_subset-2.ensures)) c.append.ensures)
    (appends-join c.append_subset_part.ensures c.append_subset_part-2.ensures))
