-- Interval, multipliers and two rows, each behind the one before it: the first that refuses is the block's refusal.
use Rattle.bits.specs.Bits.{bits_of}
use Rattle.reader.proofs.Fields.{handed}
use Rattle.reader.proofs.Skipping.{block-steps}
use Rattle.reader.proofs.block.Blocks.skip_block.Goals as goal

pub returns-in_err-behind_interval : goal.returns-in_err-behind_interval
returns-in_err-behind_interval c =
    let a = c.args in
    rw (handed c.from_residual.result c.from_residual.ensures.1, block-steps (bits_of a.self.now.octets.now) a.multipliers a.first a.second a.v.now a.w.now a.at, ← c.in_err-behind_interval.ensures)

pub returns-in_err-behind_multipliers : goal.returns-in_err-behind_multipliers
returns-in_err-behind_multipliers c =
    let a = c.args in
    rw (
      handed c.from_residual-in_err-behind_multipliers.result c.from_residual-in_err-behind_multipliers.ensures.1,
      block-steps (bits_of a.self.now.octets.now) a.multipliers a.first a.second a.v.now a.w.now a.at,
      ← c.in_ok-behind_interval.ensures,
      ← c.in_err-behind_multipliers.ensures,
    )

pub returns-in_err-behind_first : goal.returns-in_err-behind_first
returns-in_err-behind_first c =
    let a = c.args in
    rw (
      handed c.from_residual-in_err-behind_first.result c.from_residual-in_err-behind_first.ensures.1,
      block-steps (bits_of a.self.now.octets.now) a.multipliers a.first a.second a.v.now a.w.now a.at,
      ← c.in_ok-behind_interval.ensures,
      ← c.in_ok-behind_multipliers.ensures,
      ← c.in_err-behind_first.ensures,
    )

pub returns : goal.returns
returns c =
    let a = c.args in
    rw (
      block-steps (bits_of a.self.now.octets.now) a.multipliers a.first a.second a.v.now a.w.now a.at,
      ← c.in_ok-behind_interval.ensures,
      ← c.in_ok-behind_multipliers.ensures,
      ← c.in_ok-behind_first.ensures,
    ) c.skip_items-3.ensures
