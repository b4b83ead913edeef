-- Where its flag is 0 nothing is read; else the block is passed over by the plan's numbers.
use mathlib.Core.Path.{sym, ◌∙◌}
use Rattle.bits.specs.Bits.{bits_of}
use Rattle.mt1.specs.Mt1.{block, codes}
use Rattle.reader.proofs.BlockRows.{codes-rows}
use Rattle.reader.proofs.Planning.{step-absent, step-there}
use Rattle.reader.proofs.block.Blocks.skip_codes.Goals as goal

pub returns-then-not-bit_at : goal.returns-then-not-bit_at
returns-then-not-bit_at c =
    λ ss place k.
    let a = c.args in
    step-absent (block (codes ss)) (bits_of a.self.now.octets.now) a.at (sym c.bit_at.ensures ∙ c.if-not-bit_at.true)

pub returns : goal.returns
returns c =
    λ ss place k.
    let a = c.args in
    step-there (block (codes ss)) (bits_of a.self.now.octets.now) a.at (sym c.bit_at.ensures ∙ c.if-not-bit_at.false) (c.skip_block.ensures ∙ codes-rows (bits_of a.self.now.octets.now) k a.at)
