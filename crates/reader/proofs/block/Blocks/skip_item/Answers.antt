-- A turn passes over one field, and the rest of the item ends as the whole item does.
use mathlib.Core.Path.{sym, ◌∙◌}
use Rattle.std.proofs.Math.ListN.{drop_of_length-le}
use Rattle.bits.specs.Bits.{bits_of}
use Rattle.reader.proofs.Fields.{handed}
use Rattle.reader.proofs.Skipping.{no-fields, next-field}
use Rattle.reader.proofs.block.Blocks.skip_item.Goals as goal

pub returns-in_err-place : goal.returns-in_err-place
returns-in_err-place c =
    let a = c.args in
    let l = c.loop-w in
    rw (handed c.from_residual.result c.from_residual.ensures.1, ← l.invariant, next-field (bits_of a.self.now.octets.now) a.widths.now l.w-index l.place c.loop-w-test.true, ← c.in_err-place.ensures)

pub loop-w-preserved : goal.loop-w-preserved
loop-w-preserved c =
    let a = c.args in
    let l = c.loop-w in
    let bs = bits_of a.self.now.octets.now in
    rw (← c.in_ok-place.ensures) at (sym (next-field bs a.widths.now l.w-index l.place c.loop-w-test.true) ∙ l.invariant)

pub returns : goal.returns
returns c =
    let a = c.args in
    let l = c.loop-w in
    let bs = bits_of a.self.now.octets.now in
    sym (no-fields bs l.place) ∙ rw (drop_of_length-le a.widths.now c.loop-w-test.false) at l.invariant
