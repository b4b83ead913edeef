-- By the test on the field's value, as `widened` has it.
use borrow.Author.Rules.{rules}
use Rattle.mt1.proofs.Signs.{widened-low, widened-high}
use Rattle.reader.proofs.record.widen.Goals as goal

pub returns-then-v-half : goal.returns-then-v-half
returns-then-v-half c =
    let a = c.args in
    (widened-low a.half a.v c.if-v-half.true, search rules)

pub returns-else-v-half : goal.returns-else-v-half
returns-else-v-half c =
    let a = c.args in
    (widened-high a.half a.v c.if-v-half.false, search rules)
