-- Another ID lends nothing; else the mask is read, or is not.
use mathlib.Core.Path.{ap, ◌∙◌}
use borrow.Author.Tests.{ne_eqb}
use Rattle.std.specs.Result.{is_err}
use Rattle.reader.proofs.Messages.{lent_other, lent-lacking}
use Rattle.reader.proofs.plan.lacks_mask.Goals as goal

pub returns-then-mask_id-id : goal.returns-then-mask_id-id
returns-then-mask_id-id c =
    let a = c.args in
    rw (lent_other (record { id = a.mask_id; octets = a.mask.now }) a.id c.if-mask_id-id.true, ne_eqb a.mask_id a.id c.if-mask_id-id.true)

pub returns-else-mask_id-id : goal.returns-else-mask_id-id
returns-else-mask_id-id c =
    let a = c.args in
    c.is_err.ensures.value ∙ ap is_err c.read_mask.ensures ∙ lent-lacking (record { id = a.mask_id; octets = a.mask.now }) a.id c.if-mask_id-id.false
