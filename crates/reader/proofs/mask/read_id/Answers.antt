-- The field is there or SHORT; the ID is among those that may come, or SYSTEM; it is among those that came, and is TWICE, or it is read.
use mathlib.Core.Path.{sym, ap, ◌∙◌}
use Rattle.std.specs.Prelude.{Err}
use Rattle.bits.specs.Bits.{bits_of}
use Rattle.mt1.specs.Parse.{field, wrong_id}
use Rattle.reader.specs.Steps.{field_answer}
use Rattle.reader.proofs.Fields.{handed, field-ends, field-got, field-bad, judged-bad, judged-wrong, judged-fine}
use Rattle.reader.proofs.MaskSteps.{memb-any, id-strange, id-twice, id-fine}
use Rattle.reader.proofs.mask.read_id.Goals as goal

pub returns-in_err-id : goal.returns-in_err-id
returns-in_err-id c =
    let a = c.args in
    let bs = bits_of a.octets.now in
    handed _ c.from_residual.ensures.1 ∙ sym (ap field_answer (judged-bad 4 (wrong_id a.may.now a.came.now) bs a.at (field-bad (field 4 bs a.at) c.in_err-id.ensures)))

pub returns-then-not-contains : goal.returns-then-not-contains
returns-then-not-contains c =
    let a = c.args in
    let bs = bits_of a.octets.now in
    let id = c.in_ok-id.id in
    ap Err c.refuse.ensures
    ∙ sym (ap field_answer (judged-wrong 4 (wrong_id a.may.now a.came.now) bs a.at (field-got (field 4 bs a.at) (field-ends 4 bs a.at) c.in_ok-id.ensures)
    (id-strange a.may.now a.came.now id (sym (c.if-not-contains.ensures.value ∙ memb-any a.may.now id)))))

pub returns-then-contains : goal.returns-then-contains
returns-then-contains c =
    let a = c.args in
    let bs = bits_of a.octets.now in
    let id = c.in_ok-id.id in
    ap Err c.refuse-then-contains.ensures
    ∙ sym (ap field_answer (judged-wrong 4 (wrong_id a.may.now a.came.now) bs a.at (field-got (field 4 bs a.at) (field-ends 4 bs a.at) c.in_ok-id.ensures)
    (id-twice a.may.now a.came.now id (sym (c.if-not-contains.ensures.value ∙ memb-any a.may.now id)) (sym (c.if-contains.ensures.value ∙ memb-any a.came.now id)))))

pub returns : goal.returns
returns c =
    let a = c.args in
    let bs = bits_of a.octets.now in
    let id = c.in_ok-id.id in
    sym (ap field_answer (judged-fine 4 (wrong_id a.may.now a.came.now) bs a.at (field-got (field 4 bs a.at) (field-ends 4 bs a.at) c.in_ok-id.ensures)
    (id-fine a.may.now a.came.now id (sym (c.if-not-contains.ensures.value ∙ memb-any a.may.now id)) (sym (c.if-contains.ensures.value ∙ memb-any a.came.now id)))))
