-- The reserved bits are there, whatever they are, or SHORT.
use mathlib.Core.Path.{sym, ap, ◌∙◌}
use Rattle.bits.specs.Bits.{bits_of}
use Rattle.mt1.specs.Parse.{field}
use Rattle.reader.specs.Steps.{mask_end}
use Rattle.reader.proofs.Fields.{handed, step-bad}
use Rattle.reader.proofs.Skipping.{step_field, step-got}
use Rattle.reader.proofs.mask.end_mask.Goals as goal

pub returns-in_err-end : goal.returns-in_err-end
returns-in_err-end c =
    let a = c.args in
    let bs = bits_of a.octets.now in
    handed _ c.from_residual.ensures.1 ∙ sym (ap (mask_end a.plan) (step-bad (field 6 bs a.at) (c.in_err-end.ensures ∙ sym (step_field bs 6 a.at))))

pub returns : goal.returns
returns c =
    let a = c.args in
    let bs = bits_of a.octets.now in
    step-got (field 6 bs a.at) (step_field bs 6 a.at ∙ sym c.in_ok-end.ensures) λ v e. sym (ap (mask_end a.plan) e)
