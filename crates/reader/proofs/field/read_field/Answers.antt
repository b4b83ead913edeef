-- Bits that are there are the number; else the field is SHORT.
use mathlib.Core.Path.{sym, ap, ◌∙◌}
use Rattle.std.specs.Prelude.{Ok}
use Rattle.bits.specs.Bits.{bits_of}
use Rattle.reader.specs.Steps.{field_answer}
use Rattle.reader.proofs.Fields.{handed, enough, field-there, field-lacking}
use Rattle.reader.proofs.field.read_field.Goals as goal

pub returns-in_err-need : goal.returns-in_err-need
returns-in_err-need c =
    let a = c.args in
    handed _ c.from_residual.ensures.1 ∙ sym (ap field_answer (field-lacking a.n (bits_of a.octets.now) a.at c.in_err-need.ensures))

pub returns : goal.returns
returns c =
    let a = c.args in
    let bs = bits_of a.octets.now in
    ap Ok c.number_at.ensures ∙ sym (ap field_answer (field-there a.n bs a.at (enough a.n bs a.at c.in_ok-need.ensures) c.requires))
