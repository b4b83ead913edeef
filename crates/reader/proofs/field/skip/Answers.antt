-- Bits that are there end n places on; else the field is SHORT.
use mathlib.Core.Path.{sym, ap, ◌∙◌}
use Rattle.bits.specs.Bits.{bits_of}
use Rattle.reader.specs.Steps.{step_of}
use Rattle.reader.proofs.Fields.{handed, enough, raw-there, raw-lacking}
use Rattle.reader.proofs.field.skip.Goals as goal

pub returns-in_err-need : goal.returns-in_err-need
returns-in_err-need c =
    let a = c.args in
    handed _ c.from_residual.ensures.1 ∙ sym (ap step_of (raw-lacking a.n (bits_of a.octets.now) a.at c.in_err-need.ensures))

pub returns : goal.returns
returns c =
    let a = c.args in
    let bs = bits_of a.octets.now in
    sym (ap step_of (raw-there a.n bs a.at (enough a.n bs a.at c.in_ok-need.ensures)))
