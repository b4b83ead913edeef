-- The field is there or SHORT, and the seconds of its index say whether it is an interval.
use mathlib.Core.Path.{sym, ap, ◌∙◌}
use Rattle.std.specs.Prelude.{Err}
use Rattle.bits.specs.Bits.{bits_of}
use Rattle.bits.proofs.Octets.{length-bits_of}
use native.Mathlib.Omega.{arith}
use Rattle.mt1.specs.Parse.{field}
use Rattle.reader.specs.Steps.{step_of}
use Rattle.reader.proofs.Fields.{handed, field-ends, field-got, field-bad}
use Rattle.reader.proofs.Skipping.{field_fits, interval-short, interval-wrong, interval-known}
use Rattle.reader.proofs.block.Blocks.skip_interval.Goals as goal

pub returns-in_err-index : goal.returns-in_err-index
returns-in_err-index c =
    let a = c.args in
    let bs = bits_of a.self.now.octets.now in
    handed _ c.from_residual.ensures.1 ∙ sym (ap step_of (interval-short bs a.at (field-bad (field 4 bs a.at) c.in_err-index.ensures)))

pub returns-in_default : goal.returns-in_default
returns-in_default c =
    let a = c.args in
    let bs = bits_of a.self.now.octets.now in
    let e = field-got (field 4 bs a.at) (field-ends 4 bs a.at) c.in_ok-index.ensures in
    ap Err c.refuse.ensures ∙ sym (ap step_of (interval-wrong bs a.at e c.interval_seconds.ensures c.in_default.is))

pub returns : goal.returns
returns c =
    let a = c.args in
    let bs = bits_of a.self.now.octets.now in
    let e = field-got (field 4 bs a.at) (field-ends 4 bs a.at) c.in_ok-index.ensures in
    sym (ap step_of (interval-known bs a.at e c.interval_seconds.ensures c.in-Ok.is))

pub overflow_add-result : goal.overflow_add-result
overflow_add-result c =
    let a = c.args in
    let bs = bits_of a.self.now.octets.now in
    omega (arith, field_fits bs 4 a.at (field-got (field 4 bs a.at) (field-ends 4 bs a.at) c.in_ok-index.ensures), length-bits_of a.self.now.octets.now, a.self.now.short)
