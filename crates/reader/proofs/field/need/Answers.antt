-- Bits that are there, or SHORT.
use mathlib.Core.Path.{sym, ap, ◌∙◌}
use Rattle.std.specs.Prelude.{Err}
use Rattle.bits.specs.Bits.{bits_of}
use Rattle.reader.specs.Steps.{there}
use Rattle.reader.proofs.Fields.{raw-there, raw-short}
use Rattle.reader.proofs.field.need.Goals as goal

pub returns-then-not-fits : goal.returns-then-not-fits
returns-then-not-fits c =
    let a = c.args in
    ap Err c.refuse.ensures ∙ sym (ap there (raw-short a.n (bits_of a.octets.now) a.at (sym c.fits.ensures ∙ c.if-not-fits.true)))

pub returns : goal.returns
returns c =
    let a = c.args in
    sym (ap there (raw-there a.n (bits_of a.octets.now) a.at (sym c.fits.ensures ∙ c.if-not-fits.false)))
