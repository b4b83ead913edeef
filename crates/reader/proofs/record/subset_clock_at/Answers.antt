-- There is no part, or its bit tells whether the satellite is chosen.
use mathlib.Core.Path.{sym, ◌∙◌}
use Rattle.bits.specs.Bits.{bits_of}
use Rattle.reader.specs.Steps.{part_bits}
use Rattle.reader.proofs.RowValues.{absent}
use Rattle.reader.proofs.SubsetClocks.{no_part, chosen-clock, other-clock}
use Rattle.reader.proofs.record.subset_clock_at.Goals as goal

pub returns-in_err-at : goal.returns-in_err-at
returns-in_err-at c o s f e =
    let a = c.args in
    let bs = bits_of a.octets.now in
    rw c.from_residual.ensures (no_part bs a.n o (absent bs part_bits a.part o c.in_err-at.was s))

pub returns-then-bit_at : goal.returns-then-bit_at
returns-then-bit_at c o s f e =
    let a = c.args in
    chosen-clock (bits_of a.octets.now) c.in_ok-at.at a.satellites a.n c.requires.2 o a.k c.in_ok-at.was (sym c.bit_at.ensures ∙ c.if-bit_at.true) s f e

pub returns : goal.returns
returns c o s f e =
    let a = c.args in
    other-clock (bits_of a.octets.now) c.in_ok-at.at a.satellites a.n c.requires.2 o c.in_ok-at.was (sym c.bit_at.ensures ∙ c.if-bit_at.false) s f
