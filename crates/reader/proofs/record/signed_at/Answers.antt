-- Where there is no place nothing stands; what stands is the number that is read there, widened.
use native.Mathlib.Omega.{arith}
use mathlib.Core.Path.{ap, ◌∙◌}
use borrow.Author.Rules.{rules}
use Rattle.bits.specs.Bits.{bits, bits_of}
use Rattle.mt1.specs.Records.{widened}
use Rattle.reader.proofs.RowValues.{absent, present, read-lt, half-fits, signed-absent, signed-present}
use Rattle.reader.proofs.record.signed_at.Goals as goal

pub returns-in_default : goal.returns-in_default
returns-in_default c v s b =
    let a = c.args in
    signed-absent a.half v (absent (bits_of a.octets.now) (bits a.n) a.place v c.in_default.is s)

pub widen-requires : goal.widen-requires
widen-requires c =
    let a = c.args in
    half-fits a.n a.half _ (search rules) (search rules) (read-lt (bits_of a.octets.now) c.in-Some.at a.n a.n c.number_at.ensures (omega arith))

pub pair-requires : goal.pair-requires
pair-requires c = c.widen.ensures.1

pub returns : goal.returns
returns c v s b =
    let a = c.args in
    c.pair.ensures ∙ signed-present a.half v (c.widen.ensures.0 ∙ ap (widened a.half) c.number_at.ensures) (present (bits_of a.octets.now) a.place a.n c.in-Some.at v c.in-Some.is (omega arith) s b)
