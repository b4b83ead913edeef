-- Where there is no place nothing stands; what stands is the number that is read there.
use native.Mathlib.Omega.{arith}
use mathlib.Core.Path.{sym, ap, ◌∙◌}
use borrow.Author.Rules.{rules}
use Rattle.bits.specs.Bits.{bits, bits_of}
use Rattle.mt1.specs.Records.{two, iod_or}
use Rattle.reader.proofs.RowValues.{absent, present, read-lt}
use Rattle.reader.proofs.record.iod_at.Goals as goal

pub returns-in_default : goal.returns-in_default
returns-in_default c v s b =
    let a = c.args in
    sym (ap iod_or (absent (bits_of a.octets.now) (bits a.n) a.place v c.in_default.is s))

pub pair-requires : goal.pair-requires
pair-requires c =
    let a = c.args in
    read-lt (bits_of a.octets.now) c.in-Some.at a.n 16 c.number_at.ensures (search rules)

pub returns : goal.returns
returns c v s b =
    let a = c.args in
    c.pair.ensures ∙ ap two c.number_at.ensures ∙ sym (ap iod_or (present (bits_of a.octets.now) a.place a.n c.in-Some.at v c.in-Some.is (omega arith) s b))
