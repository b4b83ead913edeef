-- Where there is no place nothing stands; what stands is the number that is read there.
use native.Mathlib.Omega.{arith}
use mathlib.Core.Path.{sym, ap, ◌∙◌}
use borrow.Author.Rules.{rules}
use Rattle.bits.specs.Bits.{bits, bits_of}
use Rattle.mt1.specs.Records.{octet_or}
use Rattle.reader.proofs.RowValues.{absent, present, read-lt}
use Rattle.reader.proofs.record.octet_at.Goals as goal

pub returns-in_default : goal.returns-in_default
returns-in_default c v s b =
    let a = c.args in
    sym (ap octet_or (absent (bits_of a.octets.now) (bits a.n) a.place v c.in_default.is s))

pub overflow_cast-result : goal.overflow_cast-result
overflow_cast-result c =
    let a = c.args in
    record { fits = read-lt (bits_of a.octets.now) c.in-Some.at a.n 8 c.number_at.ensures (search rules) }

pub returns : goal.returns
returns c v s b =
    let a = c.args in
    c.number_at.ensures ∙ sym (ap octet_or (present (bits_of a.octets.now) a.place a.n c.in-Some.at v c.in-Some.is (omega arith) s b))
