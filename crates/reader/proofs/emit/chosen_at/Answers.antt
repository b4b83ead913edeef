-- Where there is no part none are chosen; else the bit tells.
use Rattle.bits.specs.Bits.{bits_of}
use Rattle.reader.proofs.Masked.{chosen_none, chosen-next}
use Rattle.reader.proofs.emit.chosen_at.Goals as goal

pub returns-in_default : goal.returns-in_default
returns-in_default c s satellites st o h = chosen_none _ _ satellites s (rw c.in_default.is at st) o h

pub returns : goal.returns
returns c s satellites st o h =
    let a = c.args in
    rw (c.from.ensures) (chosen-next (bits_of a.octets.now) a.part c.in-Some.at a.n satellites s c.bit_at.result c.in-Some.is c.bit_at.ensures st o h)
