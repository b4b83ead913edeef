-- Each place as the callees give it.
use Rattle.reader.proofs.emit.first_rows.Goals as goal

pub returns : goal.returns
returns c =
    simp (c.iod_bits.ensures, c.onward.ensures, c.onward-2.ensures, c.onward-3.ensures, c.onward-4.ensures, c.onward-5.ensures)
