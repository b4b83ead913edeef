-- Each place as the callees give it; a satellite's orbit has at most 47 bits.
use native.Mathlib.Omega.{arith}
use Rattle.reader.proofs.RowValues.{within-more}
use Rattle.reader.proofs.RowFields.{orbit-room}
use Rattle.mt1.proofs.Blocks.{iod-le}
use Rattle.reader.proofs.emit.second_rows.Goals as goal

pub overflow_add-iod_bits : goal.overflow_add-iod_bits
overflow_add-iod_bits c = omega (arith, c.iod_bits-2.ensures, iod-le c.args.plan.mask.first.id)

pub overflow_mul-first : goal.overflow_mul-first
overflow_mul-first c =
    let one = c.args.plan.mask.first in
    omega (arith, orbit-room one.satellites c.iod_bits-2.result c.requires.satellites (omega (arith, c.iod_bits-2.ensures, iod-le one.id)))

pub overflow_add-first : goal.overflow_add-first
overflow_add-first c =
    let one = c.args.plan.mask.first in
    omega (arith, orbit-room one.satellites c.iod_bits-2.result c.requires.satellites (omega (arith, c.iod_bits-2.ensures, iod-le one.id)))

pub onward-requires : goal.onward-requires
onward-requires c =
    let one = c.args.plan.mask.first in
    (within-more c.args.plan.orbit 163840 200000 c.requires.orbit (omega arith), omega (arith, orbit-room one.satellites c.iod_bits-2.result c.requires.satellites (omega (arith, c.iod_bits-2.ensures, iod-le one.id))))

pub returns : goal.returns
returns c =
    simp (c.iod_bits.ensures, c.iod_bits-2.ensures, c.onward.ensures, c.onward-2.ensures, c.onward-3.ensures, c.onward-4.ensures, c.onward-5.ensures)
