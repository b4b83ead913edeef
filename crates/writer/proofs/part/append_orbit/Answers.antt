-- The four fields stand one behind the other; the IOD has at most 10 bits.
use native.Mathlib.Omega.{arith}
use mathlib.Core.Path.{◌∙◌, ap, ap₂}
use lib.ListN.{get_or}
use Rattle.mt1.specs.Mt1.{iod_bits}
use Rattle.bits.specs.Bits.{bits}
use Rattle.mt1.proofs.Blocks.{iod-le}
use Rattle.writer.proofs.Appending.{appends-join, appends-is, appends-number}
use Rattle.writer.proofs.part.append_orbit.Goals as goal

pub append-requires : goal.append-requires
append-requires c =
    omega (arith, c.iod_width.ensures ∙ ap iod_bits c.octet_at.ensures, iod-le (get_or c.args.system.now 2 0))

pub returns : goal.returns
returns c =
    appends-join (appends-is (ap₂ bits (c.iod_width.ensures ∙ ap iod_bits c.octet_at.ensures) c.pair_at.ensures) c.append.ensures)
    (appends-join (appends-number 13 c.pair_at-2.ensures c.append-2.ensures)
    (appends-join (appends-number 12 c.pair_at-3.ensures c.append-3.ensures) (appends-number 12 c.pair_at-4.ensures c.append-4.ensures)))
