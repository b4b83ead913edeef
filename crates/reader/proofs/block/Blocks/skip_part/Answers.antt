-- Multiplier, bits and clocks, each behind the one before it: the first that refuses is the part's refusal.
use native.Mathlib.Omega.{arith}
use mathlib.Core.Path.{sym, ◌∙◌}
use Rattle.bits.specs.Bits.{bits_of}
use Rattle.bits.proofs.Octets.{length-bits_of}
use Rattle.reader.proofs.Fields.{handed}
use Rattle.reader.proofs.Ones.{ones}
use Rattle.reader.proofs.Skipping.{raw-end}
use Rattle.reader.proofs.SubsetSteps.{part-steps}
use Rattle.reader.proofs.block.Blocks.skip_part.Goals as goal

pub returns-in_err-chosen_at : goal.returns-in_err-chosen_at
returns-in_err-chosen_at c ss id h =
    let a = c.args in
    rw (handed c.from_residual.result c.from_residual.ensures.1, part-steps (bits_of a.self.now.octets.now) ss id a.at h, ← c.in_err-chosen_at.ensures)

pub returns-in_err-clocks_at : goal.returns-in_err-clocks_at
returns-in_err-clocks_at c ss id h =
    let a = c.args in
    rw (
      handed c.from_residual-in_err-clocks_at.result c.from_residual-in_err-clocks_at.ensures.1,
      part-steps (bits_of a.self.now.octets.now) ss id a.at h,
      ← c.in_ok-chosen_at.ensures,
      ← c.in_err-clocks_at.ensures,
    )

pub count_bits-chosen-requires : goal.count_bits-chosen-requires
count_bits-chosen-requires c =
    let bs = bits_of c.args.self.now.octets.now in
    (omega (arith, (raw-end bs 2 c.args.at _ (sym c.in_ok-chosen_at.ensures)).1, length-bits_of c.args.self.now.octets.now, c.args.self.now.short), omega (arith, c.requires))

pub returns : goal.returns
returns c ss id h =
    let a = c.args in
    rw (part-steps (bits_of a.self.now.octets.now) ss id a.at h, ← c.in_ok-chosen_at.ensures, ← c.in_ok-clocks_at.ensures, ← c.count_bits-chosen.ensures ∙ ones (bits_of a.self.now.octets.now) c.in_ok-chosen_at.chosen_at a.satellites) c.skip_items.ensures
