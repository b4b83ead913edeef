-- A turn passes over one field, and the rest of the item ends as the whole item does; a field of small width ends near.
use mathlib.Core.Path.{◌≡◌}
use lib.ListN.{drop}
use Rattle.bits.specs.Bits.{bits_of}
use Rattle.mt1.specs.Parse.{field, for_each}
use Rattle.reader.specs.Steps.{step_of}
use Rattle.reader.proofs.block.Blocks.skip_item.Given as goal

abbrev pub invariant-loop-w : goal.invariant-loop-w
invariant-loop-w l =
    step_of (for_each (drop l.w-index l.widths) field (bits_of l.self.octets.now) l.place) ≡ step_of (for_each l.widths field (bits_of l.self.octets.now) l.at)
