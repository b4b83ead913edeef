-- A turn passes over one item, and the rest of the row ends as the whole row does.
use Prim.Native.Nat.{◌-◌}
use mathlib.Core.Path.{◌≡◌}
use Rattle.bits.specs.Bits.{bits_of}
use Rattle.mt1.specs.Parse.{field, times, for_each}
use Rattle.reader.specs.Steps.{step_of}
use Rattle.reader.proofs.block.Blocks.skip_items.Given as goal

abbrev pub invariant-loop-k : goal.invariant-loop-k
invariant-loop-k l =
    step_of (times (l.n - l.k) (for_each l.widths field) (bits_of l.self.octets.now) l.place) ≡ step_of (times l.n (for_each l.widths field) (bits_of l.self.octets.now) l.at)
