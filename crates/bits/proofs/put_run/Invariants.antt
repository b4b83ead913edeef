-- After k turns the first k bits are laid at their place.
use mathlib.Core.Path.{◌≡◌}
use Prim.Native.Nat.{◌≤◌}
use lib.ListN.{length, take}
use Rattle.lists.specs.Lists.{laid}
use Rattle.bits.specs.Bits.{bits, bits_of}
use Rattle.bits.proofs.put_run.Given as goal

abbrev pub invariant-loop-k : goal.invariant-loop-k
invariant-loop-k l = (l.k ≤ l.n) × (length l.out ≡ length l.initial.out) × (bits_of l.out ≡ laid (bits_of l.initial.out) l.at (take l.k (bits l.n l.v)))
