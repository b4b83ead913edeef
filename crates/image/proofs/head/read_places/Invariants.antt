-- After i turns the first i places are laid over the free ones.
use mathlib.Core.Path.{◌≡◌}
use lib.ListN.{length, take}
use Rattle.lists.specs.Lists.{laid}
use Rattle.image.specs.Reading.{head_at}
use Rattle.image.proofs.head.read_places.Given as goal

abbrev pub invariant-loop-i : goal.invariant-loop-i
invariant-loop-i l = (length l.initial.place-items ≡ 8) × (l.place-items ≡ laid l.initial.place-items 0 (take l.i (head_at l.octets).places))
