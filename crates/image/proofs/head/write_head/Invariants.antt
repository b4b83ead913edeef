-- After i turns the first i places are laid behind the time-out and the last second.
use mathlib.Core.Path.{◌≡◌}
use lib.ListN.{length}
use Rattle.image.proofs.Parts.{Put}
use Rattle.image.proofs.head.write_head.Given as goal

abbrev pub invariant-loop-i : goal.invariant-loop-i
invariant-loop-i l = (length l.initial.out ≡ 336) × Put l.initial.out l.head.places l.i l.out
