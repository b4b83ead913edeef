-- Whatever was passed stands nowhere behind its place, so the whole list is what is left of it.
use mathlib.Core.Path.{◌≡◌}
use lib.ListN.{drop}
use Rattle.pagecode.specs.Solve.{different}
use Rattle.pagecode.proofs.numbers.all_different.Given as goal

abbrev pub invariant-loop-i : goal.invariant-loop-i
invariant-loop-i l = different (drop l.i l.numbers) ≡ different l.numbers
