-- After i turns the first i numbers are laid over the zeros.
use mathlib.Core.Path.{◌≡◌}
use Prim.Native.Nat.{◌≤◌}
use lib.ListN.{length, take}
use Rattle.lists.specs.Lists.{laid}
use Rattle.has_c.proofs.wide_numbers.Given as goal

abbrev pub invariant-loop-i : goal.invariant-loop-i
invariant-loop-i l = (l.i ≤ length l.numbers) × (l.wide ≡ laid l.initial.wide 0 (take l.i l.numbers))
