-- Each turn makes one right side and lays it.
use Prim.Native.Nat.{◌≤◌}
use lib.ListN.{length}
use Rattle.pagecode.specs.Reduction.{ReducedSides}
use Rattle.pagecode.proofs.reduction.reduce_sides.Given as goal

abbrev pub invariant-loop-a : goal.invariant-loop-a
invariant-loop-a l = (l.a ≤ length l.parity) × ReducedSides (length l.known) l.a l.known l.parity l.rows l.contents l.message l.sides
