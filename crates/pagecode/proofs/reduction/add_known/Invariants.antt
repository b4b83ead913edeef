-- Each turn adds one page.
use Prim.Native.Nat.{◌≤◌}
use lib.ListN.{length}
use Rattle.pagecode.specs.Reduction.{KnownAdded}
use Rattle.pagecode.proofs.reduction.add_known.Given as goal

abbrev pub invariant-loop-place : goal.invariant-loop-place
invariant-loop-place l = (l.place-index ≤ length l.known) × KnownAdded l.place-index l.known l.row l.message l.initial.s l.s
