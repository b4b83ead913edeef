-- Each turn lays one page more.
use Prim.Native.Nat.{◌≤◌}
use lib.ListN.{length}
use Rattle.pagecode.specs.Reduction.{PagesLaid}
use Rattle.pagecode.proofs.laying.lay_pages.Given as goal

abbrev pub invariant-loop-i : goal.invariant-loop-i
invariant-loop-i l = (l.i ≤ length l.to) × PagesLaid l.i l.source l.to l.initial.out l.out
