-- Each turn writes its place behind the noughts so far, and behind the others so far; it stays in the list that it belongs to.
use mathlib.Core.Path.{◌≡◌}
use Prim.Native.Nat.{◌≤◌}
use lib.ListN.{length}
use Rattle.pagecode.specs.Reduction.{AreNoughts, AreOthers}
use Rattle.pagecode.proofs.missing.list_places.Given as goal

abbrev pub invariant-loop-j : goal.invariant-loop-j
invariant-loop-j l = (l.j ≤ length l.list) × (length l.noughts ≡ 32) × (length l.others ≡ 32) × (l.count ≤ l.j) × AreNoughts l.list l.j l.noughts l.count × AreOthers l.list l.j l.others
