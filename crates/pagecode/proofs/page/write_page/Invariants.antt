-- The loop copies the content behind the header's three octets. The buffer has 56 octets, so nothing of what it held is left.
use mathlib.Core.Path.{◌≡◌}
use mathlib.Core.List.{List}
use Prim.Native.Nat.{ℕ, ◌≤◌}
use lib.ListN.{length}
use lib.Seq.{paste}
use Rattle.pagecode.proofs.page.write_page.Given as goal

pub record Inv (d s v : List ℕ) (j : ℕ) : Type 0 where
  pub is : v ≡ paste d 3 s j
  pub upto : j ≤ 53
  pub long : length v ≡ 56

abbrev pub invariant-loop-j : goal.invariant-loop-j
invariant-loop-j l = Inv l.initial.out l.content l.out l.j
