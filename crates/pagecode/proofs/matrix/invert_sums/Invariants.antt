-- After j turns the first j entries are the inverses of their sums.
use Prim.Native.Nat.{ℕ, ◌-◌, ◌<◌}
use lib.ListN.{get_or}
use Rattle.pagecode.specs.Field.{◌⊕◌, power, Inverse}
use Rattle.pagecode.proofs.matrix.invert_sums.Given as goal

abbrev pub invariant-loop-j : goal.invariant-loop-j
invariant-loop-j l = (k : ℕ) → k < l.j → Inverse (l.y ⊕ power (254 - k)) (get_or l.x-items k 0)
