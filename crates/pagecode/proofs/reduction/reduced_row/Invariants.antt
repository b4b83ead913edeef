-- Each turn sets one entry.
use Prim.Native.Nat.{◌-◌, ◌≤◌}
use lib.ListN.{length, get_or}
use Rattle.pagecode.proofs.Stored.{Stored}
use Rattle.pagecode.proofs.reduction.reduced_row.Given as goal

abbrev pub invariant-loop-c : goal.invariant-loop-c
invariant-loop-c l = (l.c ≤ length l.missing) × Stored 0 (λ b. b) (λ b. get_or l.row (get_or l.missing b 0 - 1) 0) 32 l.s l.c
