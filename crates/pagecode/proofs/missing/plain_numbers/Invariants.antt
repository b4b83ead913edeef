-- After i turns the first i are those of the first i numbers.
use Prim.Native.Nat.{◌≤◌}
use lib.ListN.{length, get_or}
use Rattle.pagecode.specs.Reduction.{plain_number}
use Rattle.pagecode.proofs.Stored.{Stored}
use Rattle.pagecode.proofs.missing.plain_numbers.Given as goal

abbrev pub invariant-loop-i : goal.invariant-loop-i
invariant-loop-i l = (l.i ≤ length l.numbers) × Stored 0 (λ e. e) (λ e. plain_number (get_or l.numbers e 0)) 32 l.plain l.i
