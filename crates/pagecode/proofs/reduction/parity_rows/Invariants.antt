-- After a turns the first a rows are those of the first a parity pages.
-- A legal number is one of 1 to 255, which the row of a page asks for.
use mathlib.Core.List.{[]}
use Prim.Native.Nat.{◌-◌, ◌≤◌}
use lib.ListN.{length, get_or}
use Rattle.pagecode.specs.Matrix.{matrix_row}
use Rattle.pagecode.proofs.Stored.{Stored}
use Rattle.pagecode.proofs.reduction.parity_rows.Given as goal

abbrev pub invariant-loop-a : goal.invariant-loop-a
invariant-loop-a l = (l.a ≤ length l.parity) × Stored [] (λ b. b) (λ b. matrix_row (get_or l.numbers (get_or l.parity b 0 - 1) 0)) 32 l.rows l.a
