-- The loop fills the row from the front, each entry by the formula.
use Rattle.pagecode.specs.Matrix.{matrix_row}
use Rattle.pagecode.proofs.Fill.{Filled}
use Rattle.pagecode.proofs.matrix.parity_row.Given as goal

abbrev pub invariant-loop-j : goal.invariant-loop-j
invariant-loop-j l = Filled l.initial.x-items (matrix_row l.p) l.x-items l.j
