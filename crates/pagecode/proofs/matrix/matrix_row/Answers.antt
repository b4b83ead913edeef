-- Of one of the first 32 pages the row is a unit row. Of another it is the dense part's.
use native.Mathlib.Omega.{arith}
use Rattle.pagecode.proofs.Rows.{unit_row}
use Rattle.pagecode.proofs.matrix.matrix_row.Goals as goal

pub returns : goal.returns
returns c = unit_row c.args.p c.requires.0 (omega arith)
