-- The table's rule, at this entry.
use native.Mathlib.Omega.{arith}
use Rattle.pagecode.proofs.Tables.{logs}
use Rattle.pagecode.proofs.Power.{logarithm-of}
use Rattle.pagecode.proofs.field.logarithm.Goals as goal

pub returns : goal.returns
unfolding logs
returns c = rw c.from.ensures (logarithm-of c.args.a (omega arith))
