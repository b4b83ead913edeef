-- The table's rule, at this entry.
use native.Mathlib.Omega.{arith}
use Rattle.pagecode.proofs.Tables.{inverses}
use Rattle.pagecode.proofs.Power.{inverse-of}
use Rattle.pagecode.proofs.field.inverse.Goals as goal

pub returns : goal.returns
unfolding inverses
returns c = rw c.from.ensures (inverse-of c.args.a (omega arith))
