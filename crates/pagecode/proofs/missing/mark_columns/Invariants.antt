-- Each turn marks the column of one page more.
use lib.ListN.{length}
use Rattle.pagecode.proofs.Noughts.{Marking}
use Rattle.pagecode.proofs.missing.mark_columns.Given as goal

abbrev pub invariant-loop-p : goal.invariant-loop-p
invariant-loop-p l = Marking (length l.plain) l.plain l.marks l.p-index
