-- The list becomes the sum: each turn sets one element of it.
use Rattle.pagecode.specs.Code.{plus}
use Rattle.pagecode.proofs.Fill.{Filled}
use Rattle.pagecode.proofs.elimination.add.Given as goal

abbrev pub invariant-loop-i : goal.invariant-loop-i
invariant-loop-i l = Filled l.initial.to (plus l.initial.to l.more) l.to l.i
