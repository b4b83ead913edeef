-- The line becomes the multiple: each turn sets one element of it.
use Rattle.pagecode.specs.Code.{scale}
use Rattle.pagecode.proofs.Fill.{Filled}
use Rattle.pagecode.proofs.elimination.scale_line.Given as goal

abbrev pub invariant-loop-x : goal.invariant-loop-x
invariant-loop-x l = Filled l.fn.a (scale l.fn.f l.fn.a) l.x-items l.x-index
