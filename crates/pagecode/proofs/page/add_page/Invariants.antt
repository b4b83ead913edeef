-- The loop fills the sum from the front: a turn sets its next octet, the old one plus the product.
use Rattle.pagecode.proofs.Fill.{Filled}
use Rattle.pagecode.proofs.Multiples.{more}
use Rattle.pagecode.proofs.page.add_page.Given as goal

abbrev pub invariant-loop-j : goal.invariant-loop-j
invariant-loop-j l = Filled l.fn.sum (more l.fn.sum l.page l.f) l.x-items l.j
