-- Each return is the definition's value where its branch leads.
use borrow.Author.Tests.{le-leb, lt-leb}
use Rattle.pagecode.specs.Reduction.{plain_number}
use Rattle.pagecode.proofs.missing.plain_number.Goals as goal

pub returns-then-p-le-LAST_PLAIN : goal.returns-then-p-le-LAST_PLAIN
unfolding plain_number
returns-then-p-le-LAST_PLAIN c = simp (le-leb _ 32 c.if-p-le-LAST_PLAIN.true)

pub returns-else-p-le-LAST_PLAIN : goal.returns-else-p-le-LAST_PLAIN
unfolding plain_number
returns-else-p-le-LAST_PLAIN c = simp (lt-leb _ 32 c.if-p-le-LAST_PLAIN.false)
