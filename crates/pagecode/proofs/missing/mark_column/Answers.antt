-- Each return is the contract's value where its branch leads.
use borrow.Author.Tests.{eq-eqb, ne_eqb}
use Rattle.pagecode.proofs.missing.mark_column.Goals as goal

pub returns-then-p-eq0 : goal.returns-then-p-eq0
returns-then-p-eq0 c = simp (eq-eqb _ 0 c.if-p-eq0.true)

pub returns : goal.returns
returns c = rw c.from.ensures (simp (ne_eqb _ 0 c.if-p-eq0.false))
