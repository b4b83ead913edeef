-- The first test decides, or the second does.
use borrow.Author.Tests.{eq-eqb, ne_eqb}
use Rattle.drive.specs.Drive.{are_entries}
use Rattle.drive.proofs.replaying.is_whole.Goals as goal

pub returns-then-octets-eq0 : goal.returns-then-octets-eq0
unfolding are_entries
returns-then-octets-eq0 c = rw (eq-eqb _ _ c.if-octets-eq0.true)

pub returns-else-octets-eq0 : goal.returns-else-octets-eq0
unfolding are_entries
returns-else-octets-eq0 c = rw (ne_eqb _ _ c.if-octets-eq0.false)
