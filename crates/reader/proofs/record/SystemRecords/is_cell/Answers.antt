-- Where there is a cell mask its bit tells; else all cells are there.
use mathlib.Core.Path.{◌∙◌}
use Rattle.reader.proofs.Masked.{cell-bit, cell-all}
use Rattle.reader.proofs.record.SystemRecords.is_cell.Goals as goal

pub returns-then-not-self : goal.returns-then-not-self
returns-then-not-self c s st h = rw c.if-not-self.true (cell-all s st _ c.if-not-self.true h)

pub returns-else-not-self : goal.returns-else-not-self
returns-else-not-self c s st h = c.bit_at.ensures ∙ cell-bit s st _ c.if-not-self.false h
