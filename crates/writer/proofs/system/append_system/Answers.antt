-- The fields of a system's record and its cell mask, one behind another; nothing if the first record is no system's.
use mathlib.Core.Path.{sym, ◌∙◌}
use Rattle.writer.specs.Rendering.{system_part}
use Rattle.writer.proofs.Appending.{appends-join, appends-number, appends-not, appends-if}
use Rattle.writer.proofs.system.append_system.Goals as goal

pub returns-then-not-is_system : goal.returns-then-not-is_system
unfolding system_part
returns-then-not-is_system c =
    appends-not c.args.body.now _ _ (sym c.is_system.ensures ∙ c.if-not-is_system.true)

pub returns : goal.returns
unfolding system_part
returns c =
    appends-if _ (sym c.is_system.ensures ∙ c.if-not-is_system.false)
    (appends-join (appends-number 4 (c.from.ensures ∙ c.octet_at.ensures) c.append.ensures)
    (appends-join (appends-number 56 c.number_at.ensures c.append-2.ensures)
    (appends-join (appends-number 1 (c.from-2.ensures ∙ c.octet_at-2.ensures) c.append-3.ensures)
    (appends-join c.append_cell_mask.ensures (appends-number 3 (c.from-3.ensures ∙ c.octet_at-3.ensures) c.append-4.ensures)))))
