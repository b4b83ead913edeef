-- The ID, the multiplier, the chosen satellites and their clocks, one behind another; nothing if the system is not in the subset.
use mathlib.Core.Path.{sym, ◌∙◌}
use Rattle.writer.specs.Rendering.{subset_part}
use Rattle.writer.proofs.Appending.{appends-join, appends-number, appends-not, appends-if}
use Rattle.writer.proofs.system.append_subset_part.Goals as goal

pub returns-then-not-is_in_subset : goal.returns-then-not-is_in_subset
unfolding subset_part
returns-then-not-is_in_subset c =
    appends-not c.args.body.now _ _ (sym c.is_in_subset.ensures ∙ c.if-not-is_in_subset.true)

pub returns : goal.returns
unfolding subset_part
returns c =
    appends-if _ (sym c.is_in_subset.ensures ∙ c.if-not-is_in_subset.false)
    (appends-join (appends-number 4 (c.from.ensures ∙ c.octet_at.ensures) c.append.ensures)
    (appends-join (appends-number 2 (c.from-2.ensures ∙ c.octet_at-2.ensures) c.append-2.ensures)
    (appends-join c.append_parts.ensures c.append_parts-2.ensures)))
