-- Only a system's record has a multiplier.
use mathlib.Core.Path.{sym, ◌∙◌}
use Rattle.writer.specs.Rendering.{multiplier_part}
use Rattle.writer.proofs.Appending.{appends-number, appends-not, appends-if}
use Rattle.writer.proofs.system.append_multiplier.Goals as goal

pub returns-then-is_system : goal.returns-then-is_system
unfolding multiplier_part
returns-then-is_system c =
    appends-if _ (sym c.is_system.ensures ∙ c.if-is_system.true) (appends-number 2 (c.from.ensures ∙ c.octet_at.ensures) c.append.ensures)

pub returns-else-is_system : goal.returns-else-is_system
unfolding multiplier_part
returns-else-is_system c =
    appends-not c.args.body.now _ _ (sym c.is_system.ensures ∙ c.if-is_system.false)
