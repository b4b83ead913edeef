-- How many systems there are, each system, and the reserved bits, one behind another; nothing if the flag is 0.
use mathlib.Core.Path.{sym, ap₂, ◌∙◌}
use Prim.Native.Nat.{◌+◌}
use Rattle.writer.specs.Rendering.{mask_part}
use Rattle.writer.proofs.Appending.{appends-join, appends-number, flag-number, appends-not, appends-if}
use Rattle.writer.proofs.block.append_mask.Goals as goal

pub returns-then-not-has_flag : goal.returns-then-not-has_flag
unfolding mask_part
returns-then-not-has_flag c =
    appends-not c.args.body.now _ _ (sym c.has_flag.ensures ∙ c.if-not-has_flag.true)

pub returns : goal.returns
unfolding mask_part
returns c =
    appends-if _ (sym c.has_flag.ensures ∙ c.if-not-has_flag.false)
    (appends-join (appends-number 4 (ap₂ ◌+◌ (flag-number c.from.ensures c.is_system.ensures) (flag-number c.from-2.ensures c.is_system-2.ensures)) c.append.ensures)
    (appends-join c.append_system.ensures
    (appends-join c.append_system-2.ensures c.append-2.ensures)))
