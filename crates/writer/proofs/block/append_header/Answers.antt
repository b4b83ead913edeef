-- The five fields of the header, one behind another.
use mathlib.Core.Path.{◌∙◌}
use Rattle.writer.specs.Rendering.{header_part}
use Rattle.writer.proofs.Appending.{appends-join, appends-number}
use Rattle.writer.proofs.block.append_header.Goals as goal

pub returns : goal.returns
unfolding header_part
returns c =
    appends-join (appends-number 12 c.pair_at.ensures c.append.ensures)
    (appends-join (appends-number 6 (c.from.ensures ∙ c.octet_at.ensures) c.append-2.ensures)
    (appends-join c.append-3.ensures
    (appends-join (appends-number 5 (c.from-2.ensures ∙ c.octet_at-2.ensures) c.append-4.ensures) (appends-number 5 (c.from-3.ensures ∙ c.octet_at-3.ensures) c.append-5.ensures))))
