-- The header, the mask and the five blocks, one behind another.
use Rattle.writer.specs.Rendering.{rendered_of}
use Rattle.writer.proofs.Appending.{appends-join}
use Rattle.writer.proofs.render.render_message.Goals as goal

pub returns : goal.returns
unfolding rendered_of
returns c =
    appends-join c.append_header.ensures
    (appends-join c.append_mask.ensures
    (appends-join c.append_block.ensures
    (appends-join c.append_clocks.ensures
    (appends-join c.append_subset.ensures
    (appends-join c.append_block-2.ensures c.append_block-3.ensures)))))
