-- The two parts that are lent are the records of the first and of the second system.
use mathlib.Core.Path.{ap, ◌∙◌}
use Prim.Native.Nat.{◌-◌}
use lib.ListN.{take, drop}
use Rattle.std.proofs.lemmas.List.{take_rest}
use Rattle.writer.specs.Rendering.{rendered_of, rendered}
use Rattle.writer.proofs.Appending.{appends-is}
use Rattle.writer.proofs.render.render.Goals as goal

pub returns : goal.returns
unfolding rendered
returns c =
    let l = c.args.records.now in
    let cut = c.second_at-cut.result in
    appends-is
    (ap (rendered_of l (take (cut - 16) (drop 16 l))) (take_rest l cut) ∙ ap (λ i. rendered_of l (take (i - 16) (drop 16 l)) (drop i l)) c.second_at-cut.ensures.0)
    c.render_message.ensures
