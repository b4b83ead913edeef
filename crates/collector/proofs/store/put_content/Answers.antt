-- The part that is written is the page's content.
use mathlib.Core.Path.{◌∙◌}
use lib.ListN.{drop, length-drop}
use lib.Seq.{take_all}
use native.Mathlib.Omega.{arith}
use Rattle.collector.proofs.Copied.{copied}
use Rattle.collector.proofs.store.put_content.Goals as goal

pub returns : goal.returns
returns c =
    let a = c.args in
    let long = length-drop 3 a.page.now in
    copied a.store.now a.at _ _ (drop 3 a.page.now) (c.copy_from_slice.ensures.after ∙ take_all 53 (drop 3 a.page.now) (omega arith)) (omega arith)
