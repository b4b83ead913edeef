-- The tests together decide whether our calls made the collector.
use Rattle.collector.proofs.Checked.{decided}
use Rattle.collector.proofs.checking.is_made.Goals as goal

pub returns : goal.returns
returns c =
    let a = c.args in
    decided a.head a.store.now (λ n. (c.type_inv.store n).fits) c.passes.result c.passes.ensures
