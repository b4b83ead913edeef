-- The list becomes the sum: each turn sets one element of it.
use borrow.Author.Rules.{rules}
use Rattle.pagecode.specs.Field.{◌⊕◌}
use Rattle.pagecode.proofs.Lines.{sum-next, sum_done}
use Rattle.pagecode.proofs.elimination.add.Goals as goal

pub loop-i-preserved : goal.loop-i-preserved
unfolding ◌⊕◌
loop-i-preserved c =
    let a = c.args in
    sum-next a.to.now a.more.now c.requires c.loop-i.to c.loop-i.i c.loop-i-test.true c.loop-i.invariant

pub returns : goal.returns
returns c =
    let a = c.args in
    sum_done a.to.now a.more.now c.requires c.loop-i.to c.loop-i.i (search rules) c.loop-i.invariant
