-- The line becomes twice the line: each turn sets one element of it.
use mathlib.Core.Path.{◌∙◌}
use lib.ListN.{get_or}
use borrow.Author.Rules.{rules}
use Rattle.pagecode.proofs.Lines.{twice, scale-next, scale-done}
use Rattle.pagecode.proofs.elimination.double_line.Goals as goal

pub loop-x-preserved : goal.loop-x-preserved
loop-x-preserved c =
    let l = c.loop-x in
    scale-next 2 c.args.a l.x-items l.x-index c.doubled.result (search rules) (c.doubled.ensures ∙ twice (get_or l.x-items l.x-index 0)) l.invariant

pub returns : goal.returns
returns c = scale-done 2 c.args.a c.loop-x.x-items c.loop-x.x-index (search rules) c.loop-x.invariant
