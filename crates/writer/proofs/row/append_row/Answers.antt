-- After g turns the bits of the first g signals are appended.
use mathlib.Core.Path.{refl}
use borrow.Author.Rules.{rules}
use Rattle.writer.proofs.Rows.{row-end}
use Rattle.writer.proofs.Turns.{begun-start, begun_more, begun_all}
use Rattle.writer.proofs.row.append_row.Goals as goal

pub loop-g-init : goal.loop-g-init
loop-g-init c = begun-start c.args.body.now refl

pub loop-g-preserved : goal.loop-g-preserved
loop-g-preserved c =
    let y = c.append_cell-rest.ensures in
    begun_more c.loop-g.invariant y.1 y.2

pub returns : goal.returns
returns c =
    let l = c.loop-g in
    begun_all l.invariant (row-end c.args.system.now l.g l.rest.now (search rules))
