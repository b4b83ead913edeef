-- The right sides become the solution: each turn clears one column more, and a regular square always has a row with an entry there.
use borrow.Author.Rules.{rules}
use Rattle.pagecode.specs.System.{cell}
use Rattle.pagecode.proofs.Cells.{rows-octets}
use Rattle.pagecode.proofs.Reduced.{pivoted, solve-start, solve-turn, solve-end}
use Rattle.pagecode.proofs.elimination.solve_square.Goals as goal

pub loop-q-init : goal.loop-q-init
loop-q-init c =
    let a = c.args in
    solve-start a.k a.square a.sides.now (search rules) (rows-octets a.square _ c.well_formed.0.1.1) c.fits-sides

pub eliminate-next-requires : goal.eliminate-next-requires
eliminate-next-requires c =
    let a = c.args in
    let loop = c.loop-q in
    let i = loop.invariant in
    (search rules, search rules, i.cells.units, pivoted a.k a.square a.sides.now (search rules) loop.q (cell loop.n loop.sides) (search rules) c.requires.1 i.cells)

pub loop-q-preserved : goal.loop-q-preserved
loop-q-preserved c =
    let a = c.args in
    let loop = c.loop-q in
    let step = c.eliminate-next in
    solve-turn a.k a.square a.sides.now loop.n step.result loop.sides step.new.sides loop.q (search rules) (search rules) step.ensures loop.invariant

pub returns : goal.returns
returns c =
    let a = c.args in
    let loop = c.loop-q in
    solve-end a.k a.square a.sides.now loop.n loop.sides loop.q (search rules) (search rules) loop.invariant
