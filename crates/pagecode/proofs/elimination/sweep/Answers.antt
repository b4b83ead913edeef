-- Row q is taken from every other row: each turn does it for one row more, by the sum of two multiples of row q, which is the multiple by its entry.
use mathlib.Core.Path.{◌≡◌, refl, ap, ◌∙◌}
use mathlib.Core.List.{[], ◌++◌}
use native.Mathlib.Omega.{arith}
use lib.ListN.{length, get_or, replicate}
use borrow.Author.Rules.{rules}
use Rattle.pagecode.specs.Code.{scale}
use Rattle.pagecode.specs.System.{cell}
use Rattle.pagecode.proofs.Pieces.{piece, piece-length}
use Rattle.pagecode.proofs.Lines.{row-takes, sides-take, rows-length}
use Rattle.pagecode.proofs.Steps.{sweep-start, sweep-end, sweep-turn}
use Rattle.pagecode.proofs.elimination.sweep.Goals as goal

pub loop-r-init : goal.loop-r-init
loop-r-init c =
    let a = c.args in
    record { cells = sweep-start a.q (cell a.square a.sides.now); upto = search rules; rows = c.well_formed.0.1.0.1; long = search rules; octets = c.fits-sides; rest = refl }

pub loop-r-preserved : goal.loop-r-preserved
loop-r-preserved c =
    let a = c.args in
    let loop = c.loop-r in
    let factor = c.factor-f in
    let found = c.look_up-taken in
    let row = c.add_row in
    let more = c.add_side in
    let line = c.line_of in
    let f = factor.result in
    let x = get_or a.square a.q [] in
    let y = piece a.sides.now a.q in
    let rows : length a.square ≡ 32 = c.well_formed.0.1.0.1 in
    let long : length x ≡ 32 = rows-length a.square _ c.well_formed.0.1.1 a.q (omega arith) in
    let wide : length y ≡ 53 = piece-length a.sides.now a.q (omega arith) in
    let is : found.result ≡ scale f (x ++ (y ++ replicate 11 0)) =
    found.ensures ∙ c.fill.ensures f (search rules) ∙ ap (scale f) line.ensures in
    sweep-turn a.k a.q a.square a.sides.now (search rules) (search rules) (search rules) loop.n loop.sides loop.r f row.result y more.new.sides c.loop-r-test.true
    factor.ensures refl (row-takes x y f found.result long wide is (get_or loop.n loop.r []) row.result row.ensures)
    (sides-take x y f found.result long wide is loop.sides more.new.sides loop.r more.ensures) loop.invariant

pub returns : goal.returns
returns c =
    let a = c.args in
    let loop = c.loop-r in
    (sweep-end a.k a.q loop.r (cell a.square a.sides.now) (cell loop.n loop.sides) (search rules) loop.invariant.cells, loop.invariant.rest, loop.invariant.octets)
