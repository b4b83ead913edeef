-- Column q becomes a unit column: row q takes a row with an entry there and is divided by its own, and the sweep takes it from the others.
use mathlib.Core.Path.{◌≡◌, refl, sym, subst, ap, ◌∙◌}
use mathlib.Core.List.{[], ◌++◌}
use native.Mathlib.Omega.{arith}
use lib.ListN.{length, get_or, replicate}
use borrow.Author.Rules.{rules}
use Rattle.pagecode.specs.Field.{◌⊕◌, Octets}
use Rattle.pagecode.specs.Code.{scale}
use Rattle.pagecode.proofs.Pieces.{piece, piece-length}
use Rattle.pagecode.proofs.Cells.{rows-octets, side-octets}
use Rattle.pagecode.proofs.Lines.{row-takes, sides-take, rows-length}
use Rattle.pagecode.proofs.Steps.{bare_pivoted, eliminated}
use Rattle.pagecode.proofs.elimination.eliminate.Goals as goal

pub find_pivot-p-requires : goal.find_pivot-p-requires
find_pivot-p-requires c = (search rules, search rules, bare_pivoted c.args.k c.args.q c.args.square c.args.sides.now (omega arith) c.requires.3)

pub returns : goal.returns
unfolding ◌⊕◌
returns c =
    let a = c.args in
    let n = a.square in
    let s = a.sides.now in
    let pivot = c.find_pivot-p in
    let factor = c.factor-e in
    let line = c.line_of in
    let some = c.scale_line-taken in
    let row = c.add_row-row in
    let t = c.add_side.new.sides in
    let inverse = c.inverse-f in
    let line2 = c.line_of-2 in
    let some2 = c.scale_line-more in
    let row2 = c.add_row in
    let t2 = c.add_side-2.new.sides in
    let sweep = c.sweep in
    let p = pivot.result in
    let e = factor.result in
    let i = inverse.result in
    let y = piece s p in
    let y2 = piece t a.q in
    let rows : length n ≡ 32 = c.well_formed.0.1.0.1 in
    let long : length s ≡ 1696 = search rules in
    let long2 : length t ≡ 1696 = search rules in
    let other : length (get_or n p []) ≡ 32 = rows-length n _ c.well_formed.0.1.1 p (omega (arith, pivot.ensures.high)) in
    let own : length row.result ≡ 32 = search rules in
    let wide : length y ≡ 53 = piece-length s p (omega (arith, pivot.ensures.high)) in
    let wide2 : length y2 ≡ 53 = piece-length t a.q (omega arith) in
    let is : some.result ≡ scale e (get_or n p [] ++ (y ++ replicate 11 0)) = some.ensures ∙ ap (scale e) line.ensures in
    let is2 : some2.result ≡ scale (i ⊕ 1) (row.result ++ (y2 ++ replicate 11 0)) = some2.ensures ∙ ap (scale (i ⊕ 1)) line2.ensures in
    let taken = sides-take (get_or n p []) y e some.result other wide is s t a.q c.add_side.ensures in
    eliminated a.k a.q p e i n s row.result y t row2.result y2 t2 c.requires.0 c.requires.1 rows long pivot.ensures factor.ensures
    (row-takes (get_or n p []) y e some.result other wide is (get_or n a.q []) row.result row.ensures) refl
    taken
    (row-takes row.result y2 (i ⊕ 1) some2.result own wide2 is2 row.result row2.result row2.ensures) refl
    (sides-take row.result y2 (i ⊕ 1) some2.result own wide2 is2 t t2 a.q c.add_side-2.ensures)
    sweep.result sweep.new.sides c.requires.2 inverse.ensures (search rules) (sweep.ensures.0, sweep.ensures.1) (rows-octets n _ c.well_formed.0.1.1) c.fits-sides
    (subst Octets (sym taken) (side-octets s a.q e y c.fits-sides)) (rows-octets sweep.result _ sweep.type_inv.1.1) sweep.ensures.2
