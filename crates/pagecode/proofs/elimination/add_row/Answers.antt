-- A row is as long as the part of a line that is added to it.
use mathlib.Core.Path.{◌≡◌}
use native.Mathlib.Omega.{arith}
use lib.ListN.{length, take, length-take}
use borrow.Author.Rules.{rules}
use Rattle.pagecode.proofs.elimination.add_row.Goals as goal

pub slice_bounds-add-end-2 : goal.slice_bounds-add-end-2
slice_bounds-add-end-2 c =
    let to : length c.args.a ≡ 96 = search rules in
    let part : length (take 32 c.args.a) ≡ 32 = omega (arith, length-take 32 c.args.a) in
    search (rules, part)

pub add-requires : goal.add-requires
add-requires c =
    let from : length c.args.row ≡ 32 = search rules in
    let to : length c.args.a ≡ 96 = search rules in
    omega (arith, length-take 32 c.args.a)
