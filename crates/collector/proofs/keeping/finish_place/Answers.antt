-- The last page has come: `solve` is given the numbers and the contents of the pages, so it refuses nothing and leaves their message; then the place's octets are zeros and it is done.
use mathlib.Core.List.{List}
use mathlib.Core.Path.{◌≡◌, refl, ap}
use Prim.Native.Nat.{ℕ}
use native.Mathlib.Omega.{arith}
use lib.ListN.{take}
use Rattle.std.specs.Prelude.{Ok, Err}
use Rattle.collector.proofs.Pages.{finishing-few, finishing-length, unrefused, finished}
use Rattle.collector.proofs.keeping.finish_place.Goals as goal

pub slice_bounds-contents-end : goal.slice_bounds-contents-end
slice_bounds-contents-end c = let f = c.requires.3 in omega (arith, finishing-few f, finishing-length f, f.at, c.from-size.ensures)

pub clear_place-requires : goal.clear_place-requires
clear_place-requires c =
    let f = c.requires.3 in
    (finishing-length f, f.at)

pub returns-in_err-solve : goal.returns-in_err-solve
returns-in_err-solve c =
    λ m k pages f.
    let numbers = ap (λ (l : List ℕ). take c.from-size.result l) c.wide_numbers-wide.ensures in
    let good : c.solve.result ≡ Ok tt = unrefused f c.from-size.ensures refl numbers c.told-out c.solve.ensures in
    let bad : c.solve.result ≡ Err c.in_err-solve.field-0.0 = c.in_err-solve.was in
    let never : ⊥ = cc in
    absurd never

pub returns : goal.returns
returns c =
    λ m k pages f.
    let numbers = ap (λ (l : List ℕ). take c.from-size.result l) c.wide_numbers-wide.ensures in
    finished f c.from-size.ensures refl numbers c.told-out c.solve.ensures c.clear_place.ensures
