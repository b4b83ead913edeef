-- The plain pages are laid, and the missing ones are completed: the message that has the pages.
use mathlib.Core.List.{List}
use mathlib.Core.Path.{◌≡◌, sym, ◌∙◌, subst}
use Prim.Native.Nat.{ℕ, ◌≤◌}
use native.Mathlib.Omega.{arith}
use lib.ListN.{length, take}
use lib.Seq.{get_or-take}
use Rattle.std.proofs.lemmas.List.{length-take-le}
use Rattle.pagecode.specs.Reduction.{ArePlain, Spread, PagesLaid}
use Rattle.pagecode.proofs.LegalNumbers.{pages-of}
use Rattle.pagecode.proofs.SolvedPages.{plain-spread, solution}
use Rattle.pagecode.proofs.reduction.solve_pages.Goals.{After-plain_numbers-row}
use Rattle.pagecode.proofs.reduction.solve_pages.Goals as goal

-- the plain pages, as many as there are numbers
plain : After-plain_numbers-row → List ℕ
plain c = take (length c.args.numbers.now) c.plain_numbers-row.result

are-plain : (c : After-plain_numbers-row) → ArePlain c.args.numbers.now (plain c)
unfolding plain
are-plain c i h = get_or-take (length c.args.numbers.now) c.plain_numbers-row.result i 0 h ∙ c.plain_numbers-row.ensures i h

as_long : (c : After-plain_numbers-row) → length (plain c) ≡ length c.args.numbers.now
unfolding plain
as_long c = length-take-le (length c.args.numbers.now) c.plain_numbers-row.result (omega arith)

pub lay_pages-requires : goal.lay_pages-requires
unfolding plain
lay_pages-requires c =
    let numbers : List ℕ = c.args.numbers.now in
    let few : length numbers ≤ 32 = c.requires.0 in
    let d = (goal.at.lay_pages-requires c).After-plain_numbers-row in
    let n : length (plain d) ≡ length numbers = as_long d in
    (omega (arith, n), omega (arith, n), subst (λ (m : ℕ). Spread m 32 (plain d)) (sym n) (plain-spread numbers (plain d) few (pages-of numbers few c.requires.2 c.requires.3) (are-plain d) 32 few))

pub returns : goal.returns
unfolding plain
returns c octets =
    let numbers : List ℕ = c.args.numbers.now in
    let few : length numbers ≤ 32 = c.requires.0 in
    let d = (goal.at.returns c).After-plain_numbers-row in
    let laid : PagesLaid (length numbers) c.args.contents.now (plain d) c.args.out.now c.lay_pages.new.out = subst (λ (m : ℕ). PagesLaid m c.args.contents.now (plain d) c.args.out.now c.lay_pages.new.out) (as_long d) c.lay_pages.ensures in
    solution numbers (plain d) few (pages-of numbers few c.requires.2 c.requires.3) (are-plain d) c.args.contents.now c.args.out.now c.lay_pages.new.out c.solve_missing.new.out
    octets c.requires.1 c.told-out c.solve_missing.array_long laid c.solve_missing.ensures
