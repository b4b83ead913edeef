-- There are as many parity pages as pages are missing: with none of them the message is whole.
use mathlib.Core.Path.{◌≡◌, sym, ◌∙◌, subst}
use Prim.Native.Nat.{ℕ}
use native.Mathlib.Omega.{arith}
use lib.ListN.{length}
use Rattle.pagecode.specs.Reduction.{AreNoughts}
use Rattle.pagecode.proofs.LegalNumbers.{pages-of}
use Rattle.pagecode.proofs.SolvedPages.{none-missing}
use Rattle.pagecode.proofs.Sought.{noughts-at}
use borrow.Author.Tests.{eqb-true}
use Rattle.pagecode.proofs.reduction.solve_missing.Goals as goal

pub returns-then-is_empty : goal.returns-then-is_empty
returns-then-is_empty c =
    let a = c.args in
    let received = c.list_places-pages in
    let none : received.result.count ≡ 0 = omega (arith, eqb-true _ _ (sym c.is_empty.ensures ∙ c.if-is_empty.true), c.noughts-parity.ensures.1) in
    none-missing a.numbers.now a.plain.now c.requires.0 (pages-of a.numbers.now c.requires.0 c.requires.2 c.requires.3) c.requires.5 a.contents.now a.out.now received.result.noughts received.result.count
    (subst (λ (n : ℕ). AreNoughts a.plain.now n received.result.noughts received.result.count) c.requires.4 received.ensures.0) none

pub solve_gaps-requires : goal.solve_gaps-requires
solve_gaps-requires c =
    let a = c.args in
    let received = c.list_places-pages in
    let parity = c.noughts-parity in
    (c.requires.0, c.requires.1, c.requires.2, c.requires.3, c.requires.4, c.requires.5, noughts-at a.plain.now received.result.noughts parity.result.now (length a.plain.now) received.result.count parity.ensures received.ensures.0)
