-- What passes the checks is solved, in the buffer as an array.
use mathlib.Core.Bool.{true}
use mathlib.Core.Path.{◌≡◌, sym, ◌∙◌, subst}
use mathlib.Core.List.{List}
use Prim.Native.Nat.{ℕ}
use lib.ListN.{length}
use borrow.Author.Tests.{eq-eqb}
use Rattle.std.specs.Prelude.{Ok}
use Rattle.pagecode.specs.Encode.{are_pages}
use Rattle.pagecode.specs.Solve.{all_legal, different, solve_answer, SolvedBuffer}
use Rattle.pagecode.proofs.LegalNumbers.{legal-tests, few-pages, whole-pages}
use Rattle.pagecode.proofs.solving.solve.Goals as goal

pub solve_pages-requires : goal.solve_pages-requires
solve_pages-requires c =
    let a = c.args in
    let numbers = a.numbers.now in
    let pages : are_pages (length numbers) (length a.contents.now) ≡ true = sym c.are_pages.ensures ∙ c.if-not-are_pages.false in
    let legal : all_legal (length numbers) numbers ≡ true = sym (c.all_legal.ensures ∙ legal-tests (length numbers) numbers) ∙ c.if-not-all_legal.false in
    let apart : different numbers ≡ true = sym c.all_different.ensures ∙ c.if-not-all_different.false in
    (few-pages _ _ pages, whole-pages _ _ pages, legal, apart)

pub returns : goal.returns
unfolding solve_answer
returns c =
    let a = c.args in
    let numbers = a.numbers.now in
    let pages : are_pages (length numbers) (length a.contents.now) ≡ true = sym c.are_pages.ensures ∙ c.if-not-are_pages.false in
    let legal : all_legal (length numbers) numbers ≡ true = sym (c.all_legal.ensures ∙ legal-tests (length numbers) numbers) ∙ c.if-not-all_legal.false in
    let apart : different numbers ≡ true = sym c.all_different.ensures ∙ c.if-not-all_different.false in
    let whole : c.in-Some.out.now ≡ a.out.now = c.in-Some.ensures.cases.same in
    let room : length a.out.now ≡ 1696 = c.in-Some.ensures.cases.long in
    record { answered = simp (pages, eq-eqb _ _ room, legal, apart); buffer = subst (λ (l : List ℕ). SolvedBuffer (Ok tt) a.contents.now numbers l c.solve_pages.new.out) whole (c.solve_pages.ensures (λ i. (c.type_inv.out i).fits)) }
