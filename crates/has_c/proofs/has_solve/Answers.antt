-- Over 32 numbers are refused as `solve` refuses them; else `solve` is given the same numbers, wide.
use mathlib.Core.Path.{refl, sym, subst}
use lib.ListN.{length}
use lib.Seq.{length-take-le}
use borrow.Author.Rules.{rules}
use Rattle.refusal.specs.declared.Refusal.TheVariants.{Length}
use Rattle.std.specs.Prelude.{Err}
use Rattle.pagecode.specs.Solve.{Solved}
use Rattle.has_c.proofs.TooMany.{too_many}
use Rattle.has_c.proofs.has_solve.Goals as goal

pub returns-then-k-gt-MOST_PAGES : goal.returns-then-k-gt-MOST_PAGES
returns-then-k-gt-MOST_PAGES c =
    let a = c.args in
    (Err Length, record { answered = too_many a.contents.now a.numbers.now (length a.out.now) (search rules); buffer = refl }, c.page_code.ensures)

pub slice_bounds-solve-end : goal.slice_bounds-solve-end
slice_bounds-solve-end c = sym (length-take-le (length c.args.numbers.now) c.wide_numbers-wide.result (search rules))

pub returns : goal.returns
returns c =
    let a = c.args in (
      c.solve.result,
      subst (λ numbers. Solved a.contents.now numbers a.out.now c.solve.result c.solve.new.out) c.wide_numbers-wide.ensures c.solve.ensures,
      c.page_code-2.ensures,
    )
