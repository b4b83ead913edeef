-- After a turns the first a rows are those of the first a parity pages.
-- A legal number is one of 1 to 255, which the row of a page asks for.
use mathlib.Core.Path.{◌≡◌, refl, ap, ◌∙◌}
use mathlib.Core.List.{List, []}
use Prim.Native.Nat.{ℕ, ◌-◌}
use native.Mathlib.Omega.{arith}
use lib.ListN.{length, get_or}
use Rattle.pagecode.specs.Matrix.{matrix_row}
use Rattle.pagecode.proofs.Stored.{store-next}
use Rattle.pagecode.proofs.Rows.{legal-range}
use borrow.Author.Rules.{rules}
use Rattle.pagecode.proofs.reduction.parity_rows.Goals as goal

pub loop-a-init : goal.loop-a-init
loop-a-init c = (search rules, record { long = refl; is = λ b l. absurd (omega arith) })

pub matrix_row-requires : goal.matrix_row-requires
matrix_row-requires c =
    let numbers : List ℕ = c.args.numbers.now in
    let a : ℕ = c.loop-a.a in
    let bounds = c.requires.3 a (omega arith) in
    let range = legal-range (length numbers) numbers (get_or c.args.parity.now a 0 - 1) c.requires.0 (omega (arith, bounds.0, bounds.1)) c.requires.1 in
    rw c.from.ensures (range.0, range.1)

pub loop-a-preserved : goal.loop-a-preserved
loop-a-preserved c =
    let a = c.args in
    let l = c.loop-a in (
      omega arith,
      store-next [] (λ b. b) (λ b. matrix_row (get_or a.numbers.now (get_or a.parity.now b 0 - 1) 0)) 32 l.rows l.a c.matrix_row.result l.invariant.1 (rw c.from.ensures at c.matrix_row.ensures) (omega arith)
          (λ b h e. omega arith),
    )

pub returns : goal.returns
returns c =
    λ b i h e.
    let a = c.args in
    let at : get_or a.parity.now b 0 - 1 ≡ i = omega arith in
    c.loop-a.invariant.1.is b (omega arith) ∙ ap (λ (n : ℕ). matrix_row (get_or a.numbers.now n 0)) at
