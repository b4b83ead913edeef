-- The loop fills the row from the front, each entry by the formula.
use mathlib.Core.Path.{◌≡◌, refl, ap, ◌∙◌}
use Prim.Native.Nat.{ℕ, ◌-◌}
use native.Mathlib.Omega.{arith}
use lib.ListN.{get_or, replicate}
use Rattle.pagecode.specs.Field.{◌⊕◌, ◌⊗◌}
use Rattle.pagecode.specs.Matrix.{matrix_row}
use Rattle.pagecode.proofs.Fill.{fill-next, fill_done}
use Rattle.pagecode.proofs.Generator.{coefficients}
use Rattle.pagecode.proofs.Formula.{weights}
use Rattle.pagecode.proofs.Rows.{row-length, row-octet}
use Rattle.pagecode.proofs.matrix.parity_row.Goals as goal

pub loop-j-init : goal.loop-j-init
loop-j-init c = refl

pub loop-j-preserved : goal.loop-j-preserved
unfolding coefficients weights
loop-j-preserved c =
    let turn = c.loop-j in
    let inverted = c.invert_sums-inverses in
    let factor = c.product-f in
    let sum = c.sum in
    let power = c.power-y in
    let p : ℕ = c.args.p in
    let y : ℕ = power.result in
    let r : ℕ = get_or inverted.result turn.j 0 in
    let page : factor.result ≡ get_or coefficients (p - 33) 0 ⊗ (y ⊕ 9) = factor.ensures ∙ ap (λ (x : ℕ). get_or coefficients (p - 33) 0 ⊗ x) sum.ensures in
    let made : c.product-in-loop-j.result ≡ r ⊗ get_or weights turn.j 0 ⊗ factor.result = c.product-in-loop-j.ensures ∙ ap (λ (x : ℕ). x ⊗ factor.result) c.product.ensures in
    let octet = row-octet p turn.j y factor.result r c.product-in-loop-j.result c.requires.0 c.requires.1 (omega arith) power.ensures page (inverted.ensures turn.j (omega arith)) made in
    fill-next 0 (replicate 32 0) (matrix_row p) turn.x-items turn.j c.product-in-loop-j.result turn.invariant octet (omega arith) (omega (arith, row-length p))

pub returns : goal.returns
returns c =
    let p : ℕ = c.args.p in
    fill_done 0 (replicate 32 0) (matrix_row p) c.loop-j.x-items c.loop-j.j c.loop-j.invariant (omega arith) (omega (arith, row-length p))
