-- A turn sets entry j, and leaves those before it.
use mathlib.Core.List.{List}
use mathlib.Core.Logic.{◌⊎◌, inl, inr}
use mathlib.Core.Path.{◌≡◌, sym, ap, ◌∙◌, subst}
use Prim.Native.Nat.{ℕ, ◌+◌, ◌-◌, ◌<◌}
use native.Mathlib.Nat.{eq-or-lt_of_le}
use native.Mathlib.Omega.{arith}
use lib.ListN.{length, get_or, set}
use lib.Seq.{get_or-set_same, get_or-set_other}
use borrow.Author.Rules.{rules}
use Rattle.pagecode.specs.Field.{◌⊕◌, power, Inverse}
use Rattle.pagecode.proofs.Tables.{powers}
use Rattle.pagecode.proofs.Power.{powers-at}
use Rattle.pagecode.proofs.matrix.invert_sums.Goals as goal

one-more : (y j r : ℕ) (row : List ℕ) → j < length row → Inverse (y ⊕ power (254 - j)) r → ((k : ℕ) → k < j → Inverse (y ⊕ power (254 - k)) (get_or row k 0))
    → (k : ℕ) → k < j + 1 → Inverse (y ⊕ power (254 - k)) (get_or (set row j r) k 0)
one-more y j r row l x i k h = pick (eq-or-lt_of_le (omega arith))
  where
    pick : (k ≡ j) ⊎ (k < j) → Inverse (y ⊕ power (254 - k)) (get_or (set row j r) k 0)
    pick (inl e) = subst (λ (n : ℕ). Inverse (y ⊕ power (254 - n)) (get_or (set row j r) n 0)) (sym e) (subst (Inverse (y ⊕ power (254 - j))) (sym (get_or-set_same row j r 0 l)) x)
    pick (inr b) = subst (Inverse (y ⊕ power (254 - k))) (sym (get_or-set_other row j k r 0 (omega arith))) (i k b)

pub loop-j-preserved : goal.loop-j-preserved
unfolding powers
loop-j-preserved c =
    let y : ℕ = c.args.y in
    let l = c.loop-j in
    let sum : c.sum.result ≡ y ⊕ power (254 - l.j) = c.sum.ensures ∙ ap (λ (x : ℕ). y ⊕ x) (powers-at (254 - l.j) (omega arith)) in
    one-more y l.j c.inverse.result l.x-items (search rules) (subst (λ (s : ℕ). Inverse s c.inverse.result) sum c.inverse.ensures) l.invariant
