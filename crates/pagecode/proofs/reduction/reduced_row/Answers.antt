-- Each turn sets one entry.
use mathlib.Core.Path.{◌≡◌, refl, ap, ◌∙◌}
use Prim.Native.Nat.{ℕ, ◌-◌}
use native.Mathlib.Omega.{arith}
use lib.ListN.{get_or}
use Rattle.pagecode.proofs.Stored.{store-next}
use borrow.Author.Rules.{rules}
use Rattle.pagecode.proofs.reduction.reduced_row.Goals as goal

pub loop-c-init : goal.loop-c-init
loop-c-init c = (search rules, record { long = refl; is = λ b l. absurd (omega arith) })

pub loop-c-preserved : goal.loop-c-preserved
loop-c-preserved c =
    let a = c.args in
    let l = c.loop-c in (
      omega arith,
      store-next 0 (λ b. b) (λ b. get_or a.row (get_or a.missing.now b 0 - 1) 0) 32 l.s l.c _ l.invariant.1 (ap (λ (n : ℕ). get_or a.row (n - 1) 0) c.from.ensures) (omega arith) (λ b h e. omega arith),
    )

pub returns : goal.returns
returns c =
    λ b j h e.
    let a = c.args in
    let at : get_or a.missing.now b 0 - 1 ≡ j = omega arith in
    c.loop-c.invariant.1.is b (omega arith) ∙ ap (λ (n : ℕ). get_or a.row n 0) at
