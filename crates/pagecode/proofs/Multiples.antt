-- A list plus f times another of the same length, and the loop that fills it in.
-- It is known at every place, and each turn sets its next element.
use mathlib.Core.Path.{◌≡◌, sym, ap, ap₂, ◌∙◌}
use mathlib.Core.List.{List}
use Prim.Native.Nat.{ℕ, ◌+◌, ◌≤◌, ◌<◌}
use native.Mathlib.Omega.{arith}
use lib.ListN.{length, get_or, set}
use Rattle.pagecode.specs.Field.{◌⊕◌, ◌⊗◌}
use Rattle.pagecode.specs.Code.{plus, scale}
use Rattle.pagecode.proofs.Laws.{⊗-comm}
use Rattle.pagecode.proofs.Polynomials.{plus-get, scale-get, scale-length, plus-even}
use Rattle.pagecode.proofs.Fill.{Filled, fill-next, fill-old, fill_done}

abbrev pub more : List ℕ → List ℕ → ℕ → List ℕ
more a b f = plus a (scale f b)

module _ (a b : List ℕ) (f : ℕ) where
  pub more-get : (j : ℕ) → get_or (more a b f) j 0 ≡ get_or a j 0 ⊕ f ⊗ get_or b j 0
  more-get j = plus-get a (scale f b) j ∙ ap (λ (x : ℕ). get_or a j 0 ⊕ x) (scale-get f b j)

  module _ (even : length a ≡ length b) where
    pub more-length : length (more a b f) ≡ length a
    more-length = plus-even a (scale f b) (even ∙ sym (scale-length f b))

    pub more-next : (v : List ℕ) (j m : ℕ) → j < length a → m ≡ get_or b j 0 ⊗ f → Filled a (more a b f) v j → Filled a (more a b f) (set v j (get_or v j 0 ⊕ m)) (j + 1)
    more-next v j m h e g =
        let old = fill-old 0 a (more a b f) v j g (omega (arith, more-length)) in
        fill-next 0 a (more a b f) v j _ g (ap₂ ◌⊕◌ old (e ∙ ⊗-comm (get_or b j 0) f) ∙ sym (more-get j)) h (omega (arith, more-length))

    pub more-done : (v : List ℕ) (j : ℕ) → length a ≤ j → Filled a (more a b f) v j → v ≡ more a b f
    more-done v j h g = fill_done 0 a (more a b f) v j g h (omega (arith, more-length))
