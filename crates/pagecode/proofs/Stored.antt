-- A loop that stores into a list of n elements, in turn k at place `at k`: after i turns it holds i elements of what it is to hold.
-- A turn's store leaves the other places as they were.
use mathlib.Core.Path.{◌≡◌, sym, ap, ◌∙◌}
use mathlib.Core.List.{List}
use mathlib.Core.Logic.{◌≢◌, ◌⊎◌, inl, inr}
use Prim.Native.Nat.{ℕ, ◌+◌, ◌<◌}
use native.Mathlib.Nat.{eq-or-lt_of_le}
use native.Mathlib.Omega.{arith}
use lib.ListN.{length, get_or, set, length-set}
use lib.Seq.{get_or-set_same, get_or-set_other}

module _ {A : Type 0} (z : A) (at : ℕ → ℕ) (s : ℕ → A) (n : ℕ) where
  pub record Stored (v : List A) (i : ℕ) : Type 0 where
    pub long : length v ≡ n
    pub is : (k : ℕ) → k < i → get_or v (at k) z ≡ s k

  pub store-next : (v : List A) (i : ℕ) (x : A) → Stored v i → x ≡ s i → at i < n → ((k : ℕ) → k < i → at k ≢ at i) → Stored (set v (at i) x) (i + 1)
  store-next v i x f e l d = record { long = length-set v (at i) x ∙ f.long; is = λ k b. pick k (eq-or-lt_of_le (omega arith)) }
    where
      pick : (k : ℕ) → (k ≡ i) ⊎ (k < i) → get_or (set v (at i) x) (at k) z ≡ s k
      pick k (inl q) = ap (λ (j : ℕ). get_or (set v (at i) x) (at j) z) q ∙ get_or-set_same v (at i) x z (omega (arith, f.long)) ∙ e ∙ ap s (sym q)
      pick k (inr b) = get_or-set_other v (at i) (at k) x z (d k b) ∙ f.is k b
