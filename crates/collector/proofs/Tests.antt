-- Two tests of numbers are equal where each passes when the other does.
use Prim.Native.Nat.{ℕ, ◌≤◌}
use mathlib.Core.Bool.{Bool, true, false, ◌&&◌}
use mathlib.Core.Path.{◌≡◌, refl, sym}
use lib.Dec.{leb}
use borrow.Author.Tests.{leb-true, le-leb}

pub same : (a b : Bool) → (a ≡ true → b ≡ true) → (b ≡ true → a ≡ true) → a ≡ b
same true b f g = sym (f refl)
same false true f g = g refl
same false false f g = refl

-- three tests, whichever two are joined first
pub and_again : (a b c : Bool) → ((a && b) && c) ≡ (a && (b && c))
and_again true b c = refl
and_again false b c = refl

module _ (a b x y : ℕ) where
  pub same-leb : (a ≤ b → x ≤ y) → (x ≤ y → a ≤ b) → leb a b ≡ leb x y
  same-leb f g = same (leb a b) (leb x y) (λ e. le-leb x y (f (leb-true a b e))) (λ e. le-leb a b (g (leb-true x y e)))
