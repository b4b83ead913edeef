-- The laws of `list_of`: its length, its elements, and what is done to each element is done to the list.
-- Each is an induction over the length.
use mathlib.Core.Path.{◌≡◌, refl, ap, ap₂}
use mathlib.Core.List.{List, [], ◌∷◌}
use Prim.Native.Nat.{ℕ, zero, suc, ◌<◌, suc-le-suc}
use native.Mathlib.Omega.{arith}
use lib.ListN.{length, get_or, replicate}
use Rattle.pagecode.specs.Field.{◌⊕◌, ◌⊗◌, Octets}
use Rattle.pagecode.specs.Code.{plus, scale}
use Rattle.pagecode.specs.Page.{list_of}

pub listed-length : (n : ℕ) (f : ℕ → ℕ) → length (list_of n f) ≡ n
unfolding list_of
listed-length zero f = refl
listed-length (suc n) f = ap suc (listed-length n (λ i. f (suc i)))

pub listed-get : (n : ℕ) (f : ℕ → ℕ) (i : ℕ) → i < n → get_or (list_of n f) i 0 ≡ f i
unfolding list_of
listed-get zero f i h = absurd (omega arith)
listed-get (suc n) f zero h = refl
listed-get (suc n) f (suc i) h = listed-get n (λ j. f (suc j)) i (omega arith)

pub listed-octets : (n : ℕ) (f : ℕ → ℕ) → ((i : ℕ) → i < n → f i < 256) → Octets (list_of n f)
unfolding list_of
listed-octets zero f h i = omega arith
listed-octets (suc n) f h zero = h 0 (omega arith)
listed-octets (suc n) f h (suc i) = listed-octets n (λ j. f (suc j)) (λ j l. h (suc j) (suc-le-suc l)) i

pub listed-cong : (n : ℕ) (f g : ℕ → ℕ) → ((i : ℕ) → i < n → f i ≡ g i) → list_of n f ≡ list_of n g
unfolding list_of
listed-cong zero f g h = refl
listed-cong (suc n) f g h = ap₂ (λ (u : ℕ) (l : List ℕ). u ∷ l) (h 0 (omega arith)) (listed-cong n (λ i. f (suc i)) (λ i. g (suc i)) (λ i l. h (suc i) (suc-le-suc l)))

pub listed-list : (m : List ℕ) → list_of (length m) (λ i. get_or m i 0) ≡ m
unfolding list_of
listed-list [] = refl
listed-list (x ∷ m) = ap (λ (l : List ℕ). x ∷ l) (listed-list m)

pub listed-plus : (n : ℕ) (f g : ℕ → ℕ) → list_of n (λ i. f i ⊕ g i) ≡ plus (list_of n f) (list_of n g)
unfolding list_of plus
listed-plus zero f g = refl
listed-plus (suc n) f g = ap (λ (l : List ℕ). (f 0 ⊕ g 0) ∷ l) (listed-plus n (λ i. f (suc i)) (λ i. g (suc i)))

pub listed-scale : (n s : ℕ) (f : ℕ → ℕ) → list_of n (λ i. s ⊗ f i) ≡ scale s (list_of n f)
unfolding list_of scale
listed-scale zero s f = refl
listed-scale (suc n) s f = ap (λ (l : List ℕ). (s ⊗ f 0) ∷ l) (listed-scale n s (λ i. f (suc i)))

pub listed-zeros : (n : ℕ) (f : ℕ → ℕ) → ((i : ℕ) → f i ≡ 0) → list_of n f ≡ replicate n 0
unfolding list_of
listed-zeros zero f e = refl
listed-zeros (suc n) f e = ap₂ (λ (u : ℕ) (l : List ℕ). u ∷ l) (e 0) (listed-zeros n (λ i. f (suc i)) (λ i. e (suc i)))
