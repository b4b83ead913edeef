-- A loop that fills a list from the front: after i turns it holds i elements of what it is to hold, and then its old ones.
-- Each turn sets the next element.
use mathlib.Core.Path.{◌≡◌, sym, ap, ap₂, ◌∙◌}
use mathlib.Core.List.{List, [], ◌∷◌, ◌++◌, append-nil}
use Prim.Native.Nat.{ℕ, zero, suc, ◌+◌, ◌≤◌, ◌<◌}
use native.Mathlib.Numerals.{add-one}
use native.Mathlib.Omega.{arith}
use lib.ListN.{length, get_or, set, take, drop, drop_of_length-le, length-take}
use lib.Seq.{take_all, get_or-append-add, get_or-drop}

-- v is the list that is filled, whose old elements are d and whose new ones are s, after i turns
abbrev pub Filled : {A : Type 0} → List A → List A → List A → ℕ → Type 0
Filled d s v i = v ≡ take i s ++ drop i d

module _ {A : Type 0} (z : A) where
  pub fill-next : (d s v : List A) (i : ℕ) (x : A) → Filled d s v i → x ≡ get_or s i z → i < length d → i < length s → Filled d s (set v i x) (i + 1)
  fill-next d s v i x e g h l = ap₂ (λ (u : List A) (y : A). set u i y) e g ∙ go d s i h l ∙ ap (λ (n : ℕ). take n s ++ drop n d) (sym (add-one i))
    where
      go : (d s : List A) (i : ℕ) → i < length d → i < length s → set (take i s ++ drop i d) i (get_or s i z) ≡ take (suc i) s ++ drop (suc i) d
      go [] s i h l = absurd (omega arith)
      go (y ∷ d) [] i h l = absurd (omega arith)
      go (y ∷ d) (x ∷ s) zero h l = mathlib.Core.Path.refl
      go (y ∷ d) (x ∷ s) (suc i) h l = ap (λ (r : List A). x ∷ r) (go d s i (omega arith) (omega arith))

  -- the element that the next turn sets is still the old one
  pub fill-old : (d s v : List A) (i : ℕ) → Filled d s v i → i ≤ length s → get_or v i z ≡ get_or d i z
  fill-old d s v i e h =
      ap (λ (u : List A). get_or u i z) e
      ∙ ap (λ (n : ℕ). get_or (take i s ++ drop i d) n z) (sym place)
      ∙ get_or-append-add (take i s) (drop i d) 0 z
      ∙ get_or-drop i d 0 z
      ∙ ap (λ (n : ℕ). get_or d n z) same
    where
      place : length (take i s) + 0 ≡ i
      place = omega (arith, length-take i s)

      same : i + 0 ≡ i
      same = omega arith

  pub fill_done : (d s v : List A) (i : ℕ) → Filled d s v i → length d ≤ i → length s ≤ i → v ≡ s
  fill_done d s v i e h l = e ∙ ap₂ ◌++◌ (take_all i s l) (drop_of_length-le d {i = i} h) ∙ append-nil s
