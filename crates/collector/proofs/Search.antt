-- What the library's searches and comparisons say, in the words of the collector: the first element of which a test holds, and a difference of two lists of octets.
-- By induction on the list.
use mathlib.Core.Path.{◌≡◌, refl, sym, ap, ◌∙◌, subst}
use mathlib.Core.Bool.{Bool, true, ◌&&◌, cond}
use mathlib.Core.List.{List, [], ◌∷◌}
use Prim.Native.Nat.{ℕ, suc, ◌+◌, ◌≤◌, ◌<◌}
use native.Mathlib.Numerals.{add-one}
use native.Mathlib.Omega.{arith}
use lib.Dec.{eqb, ltb}
use lib.ListN.{length, get_or, drop}
use lib.Seq.{drop-cons}
use borrow.Author.Tests.{ltb-true, ltb-false}
use Rattle.std.specs.Prelude.{Some, None}
use Rattle.std.specs.List.{position, position_or_len, list_all, enumerate_from}
use Rattle.std.specs.Cmp.Lexicographic.{pointwise}
use Rattle.lists.proofs.Tests.{on_bool}
use Rattle.collector.specs.Feed.{same_octets}

-- the list from a place on is the element there and the list behind it
pub front : {A : Type 0} (z : A) (l : List A) (i : ℕ) → i < length l → drop i l ≡ get_or l i z ∷ drop (i + 1) l
front z l i h = drop-cons l i z h ∙ ap (λ n. get_or l i z ∷ drop n l) (sym (add-one i))

-- ---- the place of the first element of which a test holds; the length if there is none
abbrev pub first_index : {A : Type 0} → (A → Bool) → List A → ℕ
first_index is [] = 0
first_index is (x ∷ xs) = cond (is x) 0 (suc (first_index is xs))

module _ {A : Type 0} (is : A → Bool) where
  pub first-le : (l : List A) → first_index is l ≤ length l
  first-le [] = omega arith
  first-le (x ∷ xs) = let ih = first-le xs in on_bool (is x) (λ e. rw e (omega arith)) (λ e. rw e (omega arith))

  first-position : (l : List A) → position_or_len is l ≡ first_index is l
  first-position [] = refl
  first-position (x ∷ xs) = let ih = first-position xs in on_bool (is x) (λ e. rw e refl) (λ e. rw e (omega arith))

  -- what `position` answers
  pub at-some : (l : List A) (i : ℕ) → Some i ≡ position is l → (i ≡ first_index is l) × (i < length l)
  at-some l i =
      on_bool (ltb (position_or_len is l) (length l))
      (λ e. rw e (λ h. let p : i ≡ position_or_len is l = cc in (p ∙ first-position l, omega (arith, p, ltb-true _ _ e))))
      (λ e. rw e (λ h. absurd (cc)))

  pub at-none : (l : List A) → None ≡ position is l → first_index is l ≡ length l
  at-none l =
      on_bool (ltb (position_or_len is l) (length l))
      (λ e. rw e (λ h. absurd (cc)))
      (λ e. rw e (λ h. omega (arith, first-position l, first-le l, ltb-false _ _ e)))

-- ---- `all` over the elements with their places: `left i` is what is asked of those from i on
each-all : {X : Type 0} (test : ℕ × X → Bool) (left : ℕ → Bool) (d : X) (xs : List X) (k : ℕ)
    → ((i j : ℕ) → j ≡ k + i → i < length xs → left j ≡ (test (j, get_or xs i d) && left (j + 1))) → ((j : ℕ) → j ≡ k + length xs → left j ≡ true)
    → list_all test (enumerate_from k xs) ≡ left k
each-all test left d [] k next end = sym (end k (omega arith))
each-all test left d (x ∷ xs) k next end =
    ap (λ (b : Bool). test (k, x) && b) (each-all test left d xs (k + 1) (λ i j e h. next (suc i) j (omega arith) (omega arith)) (λ j e. end j (omega arith)))
    ∙ sym (next 0 k (omega arith) (omega arith))

pub all-from : {X : Type 0} (test : ℕ × X → Bool) (left : ℕ → Bool) (d : X) (xs : List X)
    → ((i : ℕ) → i < length xs → left i ≡ (test (i, get_or xs i d) && left (i + 1))) → left (length xs) ≡ true → list_all test (enumerate_from 0 xs) ≡ left 0
all-from test left d xs next end =
    each-all test left d xs 0
    (λ i j e h. let q : i ≡ j = omega arith in subst (λ (n : ℕ). left n ≡ (test (n, get_or xs i d) && left (n + 1))) q (next i h))
    (λ j e. let q : j ≡ length xs = omega arith in ap left q ∙ end)

-- ---- `==` on octets
pub same-pointwise : (xs ys : List ℕ) → pointwise eqb xs ys ≡ same_octets xs ys
same-pointwise [] [] = refl
same-pointwise [] (y ∷ ys) = refl
same-pointwise (x ∷ xs) [] = refl
same-pointwise (x ∷ xs) (y ∷ ys) = ap (λ (b : Bool). eqb x y && b) (same-pointwise xs ys)
