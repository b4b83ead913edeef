-- Legal and different page numbers, place by place, from the tests of the definitions.
-- A test of a whole list is a test at each of its places.
use mathlib.Core.Bool.{Bool, true, false, not, ◌&&◌, ◌||◌}
use mathlib.Core.Path.{◌≡◌, sym, ap, ◌∙◌}
use mathlib.Core.Logic.{◌≢◌, ◌⊎◌, inl, inr}
use mathlib.Core.List.{List, [], ◌∷◌}
use Prim.Native.Nat.{ℕ, zero, suc, ◌*◌, ◌≤◌, ◌<◌}
use native.Mathlib.Omega.{arith}
use lib.Dec.{eqb, leb}
use lib.ListN.{length, get_or}
use borrow.Author.Tests.{leb-true, eqb-true, eq-eqb, not-true}
use Rattle.std.specs.List.{list_all}
use Rattle.pagecode.specs.Page.{legal}
use Rattle.pagecode.specs.Encode.{are_pages}
use Rattle.pagecode.specs.Solve.{all_legal, is_in, different}
use Rattle.lists.proofs.Tests.{and_left, and_right, or_cases}

-- a legal number of size k
pub record Legal (k p : ℕ) : Type 0 where
  pub low : 1 ≤ p
  pub high : p ≤ 255
  pub gap : (p ≤ k) ⊎ (33 ≤ p)

-- k legal numbers, no two alike
pub record Pages (k : ℕ) (ps : List ℕ) : Type 0 where
  pub count : length ps ≡ k
  pub legal : (i : ℕ) → i < k → Legal k (get_or ps i 0)
  pub different : (i j : ℕ) → i < j → j < k → get_or ps i 0 ≢ get_or ps j 0

pub legal-is : (k p : ℕ) → k ≤ 32 → legal k p ≡ true → Legal k p
unfolding legal
legal-is k p h e = pick (or_cases (leb 1 p && leb p k) (leb 33 p && leb p 255) e)
  where
    pick : ((leb 1 p && leb p k) ≡ true) ⊎ ((leb 33 p && leb p 255) ≡ true) → Legal k p
    pick (inl a) =
        let lo = leb-true 1 p (and_left (leb 1 p) (leb p k) a) in
        let hi = leb-true p k (and_right (leb 1 p) (leb p k) a) in
        record { low = lo; high = omega arith; gap = inl hi }
    pick (inr a) =
        let lo = leb-true 33 p (and_left (leb 33 p) (leb p 255) a) in
        let hi = leb-true p 255 (and_right (leb 33 p) (leb p 255) a) in
        record { low = omega arith; high = hi; gap = inr lo }

pub legal-tests : (k : ℕ) (ps : List ℕ) → list_all (legal k) ps ≡ all_legal k ps
unfolding all_legal
legal-tests k [] = mathlib.Core.Path.refl
legal-tests k (p ∷ ps) = ap (λ b. legal k p && b) (legal-tests k ps)

pub legal-at : (k : ℕ) (ps : List ℕ) (i : ℕ) → i < length ps → all_legal k ps ≡ true → legal k (get_or ps i 0) ≡ true
unfolding all_legal
legal-at k [] i h e = absurd (omega arith)
legal-at k (p ∷ ps) zero h e = and_left (legal k p) (all_legal k ps) e
legal-at k (p ∷ ps) (suc i) h e = legal-at k ps i (omega arith) (and_right (legal k p) (all_legal k ps) e)

-- a number that stands in a list is found there
stands : (p : ℕ) (ps : List ℕ) (i : ℕ) → i < length ps → p ≡ get_or ps i 0 → is_in p ps ≡ true
unfolding is_in
stands p [] i h e = absurd (omega arith)
stands p (q ∷ ps) zero h e = ap (λ b. b || is_in p ps) (eq-eqb p q e)
stands p (q ∷ ps) (suc i) h e = either (eqb p q) (is_in p ps) (stands p ps i (omega arith) e)
  where
    either : (a b : Bool) → b ≡ true → (a || b) ≡ true
    either true b e = mathlib.Core.Path.refl
    either false b e = e

pub apart : (ps : List ℕ) (i j : ℕ) → i < j → j < length ps → different ps ≡ true → get_or ps i 0 ≢ get_or ps j 0
unfolding different
apart [] i j l h e s = absurd (omega arith)
apart (p ∷ ps) i zero l h e s = absurd (omega arith)
apart (p ∷ ps) zero (suc j) l h e s =
    mathlib.Core.Bool.false≢true (sym (not-true (is_in p ps) (and_left (not (is_in p ps)) (different ps) e)) ∙ stands p ps j (omega arith) s)
apart (p ∷ ps) (suc i) (suc j) l h e s = apart ps i j (omega arith) (omega arith) (and_right (not (is_in p ps)) (different ps) e) s

pub pages-of : (ps : List ℕ) → length ps ≤ 32 → all_legal (length ps) ps ≡ true → different ps ≡ true → Pages (length ps) ps
pages-of ps h l d = record {
  count = mathlib.Core.Path.refl;
  legal = λ i s. legal-is (length ps) (get_or ps i 0) h (legal-at (length ps) ps i s l);
  different = λ i j s t. apart ps i j s t d;
}

-- ---- what the test of a size tells
pub few-pages : (k n : ℕ) → are_pages k n ≡ true → k ≤ 32
unfolding are_pages
few-pages k n e = leb-true k 32 (and_left (leb k 32) (eqb n (k * 53)) (and_right (leb 1 k) _ e))

pub whole-pages : (k n : ℕ) → are_pages k n ≡ true → n ≡ k * 53
unfolding are_pages
whole-pages k n e = eqb-true n (k * 53) (and_right (leb k 32) (eqb n (k * 53)) (and_right (leb 1 k) _ e))
