-- Pages that are laid into a buffer, one after another.
-- A copy leaves the other places as they were, and no two pages are laid at one place.
use mathlib.Core.List.{List, ◌++◌}
use mathlib.Core.Logic.{◌≢◌}
use mathlib.Core.Path.{◌≡◌, refl, sym, ap, ap₂, ◌∙◌, subst}
use Prim.Native.Nat.{ℕ, suc, ◌+◌, ◌-◌, ◌*◌, ◌≤◌, ◌<◌}
use native.Mathlib.Decide.{ℕ_discrete, dec_lt}
use native.Mathlib.Omega.{arith}
use lib.ListN.{length, get_or, take, drop, length-take, get_or-append}
use borrow.Rule.Slice.PartMut.{put_mid}
use lib.Seq.{get_or-append-add, get_or-take, get_or-drop}
use Rattle.pagecode.proofs.Pieces.{piece, piece-length, piece-get}
use Rattle.pagecode.specs.Reduction.{Spread, PageLaid, PagesLaid}

-- ---- a part of a list that is overwritten by 53 others: what is below it, in it and above it
module _ (w ys : List ℕ) (at : ℕ) (fits : at + 53 ≤ length w) (long : length ys ≡ 53) where
  abbrev over : List ℕ
  over = put_mid at 53 w ys

  front : length (take at w) ≡ at
  front = omega (arith, length-take at w)

  over-below : (i : ℕ) → i < at → get_or over i 0 ≡ get_or w i 0
  over-below i l = get_or-append (take at w) _ 0 i (omega (arith, front)) ∙ get_or-take at w i 0 l

  behind : (j : ℕ) → get_or over (at + j) 0 ≡ get_or (ys ++ drop 53 (drop at w)) j 0
  behind j = ap (λ (i : ℕ). get_or over (i + j) 0) (sym front) ∙ get_or-append-add (take at w) _ j 0

  over-at : (j : ℕ) → j < 53 → get_or over (at + j) 0 ≡ get_or ys j 0
  over-at j l = behind j ∙ get_or-append ys _ 0 j (omega (arith, long))

  over-above : (i : ℕ) → at + 53 ≤ i → get_or over i 0 ≡ get_or w i 0
  over-above i h =
      ap (λ (n : ℕ). get_or over n 0) (sym whole)
      ∙ behind (length ys + (i - (at + 53))) ∙ get_or-append-add ys _ (i - (at + 53)) 0
      ∙ get_or-drop 53 (drop at w) (i - (at + 53)) 0 ∙ get_or-drop at w (53 + (i - (at + 53))) 0 ∙ ap (λ (n : ℕ). get_or w n 0) same
    where
      whole : at + (length ys + (i - (at + 53))) ≡ i
      whole = omega (arith, long)

      same : at + (53 + (i - (at + 53))) ≡ i
      same = omega arith

-- ---- a page that is copied
page-at : (source before : List ℕ) (i p : ℕ) → p ≢ 0 → p ≤ 32 → i * 53 + 53 ≤ length source → length before ≡ 1696
    → PageLaid source i p before (put_mid ((p - 1) * 53) 53 before (piece source i))
page-at source before i p z m s l = record { laid = laid'; kept = λ q t b d. kept' q t b d (dec_lt q (p - 1)) }
  where
    at : ℕ
    at = (p - 1) * 53

    y : List ℕ
    y = piece source i

    long : length y ≡ 53
    long = piece-length source i s

    fits : at + 53 ≤ length before
    fits = omega arith

    laid' : (q t : ℕ) → t < 53 → p ≡ suc q → get_or (put_mid at 53 before y) (q * 53 + t) 0 ≡ get_or source (i * 53 + t) 0
    laid' q t b e = ap (λ (n : ℕ). get_or (put_mid at 53 before y) n 0) place ∙ over-at before y at fits long t b ∙ piece-get source i t b
      where
        place : q * 53 + t ≡ at + t
        place = omega arith

    kept' : (q t : ℕ) → t < 53 → p ≢ suc q → Dec (q < p - 1) → get_or (put_mid at 53 before y) (q * 53 + t) 0 ≡ get_or before (q * 53 + t) 0
    kept' q t b d (yes h) = over-below before y at fits long (q * 53 + t) (omega arith)
    kept' q t b d (no h) = over-above before y at fits long (q * 53 + t) (omega arith)

-- the same, in the numbers that the code works out
pub page-copied : (source before : List ℕ) (i p n m : ℕ) (ys : List ℕ) → p ≢ 0 → p ≤ 32 → i * 53 + 53 ≤ length source → length before ≡ 1696
    → n ≡ 53 → m ≡ 53 → ys ≡ take m (drop (i * 53) source) → PageLaid source i p before (put_mid ((p - 1) * 53) n before ys)
page-copied source before i p n m ys z h s l en em e =
    subst (PageLaid source i p before) (sym (ap₂ (λ (k : ℕ) (u : List ℕ). put_mid ((p - 1) * 53) k before u) en (e ∙ ap (λ (k : ℕ). take k (drop (i * 53) source)) em))) (page-at source before i p z h s l)

-- p is 0
pub none-laid : (source before : List ℕ) (i p : ℕ) → p ≡ 0 → PageLaid source i p before before
none-laid source before i p z = record { laid = λ q t b e. absurd (omega arith); kept = λ q t b d. refl }

-- ---- n pages
pub pages-start : (source to before : List ℕ) → PagesLaid 0 source to before before
pages-start source to before = record { laid = λ i q t h. absurd (omega arith); kept = λ q t b d. refl }

pub pages-turn : (m n : ℕ) (source to before v w : List ℕ) → n < m → Spread m 32 to → PageLaid source n (get_or to n 0) v w → PagesLaid n source to before v → PagesLaid (n + 1) source to before w
pages-turn m n source to before v w h s p l = record {
  laid = λ i q t b c e. pick i q t b c e (ℕ_discrete i n);
  kept = λ q t c d. p.kept q t c (d n (omega arith)) ∙ l.kept q t c (λ i b. d i (omega arith));
}
  where
    pick : (i q t : ℕ) → i < n + 1 → t < 53 → get_or to i 0 ≡ suc q → Dec (i ≡ n) → get_or w (q * 53 + t) 0 ≡ get_or source (i * 53 + t) 0
    pick i q t b c e (yes j) = p.laid q t c (ap (λ (k : ℕ). get_or to k 0) (sym j) ∙ e) ∙ ap (λ (k : ℕ). get_or source (k * 53 + t) 0) (sym j)
    pick i q t b c e (no d) =
        p.kept q t c (λ x. s.different i n (omega arith) h (omega arith) (e ∙ sym x)) ∙ l.laid i q t (omega arith) c e
