-- The generator matrix: a page's octet is the sum of the column's octets, each times the page's entry (ICD Eq. 13).
-- A column is the sum of its octets times unit columns, and the code is linear.
use mathlib.Core.Bool.{cond}
use mathlib.Core.Path.{◌≡◌, refl, sym, ap, ap₂, ◌∙◌, subst}
use mathlib.Core.List.{List, ◌∷◌, ◌++◌, append-nil}
use mathlib.Core.Logic.{◌≢◌}
use Prim.Native.Nat.{ℕ, zero, suc, ◌-◌, ◌≤◌, ◌<◌}
use native.Mathlib.Decide.{ℕ_discrete, dec_lt}
use native.Mathlib.Omega.{arith}
use lib.Dec.{eqb}
use borrow.Author.Tests.{eq-eqb, ne_eqb}
use lib.ListN.{length, get_or, replicate}
use Rattle.pagecode.specs.Field.{◌⊕◌, ◌⊗◌, Octets}
use Rattle.pagecode.specs.Code.{plus, scale, codeword}
use Rattle.pagecode.specs.Page.{list_of, filled, page_octet}
use Rattle.pagecode.specs.Matrix.{unit_word, matrix_entry, matrix_row}
use Rattle.pagecode.specs.System.{sum}
use Rattle.pagecode.proofs.Linear.{⊕-self, zero-⊕, ⊕-zero}
use Rattle.pagecode.proofs.Laws.{⊗-comm, ⊗-zero, zero-⊗, ⊗-one}
use Rattle.pagecode.proofs.Polynomials.{scale-length}
use Rattle.pagecode.proofs.Listed.{listed-length, listed-get, listed-zeros, listed-octets, listed-cong, listed-plus, listed-scale}
use Rattle.pagecode.proofs.Linearity.{page-plus, page-scale}
use Rattle.pagecode.proofs.Unique.{page-lt}
use Rattle.pagecode.proofs.Kernel.{sel, sel_yes, sel_no}

-- a unit column's octets
pub unit : ℕ → ℕ → ℕ
unit j i = cond (eqb i j) 1 0

pub unit_same : (j : ℕ) → unit j j ≡ 1
unfolding unit
unit_same j = ap (λ b. cond b 1 0) (eq-eqb j j refl)

pub unit-other : (i j : ℕ) → i ≢ j → unit j i ≡ 0
unfolding unit
unit-other i j d = ap (λ b. cond b 1 0) (ne_eqb i j d)

unit_lt : (i j : ℕ) → unit j i < 256
unit_lt i j = pick (ℕ_discrete i j)
  where
    pick : Dec (i ≡ j) → unit j i < 256
    pick (yes e) = omega (arith, ap (λ (k : ℕ). unit k i) (sym e) ∙ unit_same i)
    pick (no d) = omega (arith, unit-other i j d)

word-unit : (j : ℕ) → unit_word j ≡ list_of 32 (unit j)
unfolding unit_word unit
word-unit j = refl

pub entry_lt : (p j : ℕ) → matrix_entry p j < 256
unfolding matrix_entry
entry_lt p j = page-lt (unit_word j) p (subst Octets (sym (word-unit j)) (listed-octets 32 (unit j) (λ i l. unit_lt i j)))

pub page-none : (k p : ℕ) → page_octet (list_of k (λ i. 0)) p ≡ 0
page-none k p =
    ap (λ (l : List ℕ). page_octet l p) (listed-cong k (λ i. 0) (λ i. 0 ⊗ 0) (λ i l. sym (zero-⊗ 0)) ∙ listed-scale k 0 (λ i. 0)) ∙ page-scale 0 (list_of k (λ i. 0)) p ∙ zero-⊗ _

-- a row, entry by entry
pub row_get : (p j : ℕ) → j < 32 → get_or (matrix_row p) j 0 ≡ matrix_entry p j
unfolding matrix_row
row_get p j h = listed-get 32 (matrix_entry p) j h

-- f below n, 0 from there on
cut : (ℕ → ℕ) → ℕ → ℕ → ℕ
cut f n i = sel (dec_lt i n) (f i) 0

cut_low : (f : ℕ → ℕ) (n i : ℕ) → i < n → cut f n i ≡ f i
unfolding cut
cut_low f n i h = sel_yes (dec_lt i n) (f i) 0 h

cut_high : (f : ℕ → ℕ) (n i : ℕ) → n ≤ i → cut f n i ≡ 0
unfolding cut
cut_high f n i h = sel_no (dec_lt i n) (f i) 0 (λ l. omega arith)

cut_shift : (f : ℕ → ℕ) (n i : ℕ) → cut f (suc n) (suc i) ≡ cut (λ j. f (suc j)) n i
cut_shift f n i = pick (dec_lt i n)
  where
    pick : Dec (i < n) → cut f (suc n) (suc i) ≡ cut (λ j. f (suc j)) n i
    pick (yes l) = cut_low f (suc n) (suc i) (omega arith) ∙ sym (cut_low (λ j. f (suc j)) n i l)
    pick (no d) = cut_high f (suc n) (suc i) (omega arith) ∙ sym (cut_high (λ j. f (suc j)) n i (omega arith))

cut-filled : (n k : ℕ) (f : ℕ → ℕ) → k ≤ n → list_of k f ++ replicate (n - k) 0 ≡ list_of n (cut f k)
unfolding list_of
cut-filled n zero f h =
    ap (λ (k : ℕ). replicate k 0) whole
    ∙ sym (listed-zeros n (cut f 0) (λ i. cut_high f 0 i (omega arith)))
  where
    whole : n - 0 ≡ n
    whole = omega arith
cut-filled zero (suc k) f h = absurd (omega arith)
cut-filled (suc n) (suc k) f h =
    ap₂ (λ (x : ℕ) (l : List ℕ). x ∷ l) (sym (cut_low f (suc k) 0 (omega arith)))
    (ap (λ (r : ℕ). list_of k (λ i. f (suc i)) ++ replicate r 0) less ∙ cut-filled n k (λ i. f (suc i)) (omega arith)
    ∙ listed-cong n (cut (λ i. f (suc i)) k) (λ i. cut f (suc k) (suc i)) (λ i l. sym (cut_shift f k i)))
  where
    less : suc n - suc k ≡ n - k
    less = omega arith

page-cut : (k p : ℕ) (f : ℕ → ℕ) → k ≤ 32 → page_octet (list_of k f) p ≡ page_octet (list_of 32 (cut f k)) p
unfolding page_octet filled
page-cut k p f h = ap (λ (w : List ℕ). page_of w) (short ∙ cut-filled 32 k f h ∙ sym long)
  where
    page_of : List ℕ → ℕ
    page_of w = Rattle.pagecode.specs.Code.coefficient (255 - p) (codeword w)

    short : list_of k f ++ replicate (32 - length (list_of k f)) 0 ≡ list_of k f ++ replicate (32 - k) 0
    short = ap (λ (n : ℕ). list_of k f ++ replicate (32 - n) 0) (listed-length k f)

    long : list_of 32 (cut f k) ++ replicate (32 - length (list_of 32 (cut f k))) 0 ≡ list_of 32 (cut f k)
    long = ap (λ (n : ℕ). list_of 32 (cut f k) ++ replicate (32 - n) 0) (listed-length 32 (cut f k)) ∙ append-nil _

module _ (p : ℕ) (f : ℕ → ℕ) (octets : (i : ℕ) → f i < 256) where
  cut-next : (n i : ℕ) → cut f (suc n) i ≡ cut f n i ⊕ f n ⊗ unit n i
  cut-next n i = pick (dec_lt i n) (ℕ_discrete i n)
    where
      pick : Dec (i < n) → Dec (i ≡ n) → cut f (suc n) i ≡ cut f n i ⊕ f n ⊗ unit n i
      pick (yes l) d =
          cut_low f (suc n) i (omega arith)
          ∙ sym (ap₂ ◌⊕◌ (cut_low f n i l) (ap (λ (x : ℕ). f n ⊗ x) (unit-other i n (omega arith)) ∙ ⊗-zero (f n)) ∙ ⊕-zero (f i))
      pick (no l) (yes e) =
          cut_low f (suc n) i (omega arith) ∙ ap f e
          ∙ sym (ap₂ ◌⊕◌ (cut_high f n i (omega arith)) (ap (λ (j : ℕ). f n ⊗ unit n j) e ∙ ap (λ (x : ℕ). f n ⊗ x) (unit_same n) ∙ ⊗-one (f n) (octets n)) ∙ zero-⊕ (f n))
      pick (no l) (no d) =
          cut_high f (suc n) i (omega arith)
          ∙ sym (ap₂ ◌⊕◌ (cut_high f n i (omega arith)) (ap (λ (x : ℕ). f n ⊗ x) (unit-other i n d) ∙ ⊗-zero (f n)) ∙ ⊕-self 0)

  expand : (n : ℕ) → page_octet (list_of 32 (cut f n)) p ≡ sum n (λ j. matrix_entry p j ⊗ f j)
  unfolding sum matrix_entry
  expand zero = ap (λ (l : List ℕ). page_octet l p) (listed-cong 32 (cut f 0) (λ i. 0) (λ i l. cut_high f 0 i (omega arith))) ∙ page-none 32 p
  expand (suc n) =
      ap (λ (l : List ℕ). page_octet l p)
      (listed-cong 32 (cut f (suc n)) (λ i. cut f n i ⊕ f n ⊗ unit n i) (λ i l. cut-next n i) ∙ listed-plus 32 (cut f n) (λ i. f n ⊗ unit n i) ∙ ap (plus (list_of 32 (cut f n))) (listed-scale 32 (f n) (unit n)))
      ∙ page-plus (list_of 32 (cut f n)) (scale (f n) (list_of 32 (unit n))) p (omega (arith, listed-length 32 (cut f n), listed-length 32 (unit n), scale-length (f n) (list_of 32 (unit n))))
      ∙ ap₂ ◌⊕◌ (expand n) (page-scale (f n) (list_of 32 (unit n)) p ∙ ⊗-comm _ _ ∙ ap (λ (w : List ℕ). page_octet w p ⊗ f n) (sym (word-unit n)))

  -- a page's octet is the sum of the column's octets, each times the page's entry
  pub page-sum : (k : ℕ) → k ≤ 32 → page_octet (list_of k f) p ≡ sum k (λ j. matrix_entry p j ⊗ f j)
  page-sum k h = page-cut k p f h ∙ expand k
