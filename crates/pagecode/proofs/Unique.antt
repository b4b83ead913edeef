-- Two columns of k octets whose pages agree at k legal numbers are equal.
-- Their sum is a code word with at most 223 octets that are not 0, and minimum distance leaves it none.
use mathlib.Core.Path.{◌≡◌, refl, sym, ap, ap₂, ◌∙◌, subst}
use mathlib.Core.List.{List, [], ◌∷◌, ◌++◌, append_assoc}
use mathlib.Core.Logic.{◌≢◌, ◌⊎◌, inl, inr}
use Prim.Native.Nat.{ℕ, zero, suc, ◌+◌, ◌-◌, ◌≤◌, ◌<◌, zero-le, suc-le-suc}
use native.Mathlib.Omega.{arith}
use lib.ListN.{length, get_or, set, replicate, length-append, length-replicate, length-set, get_or-append}
use lib.Seq.{get_or-set_other}
use Rattle.pagecode.specs.Field.{◌⊕◌, power, Octets}
use Rattle.pagecode.specs.Code.{plus, codeword, coefficient}
use Rattle.pagecode.specs.Page.{filled, page_octet}
use Rattle.pagecode.proofs.LegalNumbers.{Legal, Pages}
use Rattle.pagecode.proofs.Polynomials.{plus-length, plus-get, plus-append, plus-zeros, plus-octets, append-octets, zeros-octets}
use Rattle.pagecode.proofs.Linear.{⊕-self}
use Rattle.pagecode.proofs.Distance.{at, weight, same, distance}
use Rattle.pagecode.proofs.Roots.{horner, value, value-at, horner-plus, parity, parity-length, parity-octets, codeword-is, codeword-root}

-- ---- weights
pub weight-le : (f : List ℕ) → weight f ≤ length f
unfolding weight
weight-le [] = zero-le
weight-le (zero ∷ f) = omega (arith, weight-le f)
weight-le (suc c ∷ f) = omega (arith, weight-le f)

weight-set : (f : List ℕ) (z : ℕ) → z < length f → get_or f z 0 ≡ 0 → weight (set f z 1) ≡ suc (weight f)
unfolding weight
weight-set [] z h e = absurd (omega arith)
weight-set (zero ∷ f) zero h e = refl
weight-set (suc c ∷ f) zero h e = absurd (omega arith)
weight-set (zero ∷ f) (suc z) h e = weight-set f z (omega arith) e
weight-set (suc c ∷ f) (suc z) h e = ap suc (weight-set f z (omega arith) e)

-- the places z - 1 of f are different and hold 0
count : (zs f : List ℕ) → ((i : ℕ) → i < length zs → 1 ≤ get_or zs i 0) → ((i : ℕ) → i < length zs → get_or zs i 0 ≤ length f)
    → ((i j : ℕ) → i < j → j < length zs → get_or zs i 0 ≢ get_or zs j 0) → ((i : ℕ) → i < length zs → get_or f (get_or zs i 0 - 1) 0 ≡ 0)
    → weight f + length zs ≤ length f
count [] f lo hi d z = omega (arith, weight-le f)
count (p ∷ zs) f lo hi d z =
    let w = weight-set f (p - 1) (omega (arith, lo 0 (omega arith), hi 0 (omega arith))) (z 0 (omega arith)) in
    let l = length-set f (p - 1) 1 in
    let ih = count zs (set f (p - 1) 1) (λ i h. lo (suc i) (suc-le-suc h)) (λ i h. omega (arith, hi (suc i) (suc-le-suc h), l)) (λ i j h k. d (suc i) (suc j) (suc-le-suc h) (suc-le-suc k))
    (λ i h. get_or-set_other f (p - 1) (get_or zs i 0 - 1) 1 0 (λ e. d 0 (suc i) (omega arith) (suc-le-suc h) (omega (arith, e, lo 0 (omega arith), lo (suc i) (suc-le-suc h)))) ∙ z (suc i) (suc-le-suc h)) in
    omega (arith, w, l, ih)

first : (x : ℕ) (f : List ℕ) → weight (x ∷ f) ≡ 0 → x ≡ 0
unfolding weight
first zero f e = refl
first (suc x) f e = absurd (omega arith)

others : (x : ℕ) (f : List ℕ) → weight (x ∷ f) ≡ 0 → weight f ≡ 0
unfolding weight
others zero f e = e
others (suc x) f e = absurd (omega arith)

front : (d e : List ℕ) → weight (d ++ e) ≡ 0 → weight d ≡ 0
unfolding weight
front [] e z = refl
front (zero ∷ d) e z = front d e z
front (suc c ∷ d) e z = absurd (omega arith)

pub plus-same : (f g : List ℕ) → length f ≡ length g → weight (plus f g) ≡ 0 → f ≡ g
unfolding plus
plus-same [] [] e z = refl
plus-same [] (b ∷ g) e z = absurd (omega arith)
plus-same (a ∷ f) [] e z = absurd (omega arith)
plus-same (a ∷ f) (b ∷ g) e z = ap₂ (λ (x : ℕ) (l : List ℕ). x ∷ l) (same a b (first _ _ z)) (plus-same f g (omega arith) (others _ _ z))

-- ---- n places in the middle that hold 0, and 1
stuffed : ℕ → ℕ → List ℕ → List ℕ → List ℕ
stuffed v n d e = d ++ (replicate n v ++ e)

stuffed-weight : (n : ℕ) (d e : List ℕ) → weight (stuffed 1 n d e) ≡ n + weight (stuffed 0 n d e)
unfolding stuffed weight
stuffed-weight zero [] e = omega arith
stuffed-weight (suc n) [] e = omega (arith, stuffed-weight n [] e)
stuffed-weight n (zero ∷ d) e = stuffed-weight n d e
stuffed-weight n (suc c ∷ d) e = omega (arith, stuffed-weight n d e)

stuffed-length : (v n : ℕ) (d e : List ℕ) → length (stuffed v n d e) ≡ length d + (n + length e)
unfolding stuffed
stuffed-length v n d e = omega (arith, length-append d (replicate n v ++ e), length-append (replicate n v) e, length-replicate n v)

stuffed-left : (v n : ℕ) (d e : List ℕ) (j : ℕ) → j < length d → get_or (stuffed v n d e) j 0 ≡ get_or d j 0
unfolding stuffed
stuffed-left v n d e j h = get_or-append d (replicate n v ++ e) 0 j h

stuffed_right : (n : ℕ) (d e : List ℕ) (j : ℕ) → length d + n ≤ j → get_or (stuffed 1 n d e) j 0 ≡ get_or (stuffed 0 n d e) j 0
unfolding stuffed
stuffed_right zero [] e j h = refl
stuffed_right (suc n) [] e zero h = absurd (omega arith)
stuffed_right (suc n) [] e (suc j) h = stuffed_right n [] e j (omega arith)
stuffed_right n (c ∷ d) e zero h = absurd (omega arith)
stuffed_right n (c ∷ d) e (suc j) h = stuffed_right n d e j (omega arith)

-- ---- the code word of a column
word : List ℕ → List ℕ
word m = codeword (filled m)

word-is : (m : List ℕ) → word m ≡ stuffed 0 (32 - length m) m (parity (filled m))
unfolding word stuffed
word-is m = codeword-is (filled m) ∙ unfold filled in append_assoc m (replicate (32 - length m) 0) (parity (filled m))

pub filled-length : (m : List ℕ) → length m ≤ 32 → length (filled m) ≡ 32
unfolding filled
filled-length m h = omega (arith, length-append m (replicate (32 - length m) 0), length-replicate {A = ℕ} (32 - length m) 0)

pub filled-octets : (m : List ℕ) → Octets m → Octets (filled m)
unfolding filled
filled-octets m o = append-octets m (replicate (32 - length m) 0) o (zeros-octets (32 - length m))

word-length : (m : List ℕ) → length m ≤ 32 → length (word m) ≡ 255
unfolding word
word-length m h = ap length (codeword-is (filled m)) ∙ omega (arith, length-append (filled m) (parity (filled m)), filled-length m h, parity-length (filled m))

word-octets : (m : List ℕ) → Octets m → Octets (word m)
unfolding word
word-octets m o = subst Octets (sym (codeword-is (filled m))) (append-octets (filled m) (parity (filled m)) (filled-octets m o) (parity-octets (filled m) (filled-octets m o)))

-- page p stands at place p - 1 of the word
pub page-place : (m : List ℕ) (p : ℕ) → length m ≤ 32 → 1 ≤ p → p ≤ 255 → page_octet m p ≡ get_or (codeword (filled m)) (p - 1) 0
unfolding page_octet coefficient word
page-place m p h lo hi = ap (λ (i : ℕ). get_or (codeword (filled m)) i 0) (omega (arith, word-length m h))

module _ (m n ps : List ℕ) (om : Octets m) (on : Octets n) (h : length m ≤ 32) (e : length n ≡ length m) (pages : Pages (length m) ps)
    (agree : (i : ℕ) → i < length m → page_octet m (get_or ps i 0) ≡ page_octet n (get_or ps i 0)) where
  sum : List ℕ
  sum = plus (word m) (word n)

  ends : List ℕ
  ends = plus (parity (filled m)) (parity (filled n))

  sum_is : sum ≡ stuffed 0 (32 - length m) (plus m n) ends
  unfolding sum ends stuffed
  sum_is =
      ap₂ plus (word-is m) (word-is n ∙ ap (λ (l : ℕ). stuffed 0 (32 - l) n (parity (filled n))) e)
      ∙ plus-append m _ n _ (sym e)
      ∙ ap (λ (l : List ℕ). plus m n ++ l) (plus-append (replicate (32 - length m) 0) (parity (filled m)) (replicate (32 - length m) 0) (parity (filled n)) refl ∙ ap (λ (l : List ℕ). l ++ ends) (plus-zeros (32 - length m)))

  sum-length : length sum ≡ 255
  unfolding sum
  sum-length = plus-length (word m) (word n) (omega (arith, word-length m h, word-length n (omega arith))) ∙ word-length n (omega arith)

  sum-root : (i : ℕ) → i < 223 → at (1 + i) sum ≡ 0
  unfolding sum value word
  sum-root i l =
      ap (λ (j : ℕ). at j sum) (omega arith)
      ∙ sym (value-at (suc i) sum (plus-octets (word m) (word n) (word-octets m om) (word-octets n on)))
      ∙ ap (λ (y : ℕ). horner (power (suc i)) y (plus (word m) (word n))) (sym (⊕-self 0))
      ∙ horner-plus (power (suc i)) 0 0 (word m) (word n) (word-length m h ∙ sym (word-length n (omega arith)))
      ∙ ap₂ ◌⊕◌ (codeword-root (filled m) (filled-octets m om) i l) (codeword-root (filled n) (filled-octets n on) i l) ∙ ⊕-self 0

  at-page : (i : ℕ) → i < length m → get_or sum (get_or ps i 0 - 1) 0 ≡ 0
  unfolding sum word
  at-page i l =
      let p : ℕ = get_or ps i 0 in
      let g = pages.legal i l in
      plus-get (word m) (word n) (p - 1)
      ∙ ap₂ ◌⊕◌ (sym (page-place m p h g.low g.high) ∙ agree i l) (sym (page-place n p (omega arith) g.low g.high)) ∙ ⊕-self (page_octet n p)

  d-length : length (plus m n) ≡ length m
  d-length = plus-length m n (omega arith) ∙ e

  marked : List ℕ
  marked = stuffed 1 (32 - length m) (plus m n) ends

  marked-at : (i : ℕ) → i < length m → get_or marked (get_or ps i 0 - 1) 0 ≡ 0
  unfolding marked
  marked-at i l = by (pages.legal i l) (pages.legal i l).gap
    where
      by : Legal (length m) (get_or ps i 0) → (get_or ps i 0 ≤ length m) ⊎ (33 ≤ get_or ps i 0) → get_or marked (get_or ps i 0 - 1) 0 ≡ 0
      by g (inl a) =
          stuffed-left 1 (32 - length m) (plus m n) ends (get_or ps i 0 - 1) (omega (arith, d-length))
          ∙ sym (stuffed-left 0 (32 - length m) (plus m n) ends (get_or ps i 0 - 1) (omega (arith, d-length)))
          ∙ ap (λ (f : List ℕ). get_or f (get_or ps i 0 - 1) 0) (sym sum_is) ∙ at-page i l
      by g (inr b) =
          stuffed_right (32 - length m) (plus m n) ends (get_or ps i 0 - 1) (omega (arith, d-length))
          ∙ ap (λ (f : List ℕ). get_or f (get_or ps i 0 - 1) 0) (sym sum_is) ∙ at-page i l

  light : weight sum ≤ 223
  unfolding marked
  light =
      let c = count ps marked (λ i l. (pages.legal i (omega (arith, pages.count))).low) (λ i l. omega (arith, (pages.legal i (omega (arith, pages.count))).high, marked-length)) (λ i j l k. pages.different i j l (omega (arith, pages.count)))
      (λ i l. marked-at i (omega (arith, pages.count))) in
      omega (arith, c, marked-length, pages.count, stuffed-weight (32 - length m) (plus m n) ends, ap weight sum_is)
    where
      marked-length : length marked ≡ 255
      marked-length = stuffed-length 1 (32 - length m) (plus m n) ends ∙ sym (stuffed-length 0 (32 - length m) (plus m n) ends) ∙ ap length (sym sum_is) ∙ sum-length

  pub unique : m ≡ n
  unfolding sum stuffed
  unique =
      plus-same m n (sym e)
      (front (plus m n) _ (ap weight (sym sum_is) ∙ distance 255 sum 1 223 (omega (arith, sum-length)) (omega arith) (plus-octets (word m) (word n) (word-octets m om) (word-octets n on)) light sum-root))

pub page-lt : (m : List ℕ) (p : ℕ) → Octets m → page_octet m p < 256
unfolding page_octet coefficient word
page-lt m p o = word-octets m o _
