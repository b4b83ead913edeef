-- The columns of the matrix's dense part are the remainders of x^223, x^224, .. by the generator, each one step of long division from the one before.
-- The division takes the zeros in front of a unit word away, and what stands behind a dividend comes through as it is.
use mathlib.Core.Bool.{cond}
use mathlib.Core.Path.{◌≡◌, refl, sym, ap, ap₂, ◌∙◌, subst}
use mathlib.Core.List.{List, [], ◌∷◌, ◌++◌, append_assoc, append-nil}
use Prim.Native.Nat.{ℕ, zero, suc, ◌+◌, ◌-◌, ◌≤◌, ◌<◌}
use native.Mathlib.Nat.{suc-add, zero-add}
use native.Mathlib.Omega.{arith}
use lib.Dec.{eqb, eqb-zero-suc, eqb-suc-zero, eqb-suc-suc}
use lib.ListN.{length, get_or, drop, replicate, length-append, length-drop, length-replicate, replicate-append-replicate}
use lib.Seq.{get_or-drop}
use Rattle.pagecode.specs.Field.{◌⊕◌, ◌⊗◌, Octets}
use Rattle.pagecode.specs.Code.{plus, scale, generator, remainder, codeword}
use Rattle.pagecode.specs.Page.{list_of}
use Rattle.pagecode.specs.Matrix.{unit_word}
use Rattle.pagecode.proofs.Linear.{⊕-comm, zero-⊕, ⊕-zero, ⊕-lt}
use Rattle.pagecode.proofs.Laws.{⊗-comm, ⊗-lt, zero-⊗, one-⊗}
use Rattle.pagecode.proofs.Polynomials.{plus-length, plus-get, scale-length, scale-get}
use Rattle.pagecode.proofs.Listed.{listed-length, listed-cong, listed-zeros}
use Rattle.pagecode.proofs.Roots.{generator-length, generator-octets}
use Rattle.pagecode.proofs.Generator.{coefficients, generator-223}

-- ---- sums
abbrev zeros : ℕ → List ℕ
zeros n = replicate n 0

plus-nought : (t f : List ℕ) → length t ≤ length f → plus (scale 0 t) f ≡ f
unfolding plus scale
plus-nought [] f l = refl
plus-nought (x ∷ t) [] l = absurd (omega arith)
plus-nought (x ∷ t) (y ∷ f) l = ap₂ (λ (u : ℕ) (r : List ℕ). u ∷ r) (ap (λ (u : ℕ). u ⊕ y) (zero-⊗ x) ∙ zero-⊕ y) (plus-nought t f (omega arith))

plus-once : (n : ℕ) (t : List ℕ) → Octets t → plus (scale 1 t) (zeros (length t + n)) ≡ t ++ zeros n
unfolding plus scale
plus-once n [] o = ap (λ (k : ℕ). zeros k) (zero-add n)
plus-once n (x ∷ t) o =
    ap (λ (k : ℕ). plus (scale 1 (x ∷ t)) (zeros k)) (suc-add (length t) n)
    ∙ ap₂ (λ (u : ℕ) (r : List ℕ). u ∷ r) (⊕-zero _ ∙ one-⊗ x (o 0)) (plus-once n t (λ i. o (suc i)))

plus-front : (a f g : List ℕ) → length a ≤ length f → plus a (f ++ g) ≡ plus a f ++ g
unfolding plus
plus-front [] f g l = refl
plus-front (x ∷ a) [] g l = absurd (omega arith)
plus-front (x ∷ a) (y ∷ f) g l = ap (λ (r : List ℕ). (x ⊕ y) ∷ r) (plus-front a f g (omega arith))

zero_get : (f : List ℕ) (i : ℕ) → get_or (f ++ (0 ∷ [])) i 0 ≡ get_or f i 0
zero_get [] zero = refl
zero_get [] (suc i) = refl
zero_get (x ∷ f) zero = refl
zero_get (x ∷ f) (suc i) = zero_get f i

module _ (t : List ℕ) where
  -- ---- one step, a 0 brought down
  step-length : (c : List ℕ) → length c ≡ length t → 0 < length t → length (remainder 1 t (c ++ (0 ∷ []))) ≡ length t
  unfolding remainder
  step-length [] e l = absurd (omega arith)
  step-length (x ∷ f) e l =
      let long = length-append f (0 ∷ []) in
      plus-length (scale x t) (f ++ (0 ∷ [])) (omega (arith, scale-length x t, long)) ∙ omega (arith, long)

  step-get : (c : List ℕ) (i : ℕ) → 0 < length c → get_or (remainder 1 t (c ++ (0 ∷ []))) i 0 ≡ get_or c (suc i) 0 ⊕ get_or t i 0 ⊗ get_or c 0 0
  unfolding remainder
  step-get [] i l = absurd (omega arith)
  step-get (x ∷ f) i l =
      plus-get (scale x t) (f ++ (0 ∷ [])) i
      ∙ ap₂ ◌⊕◌ (scale-get x t i ∙ ⊗-comm x (get_or t i 0)) (zero_get f i)
      ∙ ⊕-comm _ _

  -- ---- several steps
  remainder-suc : (n : ℕ) (f : List ℕ) → remainder (suc n) t f ≡ remainder 1 t (remainder n t f)
  unfolding remainder
  remainder-suc zero f = refl
  remainder-suc (suc n) [] = refl
  remainder-suc (suc n) (c ∷ f) = remainder-suc n (plus (scale c t) f)

  remainder-front : (n : ℕ) (f g : List ℕ) → n + length t ≤ length f → remainder n t (f ++ g) ≡ remainder n t f ++ g
  unfolding remainder
  remainder-front zero f g l = refl
  remainder-front (suc n) [] g l = absurd (omega arith)
  remainder-front (suc n) (c ∷ f) g l =
      let fits : length (scale c t) ≤ length f = omega (arith, scale-length c t) in
      ap (remainder n t) (plus-front (scale c t) f g fits) ∙ remainder-front n (plus (scale c t) f) g (omega (arith, plus-length (scale c t) f fits))

  remainder-zeros : (k n : ℕ) (f : List ℕ) → length t ≤ length f → remainder (k + n) t (zeros k ++ f) ≡ remainder n t f
  unfolding remainder
  remainder-zeros zero n f l = ap (λ (i : ℕ). remainder i t f) (zero-add n)
  remainder-zeros (suc k) n f l =
      ap (λ (i : ℕ). remainder i t (0 ∷ (zeros k ++ f))) (suc-add k n)
      ∙ ap (remainder (k + n) t) (plus-nought t (zeros k ++ f) (omega (arith, length-append (zeros k) f)))
      ∙ remainder-zeros k n f l

  -- the remainder of x^(length t + n)
  pub raised : ℕ → List ℕ
  raised n = remainder n t (t ++ zeros n)

  raised-zero : raised 0 ≡ t
  unfolding raised remainder
  raised-zero = append-nil t

  raised-next : (n : ℕ) → raised (suc n) ≡ remainder 1 t (raised n ++ (0 ∷ []))
  unfolding raised
  raised-next n =
      remainder-suc n (t ++ zeros (suc n))
      ∙ ap (λ (f : List ℕ). remainder 1 t (remainder n t f)) (ap (λ (z : List ℕ). t ++ z) (zeros-next n) ∙ sym (append_assoc t (zeros n) (0 ∷ [])))
      ∙ ap (remainder 1 t) (remainder-front n (t ++ zeros n) (0 ∷ []) (omega (arith, length-append t (zeros n), length-replicate {A = ℕ} n 0)))
    where
      zeros-next : (n : ℕ) → zeros (suc n) ≡ zeros n ++ (0 ∷ [])
      zeros-next zero = refl
      zeros-next (suc n) = ap (λ (z : List ℕ). 0 ∷ z) (zeros-next n)

  -- the remainder of a word that has k zeros, a 1 and n zeros, times x^m
  word-raised : (k n m : ℕ) (w : List ℕ) → w ≡ zeros k ++ (1 ∷ zeros n) → length t ≡ m → Octets t → remainder (length w) t (w ++ zeros m) ≡ raised n
  unfolding raised remainder
  word-raised k n m w d e o =
      ap (λ (v : List ℕ). remainder (length v) t (v ++ zeros m)) d
      ∙ ap₂ (λ (i : ℕ) (f : List ℕ). remainder i t f) long (append_assoc (zeros k) (1 ∷ zeros n) (zeros m))
      ∙ remainder-zeros k (suc n) (1 ∷ (zeros n ++ zeros m)) (omega (arith, ap length behind, length-replicate {A = ℕ} (length t + n) 0))
      ∙ ap (λ (z : List ℕ). remainder n t (plus (scale 1 t) z)) behind
      ∙ ap (remainder n t) (plus-once n t o)
    where
      long : length (zeros k ++ (1 ∷ zeros n)) ≡ k + suc n
      long = omega (arith, length-append (zeros k) (1 ∷ zeros n), length-replicate {A = ℕ} k 0, length-replicate {A = ℕ} n 0)

      same : n + m ≡ length t + n
      same = omega arith

      behind : zeros n ++ zeros m ≡ zeros (length t + n)
      behind = replicate-append-replicate n m 0 ∙ ap zeros same

-- ---- the unit words
unit-listed : (k n : ℕ) → list_of (k + suc n) (λ i. cond (eqb i k) 1 0) ≡ zeros k ++ (1 ∷ zeros n)
unfolding list_of
unit-listed zero n =
    ap (λ (l : ℕ). list_of l (λ i. cond (eqb i 0) 1 0)) (zero-add (suc n))
    ∙ ap (λ (r : List ℕ). 1 ∷ r) (listed-zeros n (λ i. cond (eqb (suc i) 0) 1 0) (λ i. ap (λ b. cond b 1 0) (eqb-suc-zero i)))
unit-listed (suc k) n =
    ap (λ (l : ℕ). list_of l (λ i. cond (eqb i (suc k)) 1 0)) (suc-add k (suc n))
    ∙ ap₂ (λ (u : ℕ) (r : List ℕ). u ∷ r) (ap (λ b. cond b 1 0) (eqb-zero-suc k))
    (listed-cong (k + suc n) (λ i. cond (eqb (suc i) (suc k)) 1 0) (λ i. cond (eqb i k) 1 0) (λ i l. ap (λ b. cond b 1 0) (eqb-suc-suc i k)) ∙ unit-listed k n)

unit-is : (j : ℕ) → j < 32 → unit_word j ≡ zeros j ++ (1 ∷ zeros (31 - j))
unfolding unit_word
unit-is j h = ap (λ (l : ℕ). list_of l (λ i. cond (eqb i j) 1 0)) long ∙ unit-listed j (31 - j)
  where
    long : 32 ≡ j + suc (31 - j)
    long = omega arith

pub unit-length : (j : ℕ) → length (unit_word j) ≡ 32
unfolding unit_word
unit-length j = listed-length 32 (λ i. cond (eqb i j) 1 0)

-- ---- the columns
abbrev pub divisor : List ℕ
divisor = drop 1 (generator 223)

divisor-length : length divisor ≡ 223
divisor-length = omega (arith, length-drop 1 (generator 223), generator-length 223)

divisor-octets : Octets divisor
divisor-octets i = subst (λ (x : ℕ). x < 256) (sym (get_or-drop 1 (generator 223) i 0)) (generator-octets 223 (1 + i))

divisor-table : divisor ≡ coefficients
divisor-table = ap (drop 1) generator-223

pub unit-codeword : (j : ℕ) → j < 32 → codeword (unit_word j) ≡ unit_word j ++ raised divisor (31 - j)
unfolding codeword
unit-codeword j h = ap (λ (l : List ℕ). unit_word j ++ l) (word-raised divisor j (31 - j) 223 (unit_word j) (unit-is j h) divisor-length divisor-octets)

-- the last column is the table itself
pub first-raised : raised divisor 0 ≡ coefficients
first-raised = raised-zero divisor ∙ divisor-table

pub raised-length : (n : ℕ) → length (raised divisor n) ≡ 223
raised-length zero = ap length (raised-zero divisor) ∙ divisor-length
raised-length (suc n) =
    ap length (raised-next divisor n)
    ∙ step-length divisor (raised divisor n) (raised-length n ∙ sym divisor-length) (omega (arith, divisor-length)) ∙ divisor-length

-- one step from a column, octet by octet with the table
pub raised_octet : (n i : ℕ) → get_or (raised divisor (suc n)) i 0 ≡ get_or (raised divisor n) (suc i) 0 ⊕ get_or coefficients i 0 ⊗ get_or (raised divisor n) 0 0
raised_octet n i =
    ap (λ (l : List ℕ). get_or l i 0) (raised-next divisor n)
    ∙ step-get divisor (raised divisor n) i (omega (arith, raised-length n))
    ∙ ap (λ (t : List ℕ). get_or (raised divisor n) (suc i) 0 ⊕ get_or t i 0 ⊗ get_or (raised divisor n) 0 0) divisor-table

pub raised_lt : (n i : ℕ) → get_or (raised divisor n) i 0 < 256
raised_lt zero i = subst (λ (l : List ℕ). get_or l i 0 < 256) (sym (raised-zero divisor)) (divisor-octets i)
raised_lt (suc n) i = subst (λ (x : ℕ). x < 256) (sym (raised_octet n i)) (⊕-lt _ _ (raised_lt n (suc i)) (⊗-lt _ _))
