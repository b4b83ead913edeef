-- The rows of the matrix: of one of the first 32 pages a unit row, of another the octets of the parity columns at its place, which the formula gives.
-- A page's octet stands in the code word at its place: the word itself first, and then its parity.
use mathlib.Core.Bool.{true, cond}
use mathlib.Core.Path.{◌≡◌, sym, ap, ap₂, ◌∙◌, subst}
use mathlib.Core.List.{List, ◌∷◌, ◌++◌, append-nil}
use Prim.Native.Nat.{ℕ, zero, suc, ◌+◌, ◌-◌, ◌≤◌, ◌<◌}
use native.Mathlib.Omega.{arith}
use lib.Dec.{eqb, eqb-zero-suc, eqb-suc-zero, eqb-suc-suc}
use lib.ListN.{length, get_or, set, replicate, get_or-append}
use lib.Seq.{get_or-append-add}
use Rattle.pagecode.specs.Field.{◌⊕◌, ◌⊗◌, power, Inverse}
use Rattle.pagecode.specs.Code.{codeword}
use Rattle.pagecode.specs.Page.{list_of, filled}
use Rattle.pagecode.specs.Matrix.{unit_word, matrix_entry, matrix_row}
use Rattle.pagecode.specs.Solve.{all_legal}
use Rattle.pagecode.proofs.Listed.{listed-length, listed-get, listed-cong, listed-zeros}
use Rattle.pagecode.proofs.Roots.{parity, codeword-is}
use Rattle.pagecode.proofs.Generator.{coefficients}
use Rattle.pagecode.proofs.LegalNumbers.{legal-is, legal-at}
use Rattle.pagecode.proofs.Unique.{page-place}
use Rattle.pagecode.proofs.Entries.{row_get}
use Rattle.pagecode.proofs.Division.{unit-length, divisor, raised, unit-codeword}
use Rattle.pagecode.proofs.Formula.{weights, raised_formula}

-- ---- an entry
filled-whole : (w : List ℕ) → length w ≡ 32 → filled w ≡ w
unfolding filled
filled-whole w e = ap (λ (n : ℕ). w ++ replicate (32 - n) 0) e ∙ append-nil w

entry_place : (p j : ℕ) → 1 ≤ p → p ≤ 255 → matrix_entry p j ≡ get_or (codeword (unit_word j)) (p - 1) 0
unfolding matrix_entry
entry_place p j lo hi = page-place (unit_word j) p (omega (arith, unit-length j)) lo hi ∙ ap (λ (w : List ℕ). get_or (codeword w) (p - 1) 0) (filled-whole (unit_word j) (unit-length j))

unit_get : (i j : ℕ) → i < 32 → get_or (unit_word j) i 0 ≡ cond (eqb i j) 1 0
unfolding unit_word
unit_get i j h = listed-get 32 (λ k. cond (eqb k j) 1 0) i h

unit_entry : (p j : ℕ) → 1 ≤ p → p ≤ 32 → matrix_entry p j ≡ cond (eqb (p - 1) j) 1 0
unit_entry p j lo hi =
    entry_place p j lo (omega arith)
    ∙ ap (λ (w : List ℕ). get_or w (p - 1) 0) (codeword-is (unit_word j))
    ∙ get_or-append (unit_word j) (parity (unit_word j)) 0 (p - 1) (omega (arith, unit-length j))
    ∙ unit_get (p - 1) j (omega arith)

parity-entry : (p j : ℕ) → 33 ≤ p → p ≤ 255 → j < 32 → matrix_entry p j ≡ get_or (raised divisor (31 - j)) (p - 33) 0
parity-entry p j lo hi h =
    entry_place p j (omega arith) hi
    ∙ ap₂ (λ (w : List ℕ) (i : ℕ). get_or w i 0) (unit-codeword j h) place
    ∙ get_or-append-add (unit_word j) (raised divisor (31 - j)) (p - 33) 0
  where
    place : p - 1 ≡ length (unit_word j) + (p - 33)
    place = omega (arith, unit-length j)

-- ---- a row
pub row-length : (p : ℕ) → length (matrix_row p) ≡ 32
unfolding matrix_row
row-length p = listed-length 32 (matrix_entry p)

unit-stored : (n k : ℕ) → k < n → set (replicate n 0) k 1 ≡ list_of n (λ j. cond (eqb k j) 1 0)
unfolding list_of
unit-stored zero k h = absurd (omega arith)
unit-stored (suc n) zero h = ap (λ (r : List ℕ). 1 ∷ r) (sym (listed-zeros n (λ j. cond (eqb 0 (suc j)) 1 0) (λ j. ap (λ b. cond b 1 0) (eqb-zero-suc j))))
unit-stored (suc n) (suc k) h =
    ap₂ (λ (u : ℕ) (r : List ℕ). u ∷ r) (sym (ap (λ b. cond b 1 0) (eqb-suc-zero k)))
    (unit-stored n k (omega arith) ∙ listed-cong n (λ j. cond (eqb k j) 1 0) (λ j. cond (eqb (suc k) (suc j)) 1 0) (λ j l. ap (λ b. cond b 1 0) (sym (eqb-suc-suc k j))))

pub unit_row : (p : ℕ) → 1 ≤ p → p ≤ 32 → set (replicate 32 0) (p - 1) 1 ≡ matrix_row p
unfolding matrix_row
unit_row p lo hi = unit-stored 32 (p - 1) (omega arith) ∙ listed-cong 32 (λ j. cond (eqb (p - 1) j) 1 0) (matrix_entry p) (λ j l. sym (unit_entry p j lo hi))

-- an entry of the dense part by the formula: f is the page's part of it, r the inverse of the sum
pub row-octet : (p j y f r x : ℕ) → 33 ≤ p → p ≤ 255 → j < 32 → y ≡ power (255 - p) → f ≡ get_or coefficients (p - 33) 0 ⊗ (y ⊕ 9) → Inverse (y ⊕ power (254 - j)) r
    → x ≡ r ⊗ get_or weights j 0 ⊗ f → x ≡ get_or (matrix_row p) j 0
row-octet p j y f r x lo hi h at e is made =
    made ∙ ap (λ (m : ℕ). r ⊗ get_or weights j 0 ⊗ m) (e ∙ ap (λ (m : ℕ). get_or coefficients (p - 33) 0 ⊗ (m ⊕ 9)) at)
    ∙ raised_formula (31 - j) j (p - 33) (255 - p) r (omega arith) (omega arith) (subst (λ (m : ℕ). Inverse (m ⊕ power (254 - j)) r) at is)
    ∙ sym (row_get p j h ∙ parity-entry p j lo hi h)

-- ---- legal numbers
pub legal-range : (k : ℕ) (ps : List ℕ) (i : ℕ) → k ≤ 32 → i < length ps → all_legal k ps ≡ true → (1 ≤ get_or ps i 0) × (get_or ps i 0 ≤ 255)
legal-range k ps i h l e = let g = legal-is k (get_or ps i 0) h (legal-at k ps i l e) in (g.low, g.high)
