-- The page code's case of 01, Checked by hand, by Table 42: the generator itself would take too long to compute.
-- The last column of the generator matrix is the generator's, so its pages hold the table's numbers.
use mathlib.Core.Bool.{cond}
use mathlib.Core.List.{List, [], ◌∷◌, ◌++◌, map}
use mathlib.Core.Path.{◌≡◌, refl, sym, ap, ◌∙◌}
use Prim.Native.Nat.{ℕ, ◌+◌, ◌-◌, ◌*◌, ◌<◌}
use native.Mathlib.Decide.{ℕ_discrete}
use native.Mathlib.Omega.{arith}
use lib.Dec.{eqb}
use lib.ListN.{get_or, set, replicate, length-replicate, get_or-replicate}
use lib.Seq.{get_or-set_same, get_or-set_other}
use borrow.Author.Tests.{eq-eqb, ne_eqb}
use Rattle.pagecode.specs.Field.{◌⊕◌, ◌⊗◌}
use Rattle.pagecode.specs.Code.{remainder, coefficient}
use Rattle.pagecode.specs.Page.{column, filled, page_octet, content}
use Rattle.pagecode.specs.Matrix.{unit_word}
use Rattle.pagecode.proofs.Listed.{listed-cong}
use Rattle.pagecode.proofs.Generator.{coefficients, codeword-table}
use Rattle.pagecode.proofs.Content.{content-at}

abbrev pub zeros : ℕ → List ℕ
zeros n = replicate n 0

-- n octets, one of them 1: that of page 32 at place j
abbrev pub one_octet : ℕ → ℕ → List ℕ
one_octet n j = set (zeros n) (31 * 53 + j) 1

-- at a place where page 32 has 1 and every other page 0, the column is the last unit word
module _ (n j : ℕ) (h : j < 53) (long : n ≡ 1696) where
  last-at : (i : ℕ) → i < 32 → get_or (one_octet n j) (i * 53 + j) 0 ≡ cond (eqb i 31) 1 0
  last-at i l = pick (ℕ_discrete i 31)
    where
      pick : Dec (i ≡ 31) → get_or (one_octet n j) (i * 53 + j) 0 ≡ cond (eqb i 31) 1 0
      pick (yes e) =
          ap (λ (x : ℕ). get_or (one_octet n j) (x * 53 + j) 0) e
          ∙ get_or-set_same (zeros n) (31 * 53 + j) 1 0 (omega (arith, length-replicate {A = ℕ} n 0)) ∙ sym (ap (λ b. cond b 1 0) (eq-eqb i 31 e))
      pick (no d) =
          get_or-set_other (zeros n) (31 * 53 + j) (i * 53 + j) 1 0 (omega arith)
          ∙ get_or-replicate {A = ℕ} n (i * 53 + j) 0 0 (omega arith) ∙ sym (ap (λ b. cond b 1 0) (ne_eqb i 31 d))

  last-column : column 32 j (one_octet n j) ≡ unit_word 31
  unfolding column unit_word
  last-column = listed-cong 32 (λ i. get_or (one_octet n j) (i * 53 + j) 0) (λ i. cond (eqb i 31) 1 0) last-at

  pub one-octet : (p : ℕ) → get_or (content 32 (one_octet n j) p) j 0 ≡ page_octet (unit_word 31) p
  one-octet p = content-at 32 (one_octet n j) p j h ∙ ap (λ (c : List ℕ). page_octet c p) last-column

pages : List ℕ
pages = 32 ∷ 33 ∷ 34 ∷ 254 ∷ 255 ∷ []

by_table : map (λ p. coefficient (255 - p) (unit_word 31 ++ remainder 32 coefficients (unit_word 31 ++ replicate 223 0))) pages ≡ 1 ∷ 251 ∷ 252 ∷ 216 ∷ 88 ∷ []
unfolding pages coefficient remainder coefficients unit_word ◌⊕◌ ◌⊗◌
by_table = refl

pub last-pages : map (page_octet (unit_word 31)) (32 ∷ 33 ∷ 34 ∷ 254 ∷ 255 ∷ []) ≡ 1 ∷ 251 ∷ 252 ∷ 216 ∷ 88 ∷ []
unfolding pages page_octet filled unit_word
last-pages = ap (λ (w : List ℕ). map (λ p. coefficient (255 - p) w) pages) (codeword-table (unit_word 31)) ∙ by_table
