-- The matrix's dense part by a formula: with N = α^223, X = α^(n+223) and Y = α^k, the coefficient of x^k in the remainder of x^(n+223) by the generator is
-- v_n (Y + N) / (Y + X) times the generator's own. A step of the division keeps this form, by the generator's rule and a rule of the weights v.
use mathlib.Core.Bool.{Bool, true}
use mathlib.Core.Path.{◌≡◌, refl, sym, ap, ap₂, ◌∙◌, subst}
use mathlib.Core.List.{List, [], ◌∷◌}
use mathlib.Core.Logic.{◌≢◌}
use Prim.Native.Nat.{ℕ, zero, suc, ◌+◌, ◌-◌, ◌<◌}
use native.Mathlib.Nat.{suc-add, zero-add}
use native.Mathlib.Omega.{arith}
use lib.Dec.{eqb, ltb, lit<}
use borrow.Author.Tests.{eqb-true, ltb-true}
use lib.ListN.{length, get_or, get_or-eq_default}
use Rattle.lists.proofs.Tests.{and_left, and_right}
use Rattle.pagecode.specs.Field.{◌⊕◌, ◌⊗◌, power, Inverse}
use Rattle.pagecode.proofs.Everywhere.{all, below}
use Rattle.pagecode.proofs.Linear.{⊗-add-l, ⊗-add-r, ⊕-self, ⊕-self-left, ⊕-zero, zero-⊕, ⊕-lt}
use Rattle.pagecode.proofs.Laws.{⊗-comm, ⊗-assoc, ⊗-lt, ⊗-zero, zero-⊗, one-⊗, ⊗-one}
use Rattle.pagecode.proofs.Tables.{powers}
use Rattle.pagecode.proofs.Power.{power-lt, power-suc, power-inj, powers-at, cancel}
use Rattle.pagecode.proofs.Distance.{same, ring}
use Rattle.pagecode.proofs.Generator.{rule, ruled, nought, coefficients, coefficients-test}
use Rattle.pagecode.proofs.Division.{divisor, raised, first-raised, raised-length, raised_octet, raised_lt}

-- ---- the generator's rule, at each coefficient
ruled-at : (n c t k : ℕ) (f : List ℕ) → k + suc t ≡ length f → ruled n c f ≡ true
    → get_or f t 0 ⊗ (power k ⊕ power n) ≡ get_or (c ∷ f) t 0 ⊗ (power n ⊗ (power (suc k) ⊕ 1))
unfolding ruled
ruled-at n c t k [] h e = absurd (omega arith)
ruled-at n c zero k (d ∷ f) h e =
    subst (λ (m : ℕ). d ⊗ (power m ⊕ power n) ≡ c ⊗ (power n ⊗ (power (suc m) ⊕ 1))) long (eqb-true _ _ (and_left (rule n (length f) c d) (ruled n d f) e))
  where
    long : length f ≡ k
    long = omega arith
ruled-at n c (suc t) k (d ∷ f) h e = ruled-at n d t k f (omega arith) (and_right (rule n (length f) c d) (ruled n d f) e)

-- Table 42 without its leading 1, and with it
abbrev g : ℕ → ℕ
g i = get_or coefficients i 0

abbrev g₁ : ℕ → ℕ
g₁ t = get_or (1 ∷ coefficients) t 0

table-rule : (t k : ℕ) → k + suc t ≡ 223 → g t ⊗ (power k ⊕ power 223) ≡ g₁ t ⊗ (power 223 ⊗ (power (suc k) ⊕ 1))
table-rule t k h = ruled-at 223 1 t k coefficients (h ∙ sym (unfold coefficients in refl)) coefficients-test

-- ---- the weights, by the column of the matrix
unfoldable pub weights : List ℕ
weights =
    193 ∷ 190 ∷ 211 ∷ 181 ∷ 33 ∷ 208 ∷ 59 ∷ 38 ∷ 30 ∷ 230 ∷ 133 ∷ 183 ∷ 107 ∷ 225 ∷ 199 ∷ 126 ∷
    98 ∷ 99 ∷ 198 ∷ 87 ∷ 148 ∷ 148 ∷ 17 ∷ 159 ∷ 38 ∷ 85 ∷ 252 ∷ 61 ∷ 191 ∷ 247 ∷ 233 ∷ 1 ∷
    []

-- by the steps that make a column: the last column takes none
v : ℕ → ℕ
v n = get_or weights (31 - n) 0

-- their rule, x being α^(n+224): v_(n+1) (α^223 + x) = α^224 v_n (x + 1)
weight-rule : ℕ → ℕ → Bool
weight-rule x n = eqb (v (suc n) ⊗ (9 ⊕ x)) (18 ⊗ v n ⊗ (x ⊕ 1))

weights-test : all 31 (λ n. weight-rule (get_or powers (suc n + 223) 0) n) ≡ true
unfolding weight-rule v weights powers ◌⊕◌ ◌⊗◌
weights-test = refl

power-223 : power 223 ≡ 9
power-223 = sym (powers-at 223 (lit< tt)) ∙ unfold powers in refl

power-224 : power 224 ≡ 18
power-224 = sym (powers-at 224 (lit< tt)) ∙ unfold powers in refl

weights-rule : (n : ℕ) → n < 31 → v (suc n) ⊗ (power 223 ⊕ power (suc n + 223)) ≡ power 224 ⊗ v n ⊗ (power (suc n + 223) ⊕ 1)
unfolding weight-rule
weights-rule n h =
    let x : ℕ = power (suc n + 223) in
    ap (λ (y : ℕ). v (suc n) ⊗ (y ⊕ x)) power-223
    ∙ eqb-true (v (suc n) ⊗ (9 ⊕ x)) (18 ⊗ v n ⊗ (x ⊕ 1)) is
    ∙ ap (λ (y : ℕ). y ⊗ v n ⊗ (x ⊕ 1)) (sym power-224)
  where
    is : weight-rule (power (suc n + 223)) n ≡ true
    is = subst (λ (y : ℕ). weight-rule y n ≡ true) (powers-at (suc n + 223) (omega arith)) (below 31 (λ m. weight-rule (get_or powers (suc m + 223) 0) m) weights-test n h)

v-lt : (n : ℕ) → n < 32 → v n < 256
v-lt n h = ltb-true (v n) 256 (below 32 (λ m. ltb (v m) 256) (unfold v weights in refl) n h)

-- ---- sums and products
ruleset field = (ring, ⊕-self, ⊕-self-left, ⊕-zero, zero-⊕)

doubled-sum : (a P x : ℕ) → a ⊗ (2 ⊗ P ⊕ 2 ⊗ x) ≡ 2 ⊗ (a ⊗ (P ⊕ x))
doubled-sum a P x = simp field

doubled_product : (w G N s : ℕ) → 2 ⊗ (w ⊗ (G ⊗ (N ⊗ s))) ≡ w ⊗ (G ⊗ (2 ⊗ N ⊗ s))
doubled_product w G N s = simp field

-- a step of the division, in variables: M stands for α N, one for 1, w and w' for the weights before and after it, h for the column's first octet, a for another, G for the table's
module _ (M N X one w w' h : ℕ) (turn : w' ⊗ (N ⊕ X) ≡ M ⊗ w ⊗ (X ⊕ one)) where
  first-sum : h ⊗ (N ⊕ X) ≡ w ⊗ (M ⊗ (N ⊕ one)) → (N ⊕ X) ⊗ (h ⊕ (w' ⊕ M ⊗ w)) ≡ 0
  first-sum e = split ∙ ap₂ (λ (x y : ℕ). x ⊕ (y ⊕ M ⊗ w ⊗ (N ⊕ X))) e turn ∙ gone
    where
      split : (N ⊕ X) ⊗ (h ⊕ (w' ⊕ M ⊗ w)) ≡ h ⊗ (N ⊕ X) ⊕ (w' ⊗ (N ⊕ X) ⊕ M ⊗ w ⊗ (N ⊕ X))
      split = ⊗-add-r (N ⊕ X) h (w' ⊕ M ⊗ w) ∙ ap₂ ◌⊕◌ (⊗-comm _ _) (⊗-add-r (N ⊕ X) w' (M ⊗ w) ∙ ap₂ ◌⊕◌ (⊗-comm _ _) (⊗-comm _ _))

      gone : w ⊗ (M ⊗ (N ⊕ one)) ⊕ (M ⊗ w ⊗ (X ⊕ one) ⊕ M ⊗ w ⊗ (N ⊕ X)) ≡ 0
      gone = simp field

  next-sum : (Y a G : ℕ) → h ≡ w' ⊕ M ⊗ w → a ⊗ (Y ⊕ X) ≡ w ⊗ (G ⊗ (M ⊗ (Y ⊕ one))) → (a ⊕ G ⊗ h) ⊗ (Y ⊕ X) ≡ w' ⊗ (G ⊗ (Y ⊕ N))
  next-sum Y a G first e =
      ⊗-add-l (Y ⊕ X) a (G ⊗ h)
      ∙ ap₂ (λ (x y : ℕ). x ⊕ G ⊗ y ⊗ (Y ⊕ X)) e first
      ∙ part ∙ ap (λ (x : ℕ). w' ⊗ (G ⊗ (Y ⊕ X)) ⊕ G ⊗ x) (sym turn) ∙ whole
    where
      part : w ⊗ (G ⊗ (M ⊗ (Y ⊕ one))) ⊕ G ⊗ (w' ⊕ M ⊗ w) ⊗ (Y ⊕ X) ≡ w' ⊗ (G ⊗ (Y ⊕ X)) ⊕ G ⊗ (M ⊗ w ⊗ (X ⊕ one))
      part = simp field

      whole : w' ⊗ (G ⊗ (Y ⊕ X)) ⊕ G ⊗ (w' ⊗ (N ⊕ X)) ≡ w' ⊗ (G ⊗ (Y ⊕ N))
      whole = simp field

-- ---- the columns
octet : ℕ → ℕ → ℕ
octet n i = get_or (raised divisor n) i 0

-- the column that n steps make has the form; octet i stands at x^k
abbrev Formed : ℕ → Type 0
Formed n = (i k : ℕ) → k + suc i ≡ 223 → octet n i ⊗ (power k ⊕ power (n + 223)) ≡ v n ⊗ (g i ⊗ (power k ⊕ power 223))

raise : (n : ℕ) → power (suc n + 223) ≡ 2 ⊗ power (n + 223)
raise n = ap power (suc-add n 223) ∙ power-suc (n + 223)

-- what the form says of a column that is shifted one place up
shifted : (n : ℕ) → Formed n → (t k : ℕ) → k + t ≡ 223 → octet n t ⊗ (power k ⊕ power (suc n + 223)) ≡ v n ⊗ (g₁ t ⊗ (power 224 ⊗ (power k ⊕ 1)))
unfolding octet
shifted n is t zero h =
    ap (λ (x : ℕ). x ⊗ (power 0 ⊕ power (suc n + 223))) (get_or-eq_default (raised divisor n) 0 {n = t} (omega (arith, raised-length n))) ∙ zero-⊗ _
    ∙ sym (ap (λ (x : ℕ). v n ⊗ (g₁ t ⊗ (power 224 ⊗ x))) nought ∙ ap (λ (x : ℕ). v n ⊗ (g₁ t ⊗ x)) (⊗-zero _) ∙ ap (λ (x : ℕ). v n ⊗ x) (⊗-zero _) ∙ ⊗-zero _)
shifted n is t (suc k) h =
    ap₂ (λ (x y : ℕ). octet n t ⊗ (x ⊕ y)) (power-suc k) (raise n)
    ∙ doubled-sum (octet n t) (power k) (power (n + 223))
    ∙ ap (λ (x : ℕ). 2 ⊗ x) (is t k (omega arith) ∙ ap (λ (x : ℕ). v n ⊗ x) (table-rule t k (omega arith)))
    ∙ doubled_product (v n) (g₁ t) (power 223) (power (suc k) ⊕ 1)
    ∙ ap (λ (x : ℕ). v n ⊗ (g₁ t ⊗ (x ⊗ (power (suc k) ⊕ 1)))) (sym (power-suc 223))

formed-next : (n : ℕ) → n < 31 → Formed n → Formed (suc n)
unfolding octet
formed-next n l is i k h =
    ap (λ (x : ℕ). x ⊗ (power k ⊕ X)) (raised_octet n i)
    ∙ next-sum (power 224) (power 223) X 1 (v n) (v (suc n)) (octet n 0) turn (power k) (octet n (suc i)) (g i) first (shifted n is (suc i) k h)
  where
    X : ℕ
    X = power (suc n + 223)

    turn : v (suc n) ⊗ (power 223 ⊕ X) ≡ power 224 ⊗ v n ⊗ (X ⊕ 1)
    turn = weights-rule n l

    top : octet n 0 ⊗ (power 223 ⊕ X) ≡ v n ⊗ (power 224 ⊗ (power 223 ⊕ 1))
    top = shifted n is 0 223 refl ∙ ap (λ (x : ℕ). v n ⊗ x) (one-⊗ _ (⊗-lt _ _))

    apart : power 223 ⊕ X ≢ 0
    apart z = let e : 223 ≡ suc n + 223 = power-inj 223 (suc n + 223) (lit< tt) (omega arith) (same _ _ z) in omega arith

    first : octet n 0 ≡ v (suc n) ⊕ power 224 ⊗ v n
    first =
        same _ _
        (cancel (power 223 ⊕ X) (octet n 0 ⊕ (v (suc n) ⊕ power 224 ⊗ v n)) (⊕-lt _ _ (power-lt _) (power-lt _)) apart
        (⊕-lt _ _ (raised_lt n 0) (⊕-lt _ _ (v-lt (suc n) (omega arith)) (⊗-lt _ _)))
        (first-sum (power 224) (power 223) X 1 (v n) (v (suc n)) (octet n 0) turn top))

formed : (n : ℕ) → n < 32 → Formed n
unfolding octet v weights
formed zero l i k h = ap₂ (λ (c : List ℕ) (x : ℕ). get_or c i 0 ⊗ (power k ⊕ power x)) first-raised (zero-add 223) ∙ sym (one-⊗ _ (⊗-lt _ _))
formed (suc n) l i k h = formed-next n (omega arith) (formed n (omega arith)) i k h

-- an octet of column j, r being the inverse of the sum
pub raised_formula : (n j i k r : ℕ) → n + j ≡ 31 → k + suc i ≡ 223 → Inverse (power k ⊕ power (254 - j)) r
    → r ⊗ get_or weights j 0 ⊗ (g i ⊗ (power k ⊕ 9)) ≡ get_or (raised divisor n) i 0
unfolding octet v
raised_formula n j i k r hj hk is =
    ap₂ (λ (m x : ℕ). r ⊗ get_or weights m 0 ⊗ (g i ⊗ (power k ⊕ x))) back (sym power-223)
    ∙ ap (λ (x : ℕ). x ⊗ (g i ⊗ (power k ⊕ power 223))) (⊗-comm r (v n)) ∙ ⊗-assoc (v n) r _ ∙ ap (λ (x : ℕ). v n ⊗ x) (⊗-comm r _) ∙ sym (⊗-assoc (v n) _ r)
    ∙ ap (λ (x : ℕ). x ⊗ r) (sym (formed n (omega arith) i k hk))
    ∙ ⊗-assoc (octet n i) _ r
    ∙ ap (λ (x : ℕ). octet n i ⊗ x) (ap (λ (x : ℕ). (power k ⊕ power x) ⊗ r) place ∙ is.some apart)
    ∙ ⊗-one (octet n i) (raised_lt n i)
  where
    back : j ≡ 31 - n
    back = omega arith

    place : n + 223 ≡ 254 - j
    place = omega arith

    apart : power k ⊕ power (254 - j) ≢ 0
    apart z = let e : k ≡ 254 - j = power-inj k (254 - j) (omega arith) (omega arith) (same _ _ z) in omega arith
