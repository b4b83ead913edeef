-- Table 42 is the generator. A rule ties each coefficient to the next: with N = α^n, (x - N) g(αx) = N (x - 1) g(x), so
-- g_j (α^j - N) = g_(j+1) N (α^(j+1) - 1). The rule gives the roots one after another, and the roots and the leading 1 the polynomial.
use mathlib.Core.Path.{◌≡◌, refl, sym, ap, ap₂, ◌∙◌, subst}
use mathlib.Core.Bool.{Bool, true, ◌&&◌}
use mathlib.Core.List.{List, [], ◌∷◌, ◌++◌, reverse}
use mathlib.Core.Logic.{◌≢◌}
use Prim.Native.Nat.{ℕ, zero, suc, ◌*◌, ◌<◌}
use native.Mathlib.Nat.{mul-suc}
use native.Mathlib.Omega.{arith}
use lib.Dec.{eqb, ltb, lit<}
use borrow.Author.Tests.{eqb-true, ltb-true}
use lib.Pow.{are_bytes}
use lib.ListN.{length, drop, replicate}
use Rattle.pagecode.specs.Field.{◌⊕◌, ◌⊗◌, power, Octets}
use Rattle.pagecode.specs.Code.{plus, generator, remainder, codeword}
use Rattle.pagecode.specs.Table42.{table42}
use Rattle.lists.proofs.Tests.{and_left, and_right}
use Rattle.pagecode.proofs.Linear.{⊗-add-l, ⊕-self, ⊕-lt, ⊕-zero, swap}
use Rattle.pagecode.proofs.Laws.{⊗-lt, ⊗-zero, zero-⊗}
use Rattle.pagecode.proofs.Power.{power-lt, power-add, power-inj, cancel}
use Rattle.pagecode.proofs.Distance.{at, same, ring, distance, power-next}
use Rattle.pagecode.proofs.Polynomials.{plus-octets, plus-length}
use Rattle.pagecode.proofs.Roots.{value-at, generator-root, generator-monic, tail, tail-length, generator-octets}
use Rattle.pagecode.proofs.Unique.{plus-same, weight-le}

abbrev pub rule : ℕ → ℕ → ℕ → ℕ → Bool
rule n j c d = eqb (d ⊗ (power j ⊕ power n)) (c ⊗ (power n ⊗ (power (suc j) ⊕ 1)))

unfoldable pub ruled : ℕ → ℕ → List ℕ → Bool
ruled n c [] = true
ruled n c (d ∷ f) = rule n (length f) c d && ruled n d f

-- d q ((X + N) P + N (X + 1) + N (P + 1)) is d q (P + N) X
regroup : (X N P d q A B : ℕ) → (X ⊕ N) ⊗ (d ⊗ (q ⊗ P) ⊕ A) ⊕ N ⊗ (X ⊕ 1) ⊗ (d ⊗ q ⊕ B) ≡ d ⊗ (P ⊕ N) ⊗ (q ⊗ X) ⊕ (d ⊗ (N ⊗ (P ⊕ 1)) ⊗ q ⊕ ((X ⊕ N) ⊗ A ⊕ N ⊗ (X ⊕ 1) ⊗ B))
regroup X N P d q A B = simp ring

pub nought : power 0 ⊕ 1 ≡ 0
unfolding power
nought = ⊕-self 1

at_lt : (i : ℕ) (f : List ℕ) → at i f < 256
unfolding at
at_lt i [] = omega arith
at_lt i (c ∷ f) = ⊕-lt _ _ (⊗-lt c _) (at_lt i f)

module _ (n i : ℕ) where
  -- what the two sides differ by, over the coefficients below one c
  telescope : (c : ℕ) (f : List ℕ) → (ruled n c f ≡ true)
      → (power i ⊕ power n) ⊗ at (suc i) f ⊕ power n ⊗ (power i ⊕ 1) ⊗ at i f ≡ c ⊗ (power n ⊗ (power (length f) ⊕ 1)) ⊗ power (i * length f)
  unfolding at ruled
  telescope c [] t = ap₂ ◌⊕◌ (⊗-zero _) (⊗-zero _) ∙ ⊕-self 0 ∙ sym (ap (λ (x : ℕ). c ⊗ (power n ⊗ x) ⊗ power (i * 0)) nought ∙ ap (λ (x : ℕ). c ⊗ x ⊗ power (i * 0)) (⊗-zero _) ∙ ap (λ (x : ℕ). x ⊗ power (i * 0)) (⊗-zero c) ∙ zero-⊗ _)
  telescope c (d ∷ f) t =
      let X : ℕ = power i in
      let N : ℕ = power n in
      let P : ℕ = power (length f) in
      let q : ℕ = power (i * length f) in
      ap (λ (x : ℕ). (X ⊕ N) ⊗ (d ⊗ x ⊕ at (suc i) f) ⊕ N ⊗ (X ⊕ 1) ⊗ (d ⊗ q ⊕ at i f)) (power-next i (length f))
      ∙ regroup X N P d q (at (suc i) f) (at i f)
      ∙ ap (λ (x : ℕ). d ⊗ (P ⊕ N) ⊗ (q ⊗ X) ⊕ (d ⊗ (N ⊗ (P ⊕ 1)) ⊗ q ⊕ x)) (telescope d f (and_right (rule n (length f) c d) (ruled n d f) t))
      ∙ ap (λ (x : ℕ). d ⊗ (P ⊕ N) ⊗ (q ⊗ X) ⊕ x) (⊕-self _) ∙ ⊕-zero _
      ∙ ap₂ ◌⊗◌ (eqb-true _ _ (and_left (rule n (length f) c d) (ruled n d f) t)) (sym (power-add (i * length f) i) ∙ ap power (sym (mul-suc i (length f))))

  -- at the leading coefficient 1, which stands at x^n, the two sides are equal
  balance : (f : List ℕ) → length f ≡ n → (ruled n 1 f ≡ true) → (power i ⊕ power n) ⊗ at (suc i) (1 ∷ f) ⊕ power n ⊗ (power i ⊕ 1) ⊗ at i (1 ∷ f) ≡ 0
  unfolding at
  balance f e t =
      let X : ℕ = power i in
      let P : ℕ = power (length f) in
      let N : ℕ = power n in
      let q : ℕ = power (i * length f) in
      ap (λ (x : ℕ). (X ⊕ N) ⊗ (1 ⊗ x ⊕ at (suc i) f) ⊕ N ⊗ (X ⊕ 1) ⊗ (1 ⊗ q ⊕ at i f)) (power-next i (length f))
      ∙ regroup X N P 1 q (at (suc i) f) (at i f)
      ∙ ap (λ (x : ℕ). 1 ⊗ (P ⊕ N) ⊗ (q ⊗ X) ⊕ (1 ⊗ (N ⊗ (P ⊕ 1)) ⊗ q ⊕ x)) (telescope 1 f t)
      ∙ ap₂ ◌⊕◌ (ap (λ (x : ℕ). 1 ⊗ (x ⊕ N) ⊗ (q ⊗ X)) (ap power e) ∙ ap (λ (x : ℕ). 1 ⊗ x ⊗ (q ⊗ X)) (⊕-self N) ∙ ap (λ (x : ℕ). x ⊗ (q ⊗ X)) (⊗-zero 1) ∙ zero-⊗ _) (⊕-self _)
      ∙ ⊕-self 0

step : (n i : ℕ) (f : List ℕ) → i < n → n < 255 → length f ≡ n → (ruled n 1 f ≡ true) → power n ⊗ (power i ⊕ 1) ⊗ at i (1 ∷ f) ≡ 0 → at (suc i) (1 ∷ f) ≡ 0
step n i f l h e t z =
    cancel (power i ⊕ power n) (at (suc i) (1 ∷ f)) (⊕-lt _ _ (power-lt i) (power-lt n)) apart (at_lt (suc i) (1 ∷ f)) (same _ _ (balance n i f e t) ∙ z)
  where
    apart : power i ⊕ power n ≢ 0
    apart z = let p : i ≡ n = power-inj i n (omega arith) h (same _ _ z) in omega arith

roots : (n : ℕ) (f : List ℕ) → n < 255 → length f ≡ n → (ruled n 1 f ≡ true) → (i : ℕ) → i < n → at (suc i) (1 ∷ f) ≡ 0
roots n f h e t zero l = step n 0 f l h e t (ap (λ (x : ℕ). power n ⊗ x ⊗ at 0 (1 ∷ f)) nought ∙ ap (λ (x : ℕ). x ⊗ at 0 (1 ∷ f)) (⊗-zero _) ∙ zero-⊗ _)
roots n f h e t (suc i) l = step n (suc i) f l h e t (ap (λ (x : ℕ). power n ⊗ (power (suc i) ⊕ 1) ⊗ x) (roots n f h e t i (omega arith)) ∙ ⊗-zero _)

at-plus : (i : ℕ) (f g : List ℕ) → length f ≡ length g → at i (plus f g) ≡ at i f ⊕ at i g
unfolding at plus
at-plus i [] [] e = sym (⊕-self 0)
at-plus i [] (d ∷ g) e = absurd (omega arith)
at-plus i (c ∷ f) [] e = absurd (omega arith)
at-plus i (c ∷ f) (d ∷ g) e =
    ap₂ ◌⊕◌ (ap (λ (k : ℕ). (c ⊕ d) ⊗ power (i * k)) (plus-length f g (omega arith)) ∙ ⊗-add-l _ c d) (at-plus i f g (omega arith))
    ∙ ap (λ (k : ℕ). c ⊗ power (i * k) ⊕ d ⊗ power (i * length g) ⊕ (at i f ⊕ at i g)) (sym (omega arith)) ∙ swap _ _ _ _

-- two polynomials of degree n that begin with 1 and have the same n roots in a row are equal: their sum has n coefficients
pub generator-is : (n : ℕ) (f : List ℕ) → n < 255 → length f ≡ n → Octets f → (ruled n 1 f ≡ true) → generator n ≡ 1 ∷ f
unfolding at
generator-is n f h e o t =
    generator-monic n
    ∙ ap (λ (l : List ℕ). 1 ∷ l)
    (plus-same (tail n) f (tail-length n ∙ sym e)
    (distance n (plus (tail n) f) 1 n (omega (arith, long)) (omega arith) (plus-octets (tail n) f tail-octets o) (omega (arith, long, weight-le (plus (tail n) f)))
    (λ i l. ap (λ (k : ℕ). at k (plus (tail n) f)) (omega arith) ∙ at-plus (suc i) (tail n) f (tail-length n ∙ sym e) ∙ ap₂ ◌⊕◌ (sym (same _ _ (mine i l))) (sym (same _ _ (roots n f h e t i l))) ∙ ap (λ (k : ℕ). 1 ⊗ power (suc i * k) ⊕ 1 ⊗ power (suc i * length f)) (tail-length n ∙ sym e) ∙ ⊕-self _)))
  where
    long : length (plus (tail n) f) ≡ n
    long = plus-length (tail n) f (omega (arith, tail-length n)) ∙ e

    tail-octets : Octets (tail n)
    tail-octets i = subst Octets (generator-monic n) (generator-octets n) (suc i)

    mine : (i : ℕ) → i < n → at (suc i) (1 ∷ tail n) ≡ 0
    mine i l = ap (at (suc i)) (sym (generator-monic n)) ∙ sym (value-at (suc i) (generator n) (generator-octets n)) ∙ generator-root n i l

-- ---- Table 42, the highest power first, behind the leading 1
unfoldable pub coefficients : List ℕ
unfolding table42
coefficients = drop 1 (reverse table42)

pub coefficients-test : ruled 223 1 coefficients ≡ true
unfolding ruled coefficients ◌⊕◌ ◌⊗◌ power
coefficients-test = refl

bytes : (f : List ℕ) → are_bytes f ≡ true → Octets f
bytes [] t i = omega arith
bytes (d ∷ f) t zero = ltb-true d 256 (and_left (ltb d 256) (are_bytes f) t)
bytes (d ∷ f) t (suc i) = bytes f (and_right (ltb d 256) (are_bytes f) t) i

pub generator-223 : generator 223 ≡ 1 ∷ coefficients
generator-223 = generator-is 223 coefficients (lit< tt) (unfold coefficients in refl) (bytes coefficients (unfold coefficients in refl)) coefficients-test

-- Table 42's 224 numbers are the generator's, the highest power first
pub generator-table42 : generator 223 ≡ reverse table42
unfolding coefficients
generator-table42 = generator-223

pub codeword-table : (c : List ℕ) → codeword c ≡ c ++ remainder (length c) coefficients (c ++ replicate 223 0)
unfolding codeword
codeword-table c = ap (λ (g : List ℕ). c ++ remainder (length c) (drop 1 g) (c ++ replicate 223 0)) generator-223
