-- A word of at most 255 octets with n roots in a row and at most n coefficients that are not 0 is 0.
-- Each root taken, and the leading coefficient with it, leaves a word with one root and one coefficient less.
use mathlib.Core.Path.{◌≡◌, refl, sym, ap, ap₂, ◌∙◌}
use mathlib.Core.List.{List, [], ◌∷◌}
use mathlib.Core.Logic.{◌≢◌}
use Prim.Native.Nat.{ℕ, zero, suc, ◌+◌, ◌*◌, ◌≤◌, ◌<◌, suc-le-suc}
use native.Mathlib.Nat.{suc-mul, add-suc}
use native.Mathlib.Omega.{arith}
use lib.ListN.{length}
use Rattle.pagecode.specs.Field.{◌⊕◌, ◌⊗◌, power, Octets}
use Rattle.pagecode.proofs.Linear.{⊗-add-l, ⊗-add-r, ⊕-assoc, ⊕-comm, ⊕-left-comm, ⊕-self, ⊕-self-left, ⊕-lt, zero-⊕, ⊕-zero}
use Rattle.pagecode.proofs.Laws.{⊗-comm, ⊗-assoc, ⊗-left-comm, ⊗-lt, ⊗-zero, zero-⊗}
use Rattle.pagecode.proofs.Power.{power-lt, power-add, power-inj, power-ne, cancel}

-- x + y = 0 is x = y
pub same : (x y : ℕ) → x ⊕ y ≡ 0 → x ≡ y
same x y e = sym (⊕-zero x) ∙ ap (λ (z : ℕ). x ⊕ z) (sym e) ∙ ⊕-self-left x y

-- the value at α^i: the sum of c·α^(i·e), e the power of x that c stands at
unfoldable pub at : ℕ → List ℕ → ℕ
at i [] = 0
at i (c ∷ f) = c ⊗ power (i * length f) ⊕ at i f

-- how many coefficients are not 0
unfoldable pub weight : List ℕ → ℕ
weight [] = 0
weight (zero ∷ f) = weight f
weight (suc c ∷ f) = suc (weight f)

-- each coefficient times α^e - x
kill : ℕ → List ℕ → List ℕ
kill x [] = []
kill x (d ∷ f) = ((power (length f) ⊕ x) ⊗ d) ∷ kill x f

kill-length : (x : ℕ) (f : List ℕ) → length (kill x f) ≡ length f
unfolding kill
kill-length x [] = refl
kill-length x (d ∷ f) = ap suc (kill-length x f)

kill-octets : (x : ℕ) (f : List ℕ) → Octets (kill x f)
unfolding kill
kill-octets x [] i = omega arith
kill-octets x (d ∷ f) zero = ⊗-lt _ d
kill-octets x (d ∷ f) (suc i) = kill-octets x f i

pub ruleset ring = (⊗-add-l, ⊗-add-r, ⊗-assoc, ⊗-comm, ⊗-left-comm, ⊕-assoc, ⊕-comm, ⊕-left-comm)

rearrange : (P q d x A B : ℕ) → (P ⊕ x) ⊗ d ⊗ q ⊕ (A ⊕ x ⊗ B) ≡ d ⊗ (q ⊗ P) ⊕ A ⊕ x ⊗ (d ⊗ q ⊕ B)
rearrange P q d x A B = simp ring

pub power-next : (i n : ℕ) → power (suc i * n) ≡ power (i * n) ⊗ power n
power-next i n = ap power (suc-mul i n) ∙ power-add (i * n) n

-- the value of what is left
kill-at : (x i : ℕ) (f : List ℕ) → at i (kill x f) ≡ at (suc i) f ⊕ x ⊗ at i f
unfolding kill at
kill-at x i [] = sym (ap (λ (y : ℕ). 0 ⊕ y) (⊗-zero x) ∙ ⊕-self 0)
kill-at x i (d ∷ f) =
    ap₂ (λ (y z : ℕ). (power (length f) ⊕ x) ⊗ d ⊗ power (i * y) ⊕ z) (kill-length x f) (kill-at x i f)
    ∙ rearrange (power (length f)) (power (i * length f)) d x (at (suc i) f) (at i f)
    ∙ ap (λ (y : ℕ). d ⊗ y ⊕ at (suc i) f ⊕ x ⊗ (d ⊗ power (i * length f) ⊕ at i f)) (sym (power-next i (length f)))

-- and what is left has no fewer coefficients that are not 0
weight-cons : (a b : ℕ) (f g : List ℕ) → (a ≡ 0 → b ≡ 0) → (b ≡ 0 → a ≡ 0) → weight f ≡ weight g → weight (a ∷ f) ≡ weight (b ∷ g)
unfolding weight
weight-cons zero zero f g p q e = e
weight-cons zero (suc b) f g p q e = absurd (omega (arith, p refl))
weight-cons (suc a) zero f g p q e = absurd (omega (arith, q refl))
weight-cons (suc a) (suc b) f g p q e = ap suc e

kill-weight : (e : ℕ) (f : List ℕ) → e < 255 → length f ≤ e → Octets f → weight (kill (power e) f) ≡ weight f
unfolding kill
kill-weight e [] h l o = refl
kill-weight e (d ∷ f) h l o =
    weight-cons ((power (length f) ⊕ power e) ⊗ d) d (kill (power e) f) f
    (cancel (power (length f) ⊕ power e) d (⊕-lt _ _ (power-lt (length f)) (power-lt e)) apart (o 0))
    (λ z. ap (λ (y : ℕ). (power (length f) ⊕ power e) ⊗ y) z ∙ ⊗-zero _)
    (kill-weight e f h (omega arith) (λ i. o (suc i)))
  where
    apart : power (length f) ⊕ power e ≢ 0
    apart z = let p : length f ≡ e = power-inj (length f) e (omega arith) h (same _ _ z) in omega arith

weightless : (i : ℕ) (f : List ℕ) → weight f ≡ 0 → at i f ≡ 0
unfolding weight at
weightless i [] e = refl
weightless i (zero ∷ f) e = ap₂ ◌⊕◌ (zero-⊗ _) (weightless i f e) ∙ ⊕-self 0
weightless i (suc c ∷ f) e = absurd (omega (arith, e))

turn : (c q P : ℕ) → c ⊗ (q ⊗ P) ⊕ P ⊗ (c ⊗ q) ≡ 0
turn c q P = ap (λ (y : ℕ). y ⊕ P ⊗ (c ⊗ q)) (simp (⊗-comm, ⊗-left-comm)) ∙ ⊕-self (P ⊗ (c ⊗ q))

left : (c j : ℕ) (f : List ℕ) → at j (c ∷ f) ≡ 0 → at (suc j) (c ∷ f) ≡ 0 → at j (kill (power (length f)) f) ≡ 0
unfolding at
left c j f y z =
    kill-at (power (length f)) j f
    ∙ ap₂ (λ (u v : ℕ). u ⊕ power (length f) ⊗ v) (sym (same _ _ z) ∙ ap (λ (u : ℕ). c ⊗ u) (power-next j (length f))) (sym (same _ _ y))
    ∙ turn c (power (j * length f)) (power (length f))

head : (c j : ℕ) (f : List ℕ) → c < 256 → at j (c ∷ f) ≡ 0 → weight f ≡ 0 → c ≡ 0
unfolding at
head c j f h y e = cancel (power (j * length f)) c (power-lt _) (power-ne _) h (⊗-comm _ c ∙ same _ _ y ∙ weightless j f e)

pub distance : (k : ℕ) (f : List ℕ) (m n : ℕ) → length f ≤ k → k ≤ 255 → Octets f → weight f ≤ n → ((i : ℕ) → i < n → at (m + i) f ≡ 0) → weight f ≡ 0
unfolding weight at
distance zero [] m n l h o w z = refl
distance zero (c ∷ f) m n l h o w z = absurd (omega arith)
distance (suc k) [] m n l h o w z = refl
distance (suc k) (zero ∷ f) m n l h o w z =
    distance k f m n (omega arith) (omega arith) (λ i. o (suc i)) w (λ i j. sym (ap (λ (y : ℕ). y ⊕ at (m + i) f) (zero-⊗ _) ∙ zero-⊕ _) ∙ z i j)
distance (suc k) (suc c ∷ f) m zero l h o w z = absurd (omega arith)
distance (suc k) (suc c ∷ f) m (suc n) l h o w z =
    let same-weight : weight (kill (power (length f)) f) ≡ weight f = kill-weight (length f) f (omega arith) (omega arith) (λ i. o (suc i)) in
    let rest : weight (kill (power (length f)) f) ≡ 0 = distance k (kill (power (length f)) f) m n (omega (arith, kill-length (power (length f)) f)) (omega arith)
    (kill-octets _ f) (omega arith) (λ i j. left (suc c) (m + i) f (z i (omega arith)) (ap (λ (y : ℕ). at y (suc c ∷ f)) (sym (add-suc m i)) ∙ z (suc i) (suc-le-suc j))) in
    absurd (omega (arith, head (suc c) (m + 0) f (o 0) (z 0 (omega arith)) (sym same-weight ∙ rest)))
