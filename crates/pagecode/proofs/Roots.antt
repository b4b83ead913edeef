-- A code word has the roots α^1 to α^223.
-- Its value there is that of a multiple of the generator, which has them by definition.
use mathlib.Core.Path.{◌≡◌, refl, sym, ap, ap₂, ◌∙◌, subst}
use mathlib.Core.List.{List, [], ◌∷◌, ◌++◌}
use mathlib.Core.Logic.{◌⊎◌, inl, inr}
use Prim.Native.Nat.{ℕ, zero, suc, ◌+◌, ◌*◌, ◌≤◌, ◌<◌}
use native.Mathlib.Nat.{mul-suc, mul-zero, eq-or-lt_of_le}
use native.Mathlib.Omega.{arith}
use lib.ListN.{length, drop, replicate, length-append, length-replicate}
use Rattle.pagecode.specs.Field.{◌⊕◌, ◌⊗◌, power, Octets}
use Rattle.pagecode.specs.Code.{plus, scale, times_root, generator, remainder, codeword}
use Rattle.pagecode.proofs.Linear.{⊗-add-l, ⊗-add-r, ⊕-assoc, ⊕-self, ⊕-lt, zero-⊕, ⊕-zero, swap}
use Rattle.pagecode.proofs.Laws.{⊗-comm, ⊗-assoc, ⊗-lt, ⊗-zero, zero-⊗, ⊗-one}
use Rattle.pagecode.proofs.Power.{power-add}
use Rattle.pagecode.proofs.Polynomials.{scale-length, plus-length, scale-octets, plus-octets, append-octets, zeros-octets}
use Rattle.pagecode.proofs.Distance.{at}

-- the value at x by Horner's rule; a is the value of what stands before f
unfoldable pub horner : ℕ → ℕ → List ℕ → ℕ
horner x a [] = a
horner x a (c ∷ f) = horner x (a ⊗ x ⊕ c) f

unfoldable pub value : ℕ → List ℕ → ℕ
unfolding horner
value x f = horner x 0 f

-- ---- Horner's rule and the sum of powers
horner-at : (i a : ℕ) (f : List ℕ) → a < 256 → Octets f → horner (power i) a f ≡ a ⊗ power (i * length f) ⊕ at i f
unfolding horner at
horner-at i a [] h o = sym (ap (λ (n : ℕ). a ⊗ power n ⊕ 0) (mul-zero i) ∙ unfold power in (⊕-zero _ ∙ ⊗-one a h))
horner-at i a (c ∷ f) h o =
    horner-at i (a ⊗ power i ⊕ c) f (⊕-lt _ c (⊗-lt a _) (o 0)) (λ k. o (suc k))
    ∙ ap (λ (y : ℕ). y ⊕ at i f) (⊗-add-l (power (i * length f)) (a ⊗ power i) c)
    ∙ ⊕-assoc _ _ _
    ∙ ap (λ (y : ℕ). y ⊕ (c ⊗ power (i * length f) ⊕ at i f))
    (⊗-assoc a _ _ ∙ ap (λ (y : ℕ). a ⊗ y) (⊗-comm _ _ ∙ sym (power-add (i * length f) i) ∙ ap power (sym (mul-suc i (length f)))))

pub value-at : (i : ℕ) (f : List ℕ) → Octets f → value (power i) f ≡ at i f
unfolding value
value-at i f o = horner-at i 0 f (omega arith) o ∙ ap (λ (y : ℕ). y ⊕ at i f) (zero-⊗ _) ∙ zero-⊕ _

-- ---- Horner's rule is additive
horner-append : (x a : ℕ) (f g : List ℕ) → horner x a (f ++ g) ≡ horner x (horner x a f) g
unfolding horner
horner-append x a [] g = refl
horner-append x a (c ∷ f) g = horner-append x (a ⊗ x ⊕ c) f g

horner-scale : (x c a : ℕ) (f : List ℕ) → horner x (c ⊗ a) (scale c f) ≡ c ⊗ horner x a f
unfolding horner scale
horner-scale x c a [] = refl
horner-scale x c a (d ∷ f) = ap (λ (y : ℕ). horner x y (scale c f)) (ap (λ (y : ℕ). y ⊕ c ⊗ d) (⊗-assoc c a x) ∙ sym (⊗-add-r c (a ⊗ x) d)) ∙ horner-scale x c (a ⊗ x ⊕ d) f

mix : (a b c d x : ℕ) → (a ⊕ b) ⊗ x ⊕ (c ⊕ d) ≡ (a ⊗ x ⊕ c) ⊕ (b ⊗ x ⊕ d)
mix a b c d x = ap (λ (y : ℕ). y ⊕ (c ⊕ d)) (⊗-add-l x a b) ∙ swap _ _ c d

pub horner-plus : (x a b : ℕ) (f g : List ℕ) → length f ≡ length g → horner x (a ⊕ b) (plus f g) ≡ horner x a f ⊕ horner x b g
unfolding horner plus
horner-plus x a b [] [] e = refl
horner-plus x a b [] (d ∷ g) e = absurd (omega arith)
horner-plus x a b (c ∷ f) [] e = absurd (omega arith)
horner-plus x a b (c ∷ f) (d ∷ g) e = ap (λ (y : ℕ). horner x y (plus f g)) (mix a b c d x) ∙ horner-plus x (a ⊗ x ⊕ c) (b ⊗ x ⊕ d) f g (omega arith)

-- a polynomial with the root x, its front added, changes nothing
horner-take : (x a b : ℕ) (u f : List ℕ) → horner x b u ≡ 0 → length u ≤ length f → horner x (b ⊕ a) (plus u f) ≡ horner x a f
unfolding horner plus
horner-take x a b [] f z l = ap (λ (y : ℕ). horner x (y ⊕ a) f) z ∙ ap (λ (y : ℕ). horner x y f) (zero-⊕ a)
horner-take x a b (d ∷ u) [] z l = absurd (omega arith)
horner-take x a b (d ∷ u) (c ∷ f) z l = ap (λ (y : ℕ). horner x y (plus u f)) (mix b a d c x) ∙ horner-take x (a ⊗ x ⊕ c) (b ⊗ x ⊕ d) u f z (omega arith)

-- ---- the generator
snoc-length : (f : List ℕ) → length (f ++ (0 ∷ [])) ≡ suc (length f)
snoc-length f = omega (arith, length-append f (0 ∷ []))

root-length : (r : ℕ) (f : List ℕ) → length (times_root r f) ≡ suc (length f)
unfolding times_root
root-length r f = plus-length (f ++ (0 ∷ [])) (0 ∷ scale r f) (omega (arith, snoc-length f, scale-length r f)) ∙ ap suc (scale-length r f)

root-value : (x r : ℕ) (f : List ℕ) → value x (times_root r f) ≡ (x ⊕ r) ⊗ value x f
unfolding times_root value horner
root-value x r f =
    ap (λ (y : ℕ). horner x y (plus (f ++ (0 ∷ [])) (0 ∷ scale r f))) (sym (⊕-self 0))
    ∙ horner-plus x 0 0 (f ++ (0 ∷ [])) (0 ∷ scale r f) (snoc-length f ∙ ap suc (sym (scale-length r f)))
    ∙ ap₂ ◌⊕◌ (horner-append x 0 f (0 ∷ []) ∙ ⊕-zero _ ∙ ⊗-comm _ x)
    (ap (λ (y : ℕ). horner x y (scale r f)) (⊕-zero _ ∙ zero-⊗ x ∙ sym (⊗-zero r)) ∙ horner-scale x r 0 f)
    ∙ sym (⊗-add-l (horner x 0 f) x r)

pub generator-length : (n : ℕ) → length (generator n) ≡ suc n
unfolding generator
generator-length zero = refl
generator-length (suc n) = root-length (power (suc n)) (generator n) ∙ ap suc (generator-length n)

pub generator-root : (n i : ℕ) → i < n → value (power (suc i)) (generator n) ≡ 0
unfolding generator
generator-root zero i h = absurd (omega arith)
generator-root (suc n) i h =
    root-value (power (suc i)) (power (suc n)) (generator n) ∙ pick (λ l. generator-root n i l) (eq-or-lt_of_le (omega arith))
  where
    pick : (i < n → value (power (suc i)) (generator n) ≡ 0) → (i ≡ n) ⊎ (i < n) → (power (suc i) ⊕ power (suc n)) ⊗ value (power (suc i)) (generator n) ≡ 0
    pick ih (inl e) = ap (λ (y : ℕ). (power (suc y) ⊕ power (suc n)) ⊗ value (power (suc i)) (generator n)) e ∙ ap (λ (y : ℕ). y ⊗ value (power (suc i)) (generator n)) (⊕-self _) ∙ zero-⊗ _
    pick ih (inr l) = ap (λ (y : ℕ). (power (suc i) ⊕ power (suc n)) ⊗ y) (ih l) ∙ ⊗-zero _

-- the leading coefficient is 1
pub tail : ℕ → List ℕ
tail n = drop 1 (generator n)

root_monic : (r : ℕ) (f t : List ℕ) → f ≡ 1 ∷ t → times_root r f ≡ 1 ∷ drop 1 (times_root r f)
unfolding times_root plus
root_monic r f t e =
    subst (λ (g : List ℕ). times_root r g ≡ 1 ∷ drop 1 (times_root r g)) (sym e)
    (ap (λ (y : ℕ). y ∷ plus (t ++ (0 ∷ [])) (scale r (1 ∷ t))) (⊕-zero 1))

pub generator-monic : (n : ℕ) → generator n ≡ 1 ∷ tail n
unfolding generator tail
generator-monic zero = refl
generator-monic (suc n) = root_monic (power (suc n)) (generator n) (tail n) (generator-monic n)

pub tail-length : (n : ℕ) → length (tail n) ≡ n
tail-length n = omega (arith, ap length (generator-monic n), generator-length n)

pub tail_root : (n i : ℕ) → i < n → horner (power (suc i)) 1 (tail n) ≡ 0
unfolding value horner
tail_root n i h =
    ap (λ (y : ℕ). horner (power (suc i)) y (tail n)) (sym (ap (λ (y : ℕ). y ⊕ 1) (zero-⊗ (power (suc i))) ∙ zero-⊕ 1))
    ∙ ap (value (power (suc i))) (sym (generator-monic n)) ∙ generator-root n i h

-- ---- division, of a polynomial that is long enough, keeps octets and the value at a root of the divisor, and takes n places
module _ (t : List ℕ) where
  fits : (n c : ℕ) (f : List ℕ) → suc n + length t ≤ suc (length f) → length (scale c t) ≤ length f
  fits n c f l = omega (arith, scale-length c t)

  next : (n c : ℕ) (f : List ℕ) → suc n + length t ≤ suc (length f) → n + length t ≤ length (plus (scale c t) f)
  next n c f l = omega (arith, plus-length (scale c t) f (fits n c f l))

  remainder-octets : (n : ℕ) (f : List ℕ) → Octets f → Octets (remainder n t f)
  unfolding remainder
  remainder-octets zero f o = o
  remainder-octets (suc n) [] o = o
  remainder-octets (suc n) (c ∷ f) o = remainder-octets n (plus (scale c t) f) (plus-octets (scale c t) f (scale-octets c t) (λ k. o (suc k)))

  remainder-length : (n : ℕ) (f : List ℕ) → n + length t ≤ length f → n + length (remainder n t f) ≡ length f
  unfolding remainder
  remainder-length zero f l = omega arith
  remainder-length (suc n) [] l = absurd (omega arith)
  remainder-length (suc n) (c ∷ f) l = omega (arith, remainder-length n (plus (scale c t) f) (next n c f l), plus-length (scale c t) f (fits n c f l))

  remainder-value : (x : ℕ) → horner x 1 t ≡ 0 → (n : ℕ) (f : List ℕ) → Octets f → n + length t ≤ length f → value x (remainder n t f) ≡ value x f
  unfolding remainder value horner
  remainder-value x root zero f o l = refl
  remainder-value x root (suc n) [] o l = refl
  remainder-value x root (suc n) (c ∷ f) o l =
      remainder-value x root n (plus (scale c t) f) (plus-octets (scale c t) f (scale-octets c t) (λ k. o (suc k))) (next n c f l)
      ∙ ap (λ (y : ℕ). horner x y (plus (scale c t) f)) (sym (⊕-self c))
      ∙ horner-take x c c (scale c t) f (ap (λ (y : ℕ). horner x y (scale c t)) (sym (⊗-one c (o 0))) ∙ horner-scale x c 1 t ∙ ap (λ (y : ℕ). c ⊗ y) root ∙ ⊗-zero c) (fits n c f l)
      ∙ ap (λ (y : ℕ). horner x y f) (sym (ap (λ (y : ℕ). y ⊕ c) (zero-⊗ x) ∙ zero-⊕ c))

-- ---- the code word
pub parity : List ℕ → List ℕ
parity c = remainder (length c) (drop 1 (generator 223)) (c ++ replicate 223 0)

pub codeword-is : (c : List ℕ) → codeword c ≡ c ++ parity c
unfolding codeword parity
codeword-is c = refl

padded : (c : List ℕ) → length (c ++ replicate 223 0) ≡ length c + 223
padded c = length-append c (replicate 223 0) ∙ ap (λ (n : ℕ). length c + n) (length-replicate {A = ℕ} 223 0)

room : (c : List ℕ) → length c + length (tail 223) ≤ length (c ++ replicate 223 0)
room c = omega (arith, padded c, tail-length 223)

pub parity-length : (c : List ℕ) → length (parity c) ≡ 223
unfolding parity tail
parity-length c = omega (arith, remainder-length (tail 223) (length c) (c ++ replicate 223 0) (room c), padded c)

pub parity-octets : (c : List ℕ) → Octets c → Octets (parity c)
unfolding parity tail
parity-octets c o = remainder-octets (tail 223) (length c) (c ++ replicate 223 0) (append-octets c (replicate 223 0) o (zeros-octets 223))

-- f followed by g is f followed by zeros, and g added
plus-zeros : (x n : ℕ) (g : List ℕ) → length g ≡ n → (a b : ℕ) → horner x (a ⊕ b) g ≡ horner x a (replicate n 0) ⊕ horner x b g
unfolding horner
plus-zeros x zero [] e a b = refl
plus-zeros x (suc n) [] e a b = absurd (omega arith)
plus-zeros x zero (c ∷ g) e a b = absurd (omega arith)
plus-zeros x (suc n) (c ∷ g) e a b =
    ap (λ (y : ℕ). horner x y g) (ap (λ (y : ℕ). (a ⊕ b) ⊗ x ⊕ y) (sym (zero-⊕ c)) ∙ mix a b 0 c x) ∙ plus-zeros x n g (omega arith) (a ⊗ x ⊕ 0) (b ⊗ x ⊕ c)

pub codeword-root : (c : List ℕ) → Octets c → (i : ℕ) → i < 223 → value (power (suc i)) (codeword c) ≡ 0
unfolding value parity tail
codeword-root c o i h =
    let x : ℕ = power (suc i) in
    let rest : value x (parity c) ≡ value x (c ++ replicate 223 0) = remainder-value (tail 223) x (tail_root 223 i h) (length c) (c ++ replicate 223 0) (append-octets c (replicate 223 0) o (zeros-octets 223)) (room c) in
    ap (value x) (codeword-is c) ∙ horner-append x 0 c (parity c)
    ∙ ap (λ (y : ℕ). horner x y (parity c)) (sym (⊕-zero (horner x 0 c)))
    ∙ plus-zeros x 223 (parity c) (parity-length c) (horner x 0 c) 0
    ∙ ap₂ ◌⊕◌ (sym (horner-append x 0 c (replicate 223 0))) rest
    ∙ ⊕-self _

pub generator-octets : (n : ℕ) → Octets (generator n)
unfolding generator times_root
generator-octets zero zero = omega arith
generator-octets zero (suc i) = omega arith
generator-octets (suc n) i =
    plus-octets (generator n ++ (0 ∷ [])) (0 ∷ scale (power (suc n)) (generator n)) (append-octets (generator n) (0 ∷ []) (generator-octets n) (zeros-octets 1))
    (append-octets (0 ∷ []) (scale (power (suc n)) (generator n)) (zeros-octets 1) (scale-octets (power (suc n)) (generator n))) i
