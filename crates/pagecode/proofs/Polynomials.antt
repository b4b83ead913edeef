-- Polynomials as lists: the laws of `plus` and `scale`, and their lengths, elements and octets.
-- Each is an induction over the lists.
use mathlib.Core.Path.{◌≡◌, refl, sym, ap, ap₂, ◌∙◌}
use mathlib.Core.List.{List, [], ◌∷◌, ◌++◌}
use Prim.Native.Nat.{ℕ, zero, suc, ◌-◌, ◌≤◌, max}
use native.Mathlib.Nat.{suc-max-suc}
use native.Mathlib.Omega.{arith}
use lib.ListN.{length, get_or, replicate}
use Rattle.pagecode.specs.Field.{◌⊕◌, ◌⊗◌, Octets}
use Rattle.pagecode.specs.Code.{plus, scale, coefficient}
use Rattle.pagecode.proofs.Linear.{⊗-add-l, ⊗-add-r, ⊕-assoc, ⊕-comm, ⊕-self, ⊕-lt, zero-⊕, ⊕-zero}
use Rattle.pagecode.proofs.Laws.{⊗-assoc, ⊗-lt, ⊗-zero}

-- ---- lengths
pub scale-length : (c : ℕ) (f : List ℕ) → length (scale c f) ≡ length f
unfolding scale
scale-length c [] = refl
scale-length c (d ∷ f) = ap suc (scale-length c f)

pub plus-length : (f g : List ℕ) → length f ≤ length g → length (plus f g) ≡ length g
unfolding plus
plus-length [] g l = refl
plus-length (c ∷ f) [] l = absurd (omega arith)
plus-length (c ∷ f) (d ∷ g) l = ap suc (plus-length f g (omega arith))

pub plus-max : (a b : List ℕ) → length (plus a b) ≡ max (length a) (length b)
unfolding plus
plus-max [] b = omega arith
plus-max (x ∷ a) [] = omega arith
plus-max (x ∷ a) (y ∷ b) = ap suc (plus-max a b) ∙ sym (suc-max-suc (length a) (length b))

pub plus-even : (f g : List ℕ) → length f ≡ length g → length (plus f g) ≡ length f
plus-even f g e = omega (arith, plus-max f g)

-- ---- elements
pub plus-get : (f g : List ℕ) (i : ℕ) → get_or (plus f g) i 0 ≡ get_or f i 0 ⊕ get_or g i 0
unfolding plus
plus-get [] g i = sym (zero-⊕ _)
plus-get (a ∷ f) [] i = sym (⊕-zero _)
plus-get (a ∷ f) (b ∷ g) zero = refl
plus-get (a ∷ f) (b ∷ g) (suc i) = plus-get f g i

pub scale-get : (s : ℕ) (f : List ℕ) (i : ℕ) → get_or (scale s f) i 0 ≡ s ⊗ get_or f i 0
unfolding scale
scale-get s [] i = sym (⊗-zero s)
scale-get s (x ∷ f) zero = refl
scale-get s (x ∷ f) (suc i) = scale-get s f i

pub coefficient-plus : (e : ℕ) (f g : List ℕ) → length f ≡ length g → coefficient e (plus f g) ≡ coefficient e f ⊕ coefficient e g
unfolding coefficient
coefficient-plus e f g h =
    plus-get f g (length (plus f g) - suc e)
    ∙ ap₂ (λ (i j : ℕ). get_or f (i - suc e) 0 ⊕ get_or g (j - suc e) 0) (plus-even f g h) (plus-even f g h ∙ h)

pub coefficient-scale : (e s : ℕ) (f : List ℕ) → coefficient e (scale s f) ≡ s ⊗ coefficient e f
unfolding coefficient
coefficient-scale e s f = scale-get s f (length (scale s f) - suc e) ∙ ap (λ (n : ℕ). s ⊗ get_or f (n - suc e) 0) (scale-length s f)

-- ---- octets
pub scale-octets : (c : ℕ) (f : List ℕ) → Octets (scale c f)
unfolding scale
scale-octets c [] i = omega arith
scale-octets c (d ∷ f) zero = ⊗-lt c d
scale-octets c (d ∷ f) (suc i) = scale-octets c f i

pub plus-octets : (f g : List ℕ) → Octets f → Octets g → Octets (plus f g)
unfolding plus
plus-octets [] g o p i = p i
plus-octets (c ∷ f) [] o p i = o i
plus-octets (c ∷ f) (d ∷ g) o p zero = ⊕-lt c d (o 0) (p 0)
plus-octets (c ∷ f) (d ∷ g) o p (suc i) = plus-octets f g (λ k. o (suc k)) (λ k. p (suc k)) i

pub append-octets : (f g : List ℕ) → Octets f → Octets g → Octets (f ++ g)
append-octets [] g o p i = p i
append-octets (c ∷ f) g o p zero = o 0
append-octets (c ∷ f) g o p (suc i) = append-octets f g (λ k. o (suc k)) p i

pub zeros-octets : (n : ℕ) → Octets (replicate n 0)
zeros-octets zero i = omega arith
zeros-octets (suc n) zero = omega arith
zeros-octets (suc n) (suc i) = zeros-octets n i

-- ---- sums and multiples
pub plus_assoc : (a b c : List ℕ) → plus (plus a b) c ≡ plus a (plus b c)
unfolding plus
plus_assoc [] b c = refl
plus_assoc (x ∷ a) [] c = refl
plus_assoc (x ∷ a) (y ∷ b) [] = refl
plus_assoc (x ∷ a) (y ∷ b) (z ∷ c) = ap₂ (λ (u : ℕ) (l : List ℕ). u ∷ l) (⊕-assoc x y z) (plus_assoc a b c)

pub plus_comm : (a b : List ℕ) → plus a b ≡ plus b a
unfolding plus
plus_comm [] [] = refl
plus_comm [] (y ∷ b) = refl
plus_comm (x ∷ a) [] = refl
plus_comm (x ∷ a) (y ∷ b) = ap₂ (λ (u : ℕ) (l : List ℕ). u ∷ l) (⊕-comm x y) (plus_comm a b)

pub plus-swap : (a b c d : List ℕ) → plus (plus a b) (plus c d) ≡ plus (plus a c) (plus b d)
plus-swap a b c d =
    plus_assoc a b (plus c d)
    ∙ ap (plus a) (sym (plus_assoc b c d) ∙ ap (λ (l : List ℕ). plus l d) (plus_comm b c) ∙ plus_assoc c b d)
    ∙ sym (plus_assoc a c (plus b d))

pub plus-append : (a b c d : List ℕ) → length a ≡ length c → plus (a ++ b) (c ++ d) ≡ plus a c ++ plus b d
unfolding plus
plus-append [] b [] d e = refl
plus-append [] b (x ∷ c) d e = absurd (omega arith)
plus-append (x ∷ a) b [] d e = absurd (omega arith)
plus-append (x ∷ a) b (y ∷ c) d e = ap (λ (l : List ℕ). (x ⊕ y) ∷ l) (plus-append a b c d (omega arith))

pub plus-zeros : (n : ℕ) → plus (replicate n 0) (replicate n 0) ≡ replicate n 0
unfolding plus
plus-zeros zero = refl
plus-zeros (suc n) = ap₂ (λ (x : ℕ) (l : List ℕ). x ∷ l) (⊕-self 0) (plus-zeros n)

pub scale-add : (c d : ℕ) (t : List ℕ) → scale (c ⊕ d) t ≡ plus (scale c t) (scale d t)
unfolding scale plus
scale-add c d [] = refl
scale-add c d (x ∷ t) = ap₂ (λ (u : ℕ) (l : List ℕ). u ∷ l) (⊗-add-l x c d) (scale-add c d t)

pub scale-plus : (s : ℕ) (a b : List ℕ) → scale s (plus a b) ≡ plus (scale s a) (scale s b)
unfolding scale plus
scale-plus s [] b = refl
scale-plus s (x ∷ a) [] = refl
scale-plus s (x ∷ a) (y ∷ b) = ap₂ (λ (u : ℕ) (l : List ℕ). u ∷ l) (⊗-add-r s x y) (scale-plus s a b)

pub scale-scale : (s c : ℕ) (t : List ℕ) → scale (s ⊗ c) t ≡ scale s (scale c t)
unfolding scale
scale-scale s c [] = refl
scale-scale s c (x ∷ t) = ap₂ (λ (u : ℕ) (l : List ℕ). u ∷ l) (⊗-assoc s c x) (scale-scale s c t)

pub scale-append : (s : ℕ) (a b : List ℕ) → scale s (a ++ b) ≡ scale s a ++ scale s b
unfolding scale
scale-append s [] b = refl
scale-append s (x ∷ a) b = ap (λ (l : List ℕ). (s ⊗ x) ∷ l) (scale-append s a b)

pub scale-zeros : (s n : ℕ) → scale s (replicate n 0) ≡ replicate n 0
unfolding scale
scale-zeros s zero = refl
scale-zeros s (suc n) = ap₂ (λ (u : ℕ) (l : List ℕ). u ∷ l) (⊗-zero s) (scale-zeros s n)
