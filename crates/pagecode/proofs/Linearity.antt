-- The code is linear: a page's octet of a sum of columns is the sum, and of a multiple the multiple.
-- Long division takes sums to sums and multiples to multiples.
use mathlib.Core.Path.{◌≡◌, refl, sym, ap, ap₂, ◌∙◌}
use mathlib.Core.List.{List, [], ◌∷◌, ◌++◌}
use Prim.Native.Nat.{ℕ, zero, suc, ◌+◌, ◌-◌}
use native.Mathlib.Omega.{arith}
use lib.ListN.{length, drop, replicate, length-append, length-replicate}
use Rattle.pagecode.specs.Field.{◌⊕◌, ◌⊗◌}
use Rattle.pagecode.specs.Code.{plus, scale, generator, remainder, codeword, coefficient}
use Rattle.pagecode.specs.Page.{filled, page_octet}
use Rattle.pagecode.proofs.Polynomials.{scale-length, plus-max, plus-even, plus-swap, plus-append, plus-zeros, scale-add, scale-plus, scale-scale, scale-append, scale-zeros, coefficient-plus, coefficient-scale}
use Rattle.pagecode.proofs.Roots.{codeword-is, parity, parity-length}

remainder-plus : (n : ℕ) (t f g : List ℕ) → length f ≡ length g → remainder n t (plus f g) ≡ plus (remainder n t f) (remainder n t g)
unfolding remainder plus
remainder-plus zero t f g e = refl
remainder-plus (suc n) t [] [] e = refl
remainder-plus (suc n) t [] (d ∷ g) e = absurd (omega arith)
remainder-plus (suc n) t (c ∷ f) [] e = absurd (omega arith)
remainder-plus (suc n) t (c ∷ f) (d ∷ g) e =
    ap (remainder n t) (ap (λ (l : List ℕ). plus l (plus f g)) (scale-add c d t) ∙ plus-swap (scale c t) (scale d t) f g)
    ∙ remainder-plus n t (plus (scale c t) f) (plus (scale d t) g) (omega (arith, plus-max (scale c t) f, plus-max (scale d t) g, scale-length c t, scale-length d t))

remainder-scale : (n s : ℕ) (t f : List ℕ) → remainder n t (scale s f) ≡ scale s (remainder n t f)
unfolding remainder scale
remainder-scale zero s t f = refl
remainder-scale (suc n) s t [] = refl
remainder-scale (suc n) s t (c ∷ f) =
    ap (remainder n t) (ap (λ (l : List ℕ). plus l (scale s f)) (scale-scale s c t) ∙ sym (scale-plus s (scale c t) f)) ∙ remainder-scale n s t (plus (scale c t) f)

-- with any number of zeros and any divisor, so that nothing of 223 places is written out
sys : ℕ → List ℕ → List ℕ → List ℕ
sys n t c = c ++ remainder (length c) t (c ++ replicate n 0)

padded : (n : ℕ) (c : List ℕ) → length (c ++ replicate n 0) ≡ length c + n
padded n c = omega (arith, length-append c (replicate n 0), length-replicate {A = ℕ} n 0)

sys-plus : (n : ℕ) (t c d : List ℕ) → length c ≡ length d → sys n t (plus c d) ≡ plus (sys n t c) (sys n t d)
unfolding sys
sys-plus n t c d e =
    ap (λ (l : List ℕ). plus c d ++ l)
    (ap₂ (λ (k : ℕ) (l : List ℕ). remainder k t l) (plus-even c d e) (ap (λ (l : List ℕ). plus c d ++ l) (sym (plus-zeros n)) ∙ sym (plus-append c (replicate n 0) d (replicate n 0) e))
    ∙ remainder-plus (length c) t (c ++ replicate n 0) (d ++ replicate n 0) (omega (arith, padded n c, padded n d))
    ∙ ap (λ (k : ℕ). plus (remainder (length c) t (c ++ replicate n 0)) (remainder k t (d ++ replicate n 0))) e)
    ∙ sym (plus-append c _ d _ e)

sys-scale : (n s : ℕ) (t c : List ℕ) → sys n t (scale s c) ≡ scale s (sys n t c)
unfolding sys
sys-scale n s t c =
    ap (λ (l : List ℕ). scale s c ++ l)
    (ap₂ (λ (k : ℕ) (l : List ℕ). remainder k t l) (scale-length s c) (ap (λ (l : List ℕ). scale s c ++ l) (sym (scale-zeros s n)) ∙ sym (scale-append s c (replicate n 0)))
    ∙ remainder-scale (length c) s t (c ++ replicate n 0))
    ∙ sym (scale-append s c _)

codeword-sys : (c : List ℕ) → codeword c ≡ sys 223 (drop 1 (generator 223)) c
unfolding codeword sys
codeword-sys c = refl

filled-plus : (m n : List ℕ) → length m ≡ length n → filled (plus m n) ≡ plus (filled m) (filled n)
unfolding filled
filled-plus m n e =
    ap (λ (k : ℕ). plus m n ++ replicate (32 - k) 0) (plus-even m n e) ∙ ap (λ (l : List ℕ). plus m n ++ l) (sym (plus-zeros (32 - length m)))
    ∙ sym (plus-append m _ n _ e) ∙ ap (λ (k : ℕ). plus (m ++ replicate (32 - length m) 0) (n ++ replicate (32 - k) 0)) e

filled-scale : (s : ℕ) (m : List ℕ) → filled (scale s m) ≡ scale s (filled m)
unfolding filled
filled-scale s m =
    ap (λ (k : ℕ). scale s m ++ replicate (32 - k) 0) (scale-length s m) ∙ ap (λ (l : List ℕ). scale s m ++ l) (sym (scale-zeros s (32 - length m))) ∙ sym (scale-append s m _)

filled-even : (m n : List ℕ) → length m ≡ length n → length (filled m) ≡ length (filled n)
unfolding filled
filled-even m n e = omega (arith, padded (32 - length m) m, padded (32 - length n) n)

word_even : (m n : List ℕ) → length m ≡ length n → length (codeword m) ≡ length (codeword n)
word_even m n e = omega (arith, word m, word n)
  where
    word : (c : List ℕ) → length (codeword c) ≡ length c + 223
    word c = ap length (codeword-is c) ∙ length-append c (parity c) ∙ ap (λ (n : ℕ). length c + n) (parity-length c)

pub page-plus : (m n : List ℕ) (p : ℕ) → length m ≡ length n → page_octet (plus m n) p ≡ page_octet m p ⊕ page_octet n p
unfolding page_octet
page-plus m n p e =
    ap (coefficient (255 - p))
    (ap codeword (filled-plus m n e) ∙ codeword-sys _ ∙ sys-plus 223 _ (filled m) (filled n) (filled-even m n e) ∙ sym (ap₂ plus (codeword-sys (filled m)) (codeword-sys (filled n))))
    ∙ coefficient-plus (255 - p) (codeword (filled m)) (codeword (filled n)) (word_even (filled m) (filled n) (filled-even m n e))

pub page-scale : (s : ℕ) (m : List ℕ) (p : ℕ) → page_octet (scale s m) p ≡ s ⊗ page_octet m p
unfolding page_octet
page-scale s m p =
    ap (coefficient (255 - p)) (ap codeword (filled-scale s m) ∙ codeword-sys _ ∙ sys-scale 223 s _ (filled m) ∙ sym (ap (scale s) (codeword-sys (filled m))))
    ∙ coefficient-scale (255 - p) s (codeword (filled m))
