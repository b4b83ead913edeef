-- Where the bits of something stand in a bit string: from a place up to another.
-- Such stretches are joined and split as lists are appended, by the laws of `take` and `drop`.
use Prim.Native.Nat.{ℕ, zero, suc, ◌+◌, ◌*◌, ◌≤◌, ◌<◌}
use native.Mathlib.Nat.{add-zero, zero-add, mul-zero, mul-suc}
use native.Mathlib.Omega.{arith}
use mathlib.Core.Bool.{Bool}
use mathlib.Core.List.{List, [], ◌∷◌, ◌++◌}
use mathlib.Core.Path.{◌≡◌, refl, sym, ap, ap₂, ◌∙◌}
use lib.ListN.{length, get_or, take, drop, length-append, length-take, length-drop, take-append-drop}
use lib.Seq.{take_at, drop_at, take-add, drop-drop, take-append_seam, drop-append_seam}
use Rattle.mt1.specs.Encode.{each}

-- the bits xs stand in bs from a place up to another
pub record Span (bs : List Bool) (at : ℕ) (xs : List Bool) (end : ℕ) : Type 0 where
  pub fits : end ≤ length bs
  pub after : end ≡ at + length xs
  pub here : take (length xs) (drop at bs) ≡ xs

module _ {bs : List Bool} where
  pub span_none : {at : ℕ} → at ≤ length bs → Span bs at [] at
  span_none h = record { fits = h; after = omega arith; here = refl }

  pub span-join : {at m end : ℕ} {xs ys : List Bool} → Span bs at xs m → Span bs m ys end → Span bs at (xs ++ ys) end
  span-join {at} {m} {end} {xs} {ys} s t = record {
    fits = t.fits;
    after = omega (arith, s.after, t.after, length-append xs ys);
    here = ap (λ (k : ℕ). take k (drop at bs)) (length-append xs ys) ∙ take-add (length xs) (length ys) (drop at bs)
        ∙ ap₂ (λ (x y : List Bool). x ++ y) s.here
        (ap (take (length ys)) (drop-drop (length xs) at bs ∙ ap (λ (k : ℕ). drop k bs) (sym s.after)) ∙ t.here);
  }

  pub span-split : {at end : ℕ} (xs ys : List Bool) → Span bs at (xs ++ ys) end → Span bs at xs (at + length xs) × Span bs (at + length xs) ys end
  span-split {at} {end} xs ys s =
      let l = length-append xs ys in
      let t : List Bool = take (length xs) (drop at bs) in
      let e : t ++ take (length ys) (drop (at + length xs) bs) ≡ xs ++ ys =
      ap (λ (u : List Bool). t ++ take (length ys) u) (sym (drop-drop (length xs) at bs))
      ∙ sym (take-add (length xs) (length ys) (drop at bs)) ∙ ap (λ (k : ℕ). take k (drop at bs)) (sym l) ∙ s.here in
      let k : length t ≡ length xs = omega (arith, length-take (length xs) (drop at bs), length-drop at bs, s.fits, s.after) in (
        record {
          fits = omega (arith, s.fits, s.after);
          after = refl;
          here = sym (take_at t _ (length xs) k) ∙ ap (take (length xs)) e ∙ take-append_seam xs ys;
        },
        record {
          fits = s.fits;
          after = omega (arith, s.after);
          here = sym (drop_at t _ (length xs) k) ∙ ap (drop (length xs)) e ∙ drop-append_seam xs ys;
        },
      )

  -- ---- at the front
  pub span_rest : {xs : List Bool} {end : ℕ} → Span bs 0 xs end → bs ≡ xs ++ drop end bs
  span_rest {xs} {end} s =
      let e : end ≡ length xs = omega (arith, s.after) in
      sym (take-append-drop (length xs) bs) ∙ ap₂ (λ (x : List Bool) (k : ℕ). x ++ drop k bs) s.here (sym e)

  -- ---- one of several
  pub span-each : {A : Type 0} (f : A → List Bool) (d : A) (xs : List A) (j : ℕ) {w at end : ℕ}
      → Span bs at (each f xs) end → ((x : A) → length (f x) ≡ w) → j < length xs → Span bs (at + w * j) (f (get_or xs j d)) (at + w * j + w)
  unfolding each
  span-each f d [] j s l h = absurd (let z : ⊥ = omega arith in z)
  span-each f d (x ∷ xs) zero {w} {at} s l h = rw (mul-zero, add-zero, ← (l x)) (span-split (f x) (each f xs) s).0
  span-each f d (x ∷ xs) (suc j) {w} {at} s l h =
      let e : at + w * suc j ≡ at + length (f x) + w * j = omega (arith, l x, mul-suc w j) in
      rw e (span-each f d xs j (span-split (f x) (each f xs) s).1 l (omega arith))

pub span_front : (xs rest : List Bool) → Span (xs ++ rest) 0 xs (length xs)
span_front xs rest = record { fits = omega (arith, length-append xs rest); after = sym (zero-add (length xs)); here = take-append_seam xs rest }

pub length-each : {A : Type 0} (f : A → List Bool) (w : ℕ) → ((x : A) → length (f x) ≡ w) → (xs : List A) → length (each f xs) ≡ w * length xs
unfolding each
length-each f w l [] = sym (mul-zero w)
length-each f w l (x ∷ xs) = omega (arith, length-append (f x) (each f xs), l x, length-each f w l xs, mul-suc w (length xs))
