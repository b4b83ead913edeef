-- Lines and their multiples. A line is a row of the square, its right sides and 0; its multiple by an octet is the sum of two, by the octet's low four bits and by its high four.
-- The product is additive in its factor, and that every octet is such a sum antt computes.
use mathlib.Core.Path.{◌≡◌, refl, sym, ap, ap₂, ◌∙◌}
use mathlib.Core.List.{List, [], ◌∷◌, ◌++◌}
use Prim.Native.Nat.{ℕ, zero, suc, ◌+◌, ◌*◌, ◌/◌, ◌%◌, ◌≤◌, ◌<◌}
use native.Mathlib.Decide.{ℕ_discrete}
use native.Mathlib.Nat.{zero-lt-suc, mod-lt}
use native.Mathlib.Omega.{arith}
use lib.Bits.{bit_xor}
use lib.Dec.{eqb}
use lib.ListN.{length, get_or, set, take, drop, replicate, length-set}
use lib.Seq.{get_or-set_same, get_or-set_other, take_at, drop_at}
use borrow.Author.Tests.{eqb-true}
use borrow.Rule.Slice.PartMut.{put_mid}
use denote.Array.{Array, each}
use denote.Plain.{UInt}
use denote.Shadow.{shadow}
use mir.Syntax.{w8}
use mir.Val.{Val}
use Rattle.pagecode.specs.Field.{◌⊕◌, ◌⊗◌, double, Octets}
use Rattle.pagecode.specs.Code.{plus, scale}
use Rattle.pagecode.specs.System.{Multiples}
use Rattle.pagecode.proofs.Everywhere.{below}
use Rattle.pagecode.proofs.Laws.{⊗-low-r, zero-⊗, one-⊗}
use Rattle.pagecode.proofs.Power.{double-is}
use Rattle.pagecode.proofs.Polynomials.{plus-get, plus-even, scale-get, scale-length, scale-add, scale-scale, scale-append}
use Rattle.pagecode.proofs.Fill.{Filled, fill-next, fill-old, fill_done}
use Rattle.pagecode.proofs.Cells.{more_side}

-- ---- the loops that fill a sum and a multiple in
module _ (a b : List ℕ) (even : length a ≡ length b) where
  pub sum-next : (v : List ℕ) (j : ℕ) → j < length a → Filled a (plus a b) v j → Filled a (plus a b) (set v j (get_or v j 0 ⊕ get_or b j 0)) (j + 1)
  sum-next v j h g =
      let old = fill-old 0 a (plus a b) v j g (omega (arith, plus-even a b even)) in
      fill-next 0 a (plus a b) v j _ g (ap (λ (x : ℕ). x ⊕ get_or b j 0) old ∙ sym (plus-get a b j)) h (omega (arith, plus-even a b even))

  pub sum_done : (v : List ℕ) (j : ℕ) → length a ≤ j → Filled a (plus a b) v j → v ≡ plus a b
  sum_done v j h g = fill_done 0 a (plus a b) v j g h (omega (arith, plus-even a b even))

module _ (f : ℕ) (a : List ℕ) where
  pub scale-next : (v : List ℕ) (j m : ℕ) → j < length a → m ≡ f ⊗ get_or v j 0 → Filled a (scale f a) v j → Filled a (scale f a) (set v j m) (j + 1)
  scale-next v j m h e g =
      let old = fill-old 0 a (scale f a) v j g (omega (arith, scale-length f a)) in
      fill-next 0 a (scale f a) v j m g (e ∙ ap (λ (x : ℕ). f ⊗ x) old ∙ sym (scale-get f a j)) h (omega (arith, scale-length f a))

  pub scale-done : (v : List ℕ) (j : ℕ) → length a ≤ j → Filled a (scale f a) v j → v ≡ scale f a
  scale-done v j h g = fill_done 0 a (scale f a) v j g h (omega (arith, scale-length f a))

-- ---- small multiples
double-low : (x : ℕ) → double (x % 256) ≡ double x
unfolding double
double-low x = ap₂ (λ (u w : ℕ). bit_xor (u * 29) w) high low
  where
    high : x % 256 / 128 % 2 ≡ x / 128 % 2
    high = omega arith

    low : x % 256 * 2 % 256 ≡ x * 2 % 256
    low = omega arith

pub twice : (x : ℕ) → double x ≡ 2 ⊗ x
twice x = sym (double-low x) ∙ double-is (x % 256) (mod-lt x (zero-lt-suc 255)) ∙ ⊗-low-r 2 x

pub scale-none : (a : List ℕ) → scale 0 a ≡ replicate (length a) 0
unfolding scale
scale-none [] = refl
scale-none (x ∷ a) = ap₂ (λ (u : ℕ) (l : List ℕ). u ∷ l) (zero-⊗ x) (scale-none a)

scale_one : (a : List ℕ) → Octets a → scale 1 a ≡ a
unfolding scale
scale_one [] o = refl
scale_one (x ∷ a) o = ap₂ (λ (u : ℕ) (l : List ℕ). u ∷ l) (one-⊗ x (o 0)) (scale_one a (λ i. o (suc i)))

even_is : (v : ℕ) → v < 8 → 2 ⊗ v ≡ 2 * v
even_is v h = eqb-true (2 ⊗ v) (2 * v) (below 8 (λ y. eqb (2 ⊗ y) (2 * y)) (unfold ◌⊗◌ in refl) v h)

odd_is : (v : ℕ) → v < 8 → (2 * v) ⊕ 1 ≡ 2 * v + 1
odd_is v h = eqb-true ((2 * v) ⊕ 1) (2 * v + 1) (below 8 (λ y. eqb ((2 * y) ⊕ 1) (2 * y + 1)) (unfold ◌⊕◌ in refl) v h)

-- ---- the table of multiples: those below 2·v are there
pub record Filling (a : List ℕ) (t : List (List ℕ)) (v : ℕ) : Type 0 where
  pub low : 1 ≤ v
  pub high : v ≤ 8
  pub rows : length t ≡ 16
  pub there : (u : ℕ) → u < 2 * v → get_or t u [] ≡ scale u a

module _ (a : List ℕ) (t : List (List ℕ)) (octets : Octets a) where
  pub filling-start : length t ≡ 16 → (z : List ℕ) → z ≡ scale 0 a → Filling a (set (set t 0 z) 1 a) 1
  filling-start h z e = record { low = omega arith; high = omega arith; rows = length-set (set t 0 z) 1 a ∙ length-set t 0 z ∙ h; there = there' }
    where
      there' : (u : ℕ) → u < 2 → get_or (set (set t 0 z) 1 a) u [] ≡ scale u a
      there' zero l = get_or-set_other (set t 0 z) 1 0 a [] (omega arith) ∙ get_or-set_same t 0 z [] (omega arith) ∙ e
      there' (suc zero) l = get_or-set_same (set t 0 z) 1 a [] (omega (arith, length-set t 0 z)) ∙ sym (scale_one a octets)
      there' (suc (suc u)) l = absurd (omega arith)

  pub filling-next : (v : ℕ) (x y : List ℕ) → v < 8 → x ≡ scale 2 (get_or t v []) → y ≡ plus x a → Filling a t v → Filling a (set (set t (2 * v) x) (2 * v + 1) y) (v + 1)
  filling-next v x y h ex ey i = record {
    low = omega arith;
    high = omega arith;
    rows = length-set (set t (2 * v) x) (2 * v + 1) y ∙ length-set t (2 * v) x ∙ i.rows;
    there = λ u l. pick u l (ℕ_discrete u (2 * v + 1)) (ℕ_discrete u (2 * v));
  }
    where
      even : x ≡ scale (2 * v) a
      even = ex ∙ ap (scale 2) (i.there v (omega (arith, i.low))) ∙ sym (scale-scale 2 v a) ∙ ap (λ (c : ℕ). scale c a) (even_is v h)

      odd : y ≡ scale (2 * v + 1) a
      odd = ey ∙ ap₂ plus even (sym (scale_one a octets)) ∙ sym (scale-add (2 * v) 1 a) ∙ ap (λ (c : ℕ). scale c a) (odd_is v h)

      pick : (u : ℕ) → u < 2 * (v + 1) → Dec (u ≡ 2 * v + 1) → Dec (u ≡ 2 * v) → get_or (set (set t (2 * v) x) (2 * v + 1) y) u [] ≡ scale u a
      pick u l (yes e) d =
          ap (λ (w : ℕ). get_or (set (set t (2 * v) x) (2 * v + 1) y) w []) e
          ∙ get_or-set_same (set t (2 * v) x) (2 * v + 1) y [] (omega (arith, length-set t (2 * v) x, i.rows)) ∙ odd ∙ ap (λ (w : ℕ). scale w a) (sym e)
      pick u l (no n) (yes e) =
          get_or-set_other (set t (2 * v) x) (2 * v + 1) u y [] n ∙ ap (λ (w : ℕ). get_or (set t (2 * v) x) w []) e
          ∙ get_or-set_same t (2 * v) x [] (omega (arith, i.rows)) ∙ even ∙ ap (λ (w : ℕ). scale w a) (sym e)
      pick u l (no n) (no m) = get_or-set_other (set t (2 * v) x) (2 * v + 1) u y [] n ∙ get_or-set_other t (2 * v) u x [] m ∙ i.there u (omega arith)

pub filling-end : (a : List ℕ) (t : List (List ℕ)) (v : ℕ) → 8 ≤ v → Filling a t v → Multiples a t
filling-end a t v h i u l = i.there u (omega arith)

-- ---- two tables
nibbles : (f : ℕ) → f < 256 → (f % 16) ⊕ (f / 16) ⊗ 16 ≡ f
nibbles f h = eqb-true ((f % 16) ⊕ (f / 16) ⊗ 16) f (below 256 (λ y. eqb ((y % 16) ⊕ (y / 16) ⊗ 16) y) (unfold ◌⊕◌ ◌⊗◌ in refl) f h)

-- the second table is that of 16 times the line, which is twice its multiple by 8
module _ (l a b : List ℕ) (low high : List (List ℕ)) (line : a ≡ l) (some : Multiples a low) (next : b ≡ scale 2 (get_or low 8 [])) (more : Multiples b high) where
  sixteen : b ≡ scale 16 a
  sixteen = next ∙ ap (scale 2) (some 8 (omega arith)) ∙ sym (scale-scale 2 8 a) ∙ ap (λ (c : ℕ). scale c a) (unfold ◌⊗◌ in refl)

  pub looked-up : (f : ℕ) → f < 256 → plus (get_or low (f % 16) []) (get_or high (f / 16) []) ≡ scale f l
  looked-up f h =
      ap₂ plus (some (f % 16) (mod-lt f (zero-lt-suc 15))) (more (f / 16) (omega arith) ∙ ap (scale (f / 16)) sixteen ∙ sym (scale-scale (f / 16) 16 a))
      ∙ sym (scale-add (f % 16) ((f / 16) ⊗ 16) a) ∙ ap₂ scale (nibbles f h) line

-- ---- the parts of a line
pub lined : (x y z : List ℕ) → length x ≡ 32 → z ≡ x ++ replicate 64 0 → put_mid 32 53 z y ≡ x ++ (y ++ replicate 11 0)
lined x y z long e =
    ap (λ (u : List ℕ). put_mid 32 53 u y) e
    ∙ ap₂ ◌++◌ (take_at x (replicate 64 0) 32 long) (ap (λ (u : List ℕ). y ++ drop 53 u) (drop_at x (replicate 64 0) 32 long))

-- m is f times the line of the row x and the right sides y: what a row and right sides take by it
module _ (x y : List ℕ) (f : ℕ) (m : List ℕ) (long : length x ≡ 32) (wide : length y ≡ 53) (is : m ≡ scale f (x ++ (y ++ replicate 11 0))) where
  parts : m ≡ scale f x ++ (scale f y ++ scale f (replicate 11 0))
  parts = is ∙ scale-append f x (y ++ replicate 11 0) ∙ ap (λ (u : List ℕ). scale f x ++ u) (scale-append f y (replicate 11 0))

  pub row-takes : (a r : List ℕ) → r ≡ plus a (take 32 m) → r ≡ plus a (scale f x)
  row-takes a r e = e ∙ ap (plus a) (ap (take 32) parts ∙ take_at (scale f x) (scale f y ++ scale f (replicate 11 0)) 32 (scale-length f x ∙ long))

  pub sides-take : (s t : List ℕ) (r : ℕ) → t ≡ take (r * 53) s ++ plus (take 53 (drop 32 m)) (drop (r * 53) s) → t ≡ more_side s r f y
  sides-take s t r e =
      e
      ∙ ap (λ (u : List ℕ). take (r * 53) s ++ plus u (drop (r * 53) s))
      (ap (λ (u : List ℕ). take 53 (drop 32 u)) parts ∙ ap (take 53) (drop_at (scale f x) (scale f y ++ scale f (replicate 11 0)) 32 (scale-length f x ∙ long))
      ∙ take_at (scale f y) (scale f (replicate 11 0)) 53 (scale-length f y ∙ wide))

-- an array of rows, as its type tells
pub rows-length : (xs : List (List ℕ)) (us : List Val) → shadow (each (List ℕ) (Array (UInt w8) 32).own_val xs us) → (r : ℕ) → r < length xs → length (get_or xs r []) ≡ 32
rows-length [] us p r h = absurd (omega arith)
rows-length (x ∷ xs) [] p r h = absurd p
rows-length (x ∷ xs) (u ∷ us) p zero h = p.0.1.0.1
rows-length (x ∷ xs) (u ∷ us) p (suc r) h = rows-length xs us p.1 r (omega arith)
