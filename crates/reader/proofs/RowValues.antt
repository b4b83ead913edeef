-- Values that stand: the number that is read where one does, and where a row's nth item and the fields of an item stand.
-- Bits behind bits are split as lists are, and the items of a row are all of one width.
use Prim.{tt}
use Prim.Native.Nat.{ℕ, ◌+◌, ◌*◌, ◌^◌, ◌≤◌, ◌<◌}
use native.Mathlib.Nat.{lt_of_lt_of_le, mul_comm, add_assoc}
use native.Mathlib.Omega.{arith}
use mathlib.Core.Bool.{Bool, false}
use mathlib.Core.List.{List, [], ◌∷◌, ◌++◌}
use mathlib.Core.Option.{Option, none, some}
use mathlib.Core.Path.{◌≡◌, refl, sym, ap, ◌∙◌}
use lib.ListN.{length, get_or, drop}
use lib.Seq.{get_or-take, get_or-drop}
use lib.Pow.{pow_mono}
use Rattle.bits.specs.Bits.{bits, value, number_at}
use Rattle.bits.proofs.Values.{length-bits}
use Rattle.bits.proofs.Runs.{number_fits, number_lt, number_of}
use Rattle.mt1.specs.Message.{Block}
use Rattle.mt1.specs.Encode.{each}
use Rattle.mt1.specs.Valid.{Row}
use Rattle.mt1.specs.Records.{at, part, of_system, two, widened, signed_or}
use Rattle.mt1.proofs.Spans.{Span, span-split, span-each}
use Rattle.mt1.proofs.Elements.{at-is}
use Rattle.std.specs.Prelude.{Some, None}
use Rattle.reader.specs.Steps.{Place, Stands}
use Rattle.reader.specs.Recording.{row, IfSome, Below, Within, onwards}
use Rattle.reader.proofs.InMask.{at_every}

-- a value of n bits that stands at a place
abbrev pub Value : List Bool → Place → ℕ → Option ℕ → Type 0
Value bs place n v = Stands bs place (bits n) v × Below (2 ^ n) v

-- a place is one place, and not none
pub nowhere : {q : ℕ} → ◌≡◌ {A = Place} None (Some q) → ⊥
nowhere e = let z : ◌≡◌ {A = ℕ} 0 1 = cc in omega arith

pub same-place : {p q : ℕ} → ◌≡◌ {A = Place} (Some p) (Some q) → p ≡ q
same-place e = cc

-- what stands, at the place that it has
pub stands-there : {A : Type 0} {bs : List Bool} (f : A → List Bool) {place : Place} {q : ℕ} (x : A) → place ≡ Some q → Stands bs place f (some x) → (end : ℕ) × Span bs q (f x) end
stands-there f x d s = let e : s.0 ≡ _ = same-place (sym s.1 ∙ d) in (s.2.0, rw e at s.2.1)

-- ---- numbers
module _ {bs : List Bool} where
  -- bits that stand, read as a number
  pub span-read : {from end : ℕ} (n : ℕ) (xs : List Bool) → length xs ≡ n → n ≤ 64 → Span bs from xs end → number_at bs from n ≡ value xs
  span-read {from} n xs e l s = number_fits bs from n (omega (arith, s.fits, s.after)) l ∙ ap value (rw e at s.here)

  -- and one of its bits
  pub bit-read : {from end : ℕ} (xs : List Bool) (n : ℕ) → n < length xs → Span bs from xs end → get_or bs (from + n) false ≡ get_or xs n false
  bit-read {from} xs n h s = sym (ap (λ (r : List Bool). get_or r n false) (sym s.here) ∙ get_or-take (length xs) (drop from bs) n false h ∙ get_or-drop from bs n false)

  pub number_read : {from end : ℕ} (n v : ℕ) → n ≤ 64 → v < 2 ^ n → Span bs from (bits n v) end → number_at bs from n ≡ v
  number_read {from} n v l h s = number_of bs from n v (rw (length-bits n v) at s.here) h l

module _ (bs : List Bool) where
  pub absent : {A : Type 0} (f : A → List Bool) (place : Place) (v : Option A) → place ≡ None → Stands bs place f v → v ≡ none
  absent f place none e s = refl
  absent f place (some x) e s = absurd (nowhere (sym e ∙ s.1))

  pub present : (place : Place) (n q : ℕ) (v : Option ℕ) → place ≡ Some q → n ≤ 64 → Stands bs place (bits n) v → Below (2 ^ n) v → v ≡ some (number_at bs q n)
  present place n q none d l s b = absurd (nowhere (sym s ∙ d))
  present place n q (some x) d l s b =
      let e : q ≡ s.0 = same-place (sym d ∙ s.1) in
      ap some (sym (rw e (number_read n x l b s.2.1)))

  -- a number of n bits has room in w
  pub read-lt : (place n w : ℕ) {r : ℕ} → r ≡ number_at bs place n → n ≤ w → r < 2 ^ w
  read-lt place n w e l = rw e (lt_of_lt_of_le (number_lt bs place n) (pow_mono l))

-- ---- signed values
module _ (half : ℕ) (v : Option ℕ) where
  pub signed-absent : v ≡ none → two 32768 ≡ signed_or half v
  unfolding signed_or
  signed-absent e = rw e

  pub signed-present : {x r : ℕ} → r ≡ widened half x → v ≡ some x → two r ≡ signed_or half v
  unfolding signed_or
  signed-present e f = rw (e, f)

-- a half of the values of n bits, and what such a value is below
pub half-fits : (n half x : ℕ) → n ≤ 16 → 2 * half ≡ 2 ^ n → x < 2 ^ n → (half ≤ 32768) × (x < 2 * half)
half-fits n half x l e h = (omega (arith, e, pow_mono l), rw e h)

-- ---- places further on
pub further : {place : Place} {q : ℕ} (n : ℕ) → place ≡ Some q → onwards place n ≡ Some (q + n)
further n e = rw e

pub onwards-from : {q place r : Place} (n : ℕ) → q ≡ place → r ≡ onwards q n → r ≡ onwards place n
onwards-from n e f = f ∙ ap (λ (x : Place). onwards x n) e

pub onwards-onwards : (place : Place) (a b : ℕ) → onwards (onwards place a) b ≡ onwards place (a + b)
onwards-onwards None a b = refl
onwards-onwards (Some q) a b = ap Some (add_assoc q a b)

pub within-more : (place : Place) (j k : ℕ) → Within j place → j ≤ k → Within k place
within-more None j k h l = tt
within-more (Some q) j k h l = let z : q ≤ k = omega arith in z

pub onwards-within : (place : Place) (n j k : ℕ) {r : Place} → r ≡ onwards place n → Within j place → j + n ≤ k → Within k r
onwards-within None n j k e h l = rw e tt
onwards-within (Some q) n j k e h l = rw e (let z : q + n ≤ k = omega arith in z)

-- ---- fields of what stands: the first, and the rest; the last
module _ (bs : List Bool) {A : Type 0} (P : A → Type 0) (g : A → ℕ) (n : ℕ) (h : (x : A) → P x → g x < 2 ^ n) (place : Place) where
  pub first : (rest : A → List Bool) (o : Option A) → IfSome P o → Stands bs place (λ x. bits n (g x) ++ rest x) o
      → Value bs place n (part g o) × Stands bs (onwards place n) rest o
  first rest none k s = ((s, tt), rw s)
  first rest (some x) k s =
      let t = rw (length-bits n (g x)) at (span-split (bits n (g x)) (rest x) s.2.1) in
      (((s.0, s.1, (_, t.0)), h x k), (s.0 + n, further n s.1, (_, t.1)))

  pub last : (o : Option A) → IfSome P o → Stands bs place (λ x. bits n (g x)) o → Value bs place n (part g o)
  last none k s = (s, tt)
  last (some x) k s = (s, h x k)

-- ---- items of a row
module _ (bs : List Bool) {A : Type 0} (f : A → List Bool) (w : ℕ) (P : A → Type 0) (k n : ℕ) (place : Place) (l : (x : A) → length (f x) ≡ w) (h : n < k) where
  of-list : (xs : List A) → Row k P xs → Stands bs place (each f) (some xs) → Stands bs (onwards place (n * w)) f (at xs n)
  of-list [] o s = absurd (let z : ⊥ = omega (arith, o.0) in z)
  of-list (x ∷ xs) o s =
      let i : n < length (x ∷ xs) = omega (arith, o.0) in
      rw (mul_comm n w, at-is x (x ∷ xs) n i) (s.0 + w * n, further (w * n) s.1, (_, span-each f x (x ∷ xs) n s.2.1 l i))

  pub item : (b : Option (Block (List (List A)))) (p : ℕ) → IfSome (Row k P) (row b p) → Stands bs place (each f) (row b p)
      → Stands bs (onwards place (n * w)) f (of_system b p n) × IfSome P (of_system b p n)
  unfolding of_system
  item none p o s = (rw s, tt)
  item (some b) p o s = (of-list (get_or b.body p []) o s, at_every P (get_or b.body p []) n o.1)
