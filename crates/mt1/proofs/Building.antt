-- What is built, `build n f`: what holds of it, how long it is, its first, and what is built of the places that a mask marks, or of rows.
-- By induction on the number; at each place that is marked the next comes, so there are as many as are marked.
use Prim.Native.Nat.{ℕ, zero, suc, ◌+◌, ◌*◌, ◌≤◌, ◌<◌}
use native.Mathlib.Nat.{add-zero, zero-add, add-suc, zero-mul, suc-mul, mul-suc}
use native.Mathlib.Numerals.{add-one}
use native.Mathlib.Omega.{arith}
use mathlib.Core.Bool.{Bool, false, cond}
use mathlib.Core.List.{List, [], ◌∷◌, ◌++◌, append_assoc, append-nil}
use mathlib.Core.Option.{some}
use mathlib.Core.Path.{◌≡◌, refl, sym, ap, ap₂, ◌∙◌}
use lib.ListN.{length, get_or, take, drop, length-append}
use lib.Seq.{take-add}
use Rattle.lists.proofs.Tests.{on_bool}
use Rattle.mt1.specs.Message.{count_before}
use Rattle.mt1.specs.Encode.{each}
use Rattle.mt1.specs.Records.{at, build}
use Rattle.mt1.proofs.Counts.{count_next}

module _ {A : Type 0} where
  -- what holds of each, and of two behind each other
  pub build-holds : (P : List A → Type 0) → P [] → ((a b : List A) → P a → P b → P (a ++ b)) → (f : ℕ → List A) → ((i : ℕ) → P (f i)) → (n : ℕ) → P (build n f)
  unfolding build
  build-holds P none join f each zero = none
  build-holds P none join f each (suc n) = join (build n f) (f n) (build-holds P none join f each n) (each n)

  pub build-le : (n k : ℕ) (f : ℕ → List A) → ((i : ℕ) → length (f i) ≤ k) → length (build n f) ≤ k * n
  unfolding build
  build-le zero k f h = omega arith
  build-le (suc n) k f h = omega (arith, length-append (build n f) (f n), build-le n k f h, h n, mul-suc k n)

  pub build-next : (n : ℕ) (f : ℕ → List A) → build (n + 1) f ≡ build n f ++ f n
  unfolding build
  build-next n f = ap (λ (k : ℕ). build k f) (add-one n)

  pub build-ext : (n : ℕ) (f g : ℕ → List A) → ((i : ℕ) → i < n → f i ≡ g i) → build n f ≡ build n g
  unfolding build
  build-ext zero f g h = refl
  build-ext (suc n) f g h = ap₂ (λ (a b : List A). a ++ b) (build-ext n f g (λ i l. h i (omega arith))) (h n (omega arith))

  pub build-empty : (n : ℕ) → ◌≡◌ {A = List A} (build n (λ i. [])) []
  unfolding build
  build-empty zero = refl
  build-empty (suc n) = rw (build-empty n)

  build-first : (n : ℕ) (f : ℕ → List A) → build (suc n) f ≡ f 0 ++ build n (λ i. f (suc i))
  unfolding build
  build-first zero f = sym (append-nil (f 0))
  build-first (suc n) f = ap (λ (r : List A). r ++ f (suc n)) (build-first n f) ∙ append_assoc (f 0) (build n (λ i. f (suc i))) (f (suc n))

  -- from a place on
  pub build-from : (g n : ℕ) (f : ℕ → List A) → build (suc n) (λ k. f (g + k)) ≡ f g ++ build n (λ k. f (suc g + k))
  build-from g n f =
      build-first n (λ k. f (g + k))
      ∙ ap₂ (λ (a b : List A). a ++ b) (ap f (add-zero g))
      (build-ext n (λ k. f (g + suc k)) (λ k. f (suc g + k)) (λ k h. let e : g + suc k ≡ suc g + k = omega arith in ap f e))

  pub from_zero : (n : ℕ) (f : ℕ → List A) → build n f ≡ build n (λ k. f (0 + k))
  from_zero n f = build-ext n f (λ k. f (0 + k)) (λ k h. ap f (sym (zero-add k)))

  build-add : (a b : ℕ) (f : ℕ → List A) → build (a + b) f ≡ build a f ++ build b (λ k. f (a + k))
  unfolding build
  build-add a zero f = rw add-zero (sym (append-nil (build a f)))
  build-add a (suc b) f = rw add-suc (ap (λ (l : List A). l ++ f (a + b)) (build-add a b f) ∙ append_assoc (build a f) (build b (λ k. f (a + k))) (f (a + b)))

  -- rows of w, one behind another
  pub build-rows : (n w : ℕ) (f : ℕ → List A) → build n (λ j. build w (λ k. f (j * w + k))) ≡ build (n * w) f
  unfolding build
  build-rows zero w f = rw zero-mul
  build-rows (suc n) w f = rw suc-mul (ap (λ (l : List A). l ++ build w (λ k. f (n * w + k))) (build-rows n w f) ∙ sym (build-add (n * w) w f))

  pub take-rows : (n w : ℕ) (l : List A) → build n (λ j. take w (drop (j * w) l)) ≡ take (n * w) l
  unfolding build
  take-rows zero w l = rw zero-mul
  take-rows (suc n) w l = rw suc-mul (ap (λ (r : List A). r ++ take w (drop (n * w) l)) (take-rows n w l) ∙ sym (take-add (n * w) w l))

  -- at each place that is marked, the next
  pub picked : (bs : List Bool) (n : ℕ) (f : ℕ → List A) → build n (λ i. cond (get_or bs i false) (f (count_before bs i)) []) ≡ build (count_before bs n) f
  unfolding build count_before
  picked bs zero f = refl
  picked bs (suc n) f =
      let e = count_next bs n in
      let p = picked bs n f in
      on_bool (get_or bs n false)
      (λ q. let d : count_before bs (suc n) ≡ suc (count_before bs n) = omega (arith, rw q at e) in rw (q, d) (ap (λ (r : List A). r ++ f (count_before bs n)) p))
      (λ q. let d : count_before bs (suc n) ≡ count_before bs n = omega (arith, rw q at e) in rw (q, d) (append-nil _ ∙ p))

-- of each of a list
pub build-each : {A : Type 0} (f : A → List Bool) (xs : List A) (g : ℕ → List Bool) → ((i : ℕ) (x : A) → at xs i ≡ some x → g i ≡ f x) → build (length xs) g ≡ each f xs
unfolding each at build
build-each f [] g h = refl
build-each f (x ∷ xs) g h = build-first (length xs) g ∙ ap₂ (λ (a b : List Bool). a ++ b) (h 0 x refl) (build-each f xs (λ i. g (suc i)) (λ i y e. h (suc i) y e))

pub build-bits : (bs : List Bool) → build (length bs) (λ i. get_or bs i false ∷ []) ≡ bs
unfolding build
build-bits [] = refl
build-bits (b ∷ bs) = build-first (length bs) (λ i. get_or (b ∷ bs) i false ∷ []) ∙ ap {B = List Bool} (λ r. b ∷ r) (build-bits bs)
