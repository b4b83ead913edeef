-- What a field and a run of bits answer by what the code tests, and what an answer tells of the parser's outcome.
-- A field is read where it fits, and is SHORT elsewhere; an outcome is got or bad, and its answer says which; a bit more in a run adds what it is.
use Prim.Native.Nat.{ℕ, ◌+◌, ◌≤◌, ◌<◌}
use native.Mathlib.Numerals.{add-one}
use native.Mathlib.Omega.{arith}
use mathlib.Core.Bool.{Bool, true, false, ◌&&◌}
use mathlib.Core.List.{List}
use mathlib.Core.Logic.{◌⊎◌, inl, inr}
use mathlib.Core.Option.{Option, none, some}
use mathlib.Core.Path.{◌≡◌, refl, ap, ◌∙◌}
use lib.Dec.{leb}
use lib.ListN.{length, get_or, take, drop, length-take}
use borrow.Author.Tests.{leb-true, le-leb, lt-leb}
use Rattle.bits.specs.Bits.{num, fits_in, number_at}
use Rattle.bits.proofs.Runs.{number_fits}
use Rattle.lists.proofs.Tests.{on_bool}
use Rattle.std.specs.Prelude.{Result, Ok, Err}
use Rattle.std.specs.Result.{IsErrAnd}
use Rattle.std.proofs.lemmas.Result.{err_from_is_err_and}
use Rattle.refusal.specs.declared.Refusal.{Refusal}
use Rattle.refusal.specs.declared.Refusal.TheVariants as refusal
use Rattle.mt1.specs.declared.answer.RefusalAt.{RefusalAt}
use Rattle.mt1.specs.Parse.{Outcome, got, bad, refuse, next, raw, field, verdict, judged}
use Rattle.mt1.specs.Message.{count, count_before}
use Rattle.mt1.specs.Mt1.{unless, counted}
use Rattle.mt1.proofs.Counts.{count_next, count-le}
use Rattle.reader.specs.Steps.{there, field_answer, step_of}

-- ---- by what the code tests
module _ (n : ℕ) (bs : List Bool) (at : ℕ) where
  pub raw-there : fits_in bs at n ≡ true → raw n bs at ≡ got (take n (drop at bs)) (at + n)
  unfolding raw
  raw-there f = rw f

  pub raw-short : fits_in bs at n ≡ false → raw n bs at ≡ bad (refuse refusal.Short at)
  unfolding raw
  raw-short f = rw f

  pub field-there : fits_in bs at n ≡ true → n ≤ 64 → field n bs at ≡ got (number_at bs at n) (at + n)
  unfolding field
  field-there f h = rw (raw-there f, number_fits bs at n (leb-true (at + n) (length bs) f) h)

  pub field-short : fits_in bs at n ≡ false → field n bs at ≡ bad (refuse refusal.Short at)
  unfolding field
  field-short f = rw (raw-short f)

-- by the code's test of whether they are there
module _ (n : ℕ) (bs : List Bool) (at : ℕ) where
  pub enough : {u : Unit {0}} → Ok u ≡ there (raw n bs at) → fits_in bs at n ≡ true
  enough e = on_bool (fits_in bs at n) (λ f. f)
      (λ f. absurd (let h = e ∙ ap there (raw-short n bs at f) in let z : ◌≡◌ {A = ℕ} 0 1 = cc in omega arith))

  pub raw-lacking : {r : RefusalAt} → Err r ≡ there (raw n bs at) → raw n bs at ≡ bad r
  raw-lacking {r} e = on (raw n bs at) e
    where
      on : {A : Type 0} (o : Outcome A) → Err r ≡ there o → o ≡ bad r
      on (got x end) e = absurd (let z : ◌≡◌ {A = ℕ} 0 1 = cc in omega arith)
      on (bad y) e = let h : y ≡ r = cc in ap bad h

  pub field-lacking : {r : RefusalAt} → Err r ≡ there (raw n bs at) → field n bs at ≡ bad r
  unfolding field
  field-lacking e = rw (raw-lacking e)

-- ---- a field that is judged
module _ (n : ℕ) (wrong : ℕ → Option Refusal) (bs : List Bool) (at : ℕ) where
  pub judged-bad : {r : RefusalAt} → field n bs at ≡ bad r → judged n wrong bs at ≡ bad r
  unfolding judged
  judged-bad e = rw e

  pub judged-wrong : {v m : ℕ} {w : Refusal} → field n bs at ≡ got v m → wrong v ≡ some w → judged n wrong bs at ≡ bad (refuse w at)
  unfolding judged
  judged-wrong e f = rw (e, f)

  pub judged-fine : {v m : ℕ} → field n bs at ≡ got v m → wrong v ≡ none → judged n wrong bs at ≡ got v m
  unfolding judged
  judged-fine e f = rw (e, f)

pub judged-same : (n : ℕ) (f g : ℕ → Option Refusal) (bs : List Bool) (at : ℕ) → ((v : ℕ) → f v ≡ g v) → judged n f bs at ≡ judged n g bs at
unfolding judged
judged-same n f g bs at e = cases (field n bs at)
  where
    cases : (o : Outcome ℕ) → next o (λ v end. verdict (f v) v at end) ≡ next o (λ v end. verdict (g v) v at end)
    cases (got v m) = ap (λ (w : Option Refusal). verdict w v at m) (e v)
    cases (bad r) = refl

-- a number of systems, from 1 to the most that may come
module _ (most : ℕ) (bs : List Bool) (at : ℕ) where
  wrong_count : ℕ → Option Refusal
  wrong_count n = unless (leb 1 n && leb n most) refusal.Count

  pub counted-bad : {r : RefusalAt} → field 4 bs at ≡ bad r → counted most bs at ≡ bad r
  unfolding counted wrong_count
  counted-bad e = judged-bad 4 wrong_count bs at e

  pub counted-wrong : {n m : ℕ} → field 4 bs at ≡ got n m → (n < 1) ⊎ (most < n) → counted most bs at ≡ bad (refuse refusal.Count at)
  unfolding counted wrong_count
  counted-wrong {n} e h = judged-wrong 4 wrong_count bs at e (ap (λ (t : Bool). unless t refusal.Count) (out h))
    where
      out : (n < 1) ⊎ (most < n) → (leb 1 n && leb n most) ≡ false
      out (inl l) = rw (lt-leb 1 n l)
      out (inr l) = on_bool (leb 1 n) (λ t. rw (t, lt-leb n most l)) (λ t. rw t)

  pub counted-fine : {n m : ℕ} → field 4 bs at ≡ got n m → 1 ≤ n → n ≤ most → counted most bs at ≡ got n m
  unfolding counted wrong_count
  counted-fine {n} e lo hi = judged-fine 4 wrong_count bs at e (rw (le-leb 1 n lo, le-leb n most hi))

-- ---- what an answer tells
-- what a `?` hands on is the refusal that it met
pub handed : {T : Type 0} (s : Result T RefusalAt) {r : RefusalAt} → IsErrAnd s (λ x. x ≡ r) → s ≡ Err r
handed s h = let p = err_from_is_err_and s h in p.1 ∙ ap Err p.2

-- where an outcome ends, if it is got
abbrev pub Ends : {A : Type 0} → Outcome A → ℕ → Type 0
Ends (got x end) m = end ≡ m
Ends (bad r) m = Unit {0}

pub field-ends : (n : ℕ) (bs : List Bool) (at : ℕ) → Ends (field n bs at) (at + n)
unfolding field
field-ends n bs at = on_bool (fits_in bs at n) (λ f. rw (raw-there n bs at f) refl) (λ f. rw (raw-short n bs at f) tt)

pub judged-ends : (n : ℕ) (wrong : ℕ → Option Refusal) (bs : List Bool) (at : ℕ) → Ends (judged n wrong bs at) (at + n)
unfolding judged
judged-ends n wrong bs at = on (field n bs at) (at + n) (field-ends n bs at)
  where
    of : (w : Option Refusal) (v end m : ℕ) → end ≡ m → Ends (verdict w v at end) m
    of none v end m e = e
    of (some w) v end m e = tt

    on : (o : Outcome ℕ) (m : ℕ) → Ends o m → Ends (next o (λ v end. verdict (wrong v) v at end)) m
    on (got v end) m e = of (wrong v) v end m e
    on (bad r) m e = tt

pub field-got : (o : Outcome ℕ) {m v : ℕ} → Ends o m → Ok v ≡ field_answer o → o ≡ got v m
field-got (got x end) {v = v} s e = let y : x ≡ v = cc in rw (y, s)
field-got (bad y) s e = absurd (let z : ◌≡◌ {A = ℕ} 0 1 = cc in omega arith)

pub field-bad : (o : Outcome ℕ) {r : RefusalAt} → Err r ≡ field_answer o → o ≡ bad r
field-bad (got v end) e = absurd (let z : ◌≡◌ {A = ℕ} 0 1 = cc in omega arith)
field-bad (bad y) {r} e = let h : y ≡ r = cc in ap bad h

pub step-bad : {A : Type 0} (o : Outcome A) {r : RefusalAt} → Err r ≡ step_of o → o ≡ bad r
step-bad (got v end) e = absurd (let z : ◌≡◌ {A = ℕ} 0 1 = cc in omega arith)
step-bad (bad y) {r} e = let h : y ≡ r = cc in ap bad h

-- what is passed over is there
pub skipped : (n : ℕ) (bs : List Bool) (at : ℕ) {m : ℕ} → Ok m ≡ step_of (raw n bs at) → (m ≡ at + n) × (fits_in bs at n ≡ true)
skipped n bs at e = on_bool (fits_in bs at n)
    (λ f. let h = e ∙ ap step_of (raw-there n bs at f) in (cc, f))
    (λ f. absurd (let h = e ∙ ap step_of (raw-short n bs at f) in let z : ◌≡◌ {A = ℕ} 0 1 = cc in omega arith))

-- ---- the bits that are 1, one by one
pub before-next : (bs : List Bool) (i : ℕ) → count_before bs (i + 1) ≡ count_before bs i + num (get_or bs i false)
before-next bs i = ap (count_before bs) (add-one i) ∙ count_next bs i

pub count-few : (n : ℕ) (l : List Bool) → count (take n l) ≤ n
count-few n l = omega (arith, count-le (take n l), length-take n l)
