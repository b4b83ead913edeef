-- What is passed over: how far one thing behind another gets, an item's fields, n items in a row, a block.
-- What is behind begins where the one before it ends; of what was read only its end counts, and 0 bits end where they begin.
use Prim.Native.Nat.{ℕ, zero, suc, ◌+◌, ◌-◌, ◌≤◌, ◌<◌}
use native.Mathlib.Nat.{add-zero}
use native.Mathlib.Omega.{arith}
use mathlib.Core.Bool.{Bool}
use mathlib.Core.List.{List, [], ◌∷◌}
use mathlib.Core.Option.{Option, none, some}
use mathlib.Core.Path.{◌≡◌, refl, sym, ap, ◌∙◌}
use lib.Dec.{ltb}
use lib.ListN.{length, get_or, drop}
use borrow.Author.Tests.{leb-true, le-leb}
use Rattle.bits.specs.Bits.{value}
use Rattle.lists.proofs.Tests.{on_bool}
use Rattle.refusal.specs.declared.Refusal.{Refusal}
use Rattle.refusal.specs.declared.Refusal.TheVariants as refusal
use Rattle.mt1.specs.declared.answer.RefusalAt.{RefusalAt}
use Rattle.std.specs.Prelude.{Result, Ok, Err}
use Rattle.mt1.specs.Parse.{Outcome, got, bad, refuse, Parser, next, ◌>>=◌, ret, raw, field, verdict, judged, times, for_each}
use Rattle.mt1.specs.Mt1.{unless, interval}
use Rattle.mt1.specs.Interval.{table23, interval_seconds}
use Rattle.reader.specs.Steps.{step_of, skipped_block}
use Rattle.reader.proofs.Fields.{judged-bad, judged-wrong, judged-fine, skipped}

-- ---- one step behind another
abbrev pub Step : Type 0
Step = Result ℕ RefusalAt

abbrev pub walk : Step → (ℕ → Step) → Step
walk (Ok m) g = g m
walk (Err r) g = Err r

pub walk_same : {s : Step} (t : Step) (g h : ℕ → Step) → s ≡ t → ((m : ℕ) → g m ≡ h m) → walk s g ≡ walk t h
walk_same (Ok m) g h e k = rw e (k m)
walk_same (Err r) g h e k = rw e

pub walk-whole : (s : Step) (g : ℕ → Step) → ((m : ℕ) → s ≡ Ok m → g m ≡ Ok m) → walk s g ≡ s
walk-whole (Ok m) g k = k m refl
walk-whole (Err r) g k = refl

refused-at : {r : RefusalAt} {m : ℕ} → ◌≡◌ {A = Step} (Err r) (Ok m) → ⊥
refused-at e = let z : ◌≡◌ {A = ℕ} 0 1 = cc in omega arith

at_same : {a b : ℕ} → ◌≡◌ {A = Step} (Ok a) (Ok b) → a ≡ b
at_same e = cc

-- what ends was got
pub step-got {ℓ} : {A : Type 0} {X : Type ℓ} (o : Outcome A) {end : ℕ} → step_of o ≡ Ok end → ((a : A) → o ≡ got a end → X) → X
step-got (got a m) e f = f a (ap (got a) (at_same e))
step-got (bad r) e f = absurd (refused-at e)

-- ---- which numbers are an interval's index
abbrev wrong_interval : ℕ → Option Refusal
wrong_interval v = unless (ltb v 15) refusal.Validity

module _ (v : ℕ) {s : Result ℕ Refusal} (q : s ≡ interval_seconds v) where
  seconds-of : {x : ℕ} → s ≡ Ok x → wrong_interval v ≡ none
  unfolding interval_seconds
  seconds-of t = on_bool (ltb v 15) (λ k. rw k)
      (λ k. absurd (let z : s ≡ Err refusal.Validity = q ∙ rw k in let y : ◌≡◌ {A = ℕ} 0 1 = cc in omega arith))

  seconds-not : {x : Refusal} → s ≡ Err x → wrong_interval v ≡ some refusal.Validity
  unfolding interval_seconds
  seconds-not t = on_bool (ltb v 15)
      (λ k. absurd (let z : s ≡ Ok (get_or table23 v 0) = q ∙ rw k in let y : ◌≡◌ {A = ℕ} 0 1 = cc in omega arith)) (λ k. rw k)

module _ (bs : List Bool) where
  pub step-bind : {A B : Type 0} (p : Parser A) (k : A → Parser B) (g : ℕ → Step) (at : ℕ)
      → ((a : A) (m : ℕ) → p bs at ≡ got a m → step_of (k a bs m) ≡ g m) → step_of ((p >>= k) bs at) ≡ walk (step_of (p bs at)) g
  unfolding ◌>>=◌
  step-bind {A} p k g at h = cases (p bs at) h
    where
      cases : (o : Outcome A) → ((a : A) (m : ℕ) → o ≡ got a m → step_of (k a bs m) ≡ g m) → step_of (next o (λ a end. k a bs end)) ≡ walk (step_of o) g
      cases (got a m) h = h a m refl
      cases (bad r) h = refl

  pub step-ret : {A B : Type 0} (p : Parser A) (f : A → B) (at : ℕ) → step_of ((p >>= λ x. ret (f x)) bs at) ≡ step_of (p bs at)
  unfolding ◌>>=◌ ret
  step-ret {A} p f at = cases (p bs at)
    where
      cases : (o : Outcome A) → step_of (next o (λ a end. got (f a) end)) ≡ step_of o
      cases (got a m) = refl
      cases (bad r) = refl

  -- ---- fields
  pub step_field : (n at : ℕ) → step_of (field n bs at) ≡ step_of (raw n bs at)
  unfolding field ◌>>=◌ ret
  step_field n at = step-ret (raw n) value at

  pub field-bind : {B : Type 0} (n : ℕ) (k : ℕ → Parser B) (g : ℕ → Step) (at : ℕ)
      → ((v m : ℕ) → step_of (k v bs m) ≡ g m) → step_of ((field n >>= k) bs at) ≡ walk (step_of (raw n bs at)) g
  field-bind n k g at h = step-bind (field n) k g at (λ v m _. h v m) ∙ ap (λ (s : Step). walk s g) (step_field n at)

  pub field-last : {B : Type 0} (n : ℕ) (f : ℕ → B) (at : ℕ) → step_of ((field n >>= λ v. ret (f v)) bs at) ≡ step_of (raw n bs at)
  field-last n f at = step-ret (field n) f at ∙ step_field n at

  pub raw-end : (n at m : ℕ) → step_of (raw n bs at) ≡ Ok m → (m ≡ at + n) × (m ≤ length bs)
  raw-end n at m e =
      let (q, f) = skipped n bs at (sym e) in
      (q, omega (arith, q, leb-true (at + n) (length bs) f))

  pub field_fits : (n at : ℕ) {v end : ℕ} → field n bs at ≡ got v end → end ≤ length bs
  field_fits n at {end = end} e = (raw-end n at end (sym (step_field n at) ∙ ap step_of e)).1

  pub judged-end : (n : ℕ) (wrong : ℕ → Option Refusal) (at end : ℕ) → step_of (judged n wrong bs at) ≡ Ok end → (end ≡ at + n) × (end ≤ length bs)
  unfolding judged
  judged-end n wrong at end e = raw-end n at end (sym (step_field n at) ∙ cases (field n bs at) e)
    where
      fine : (w : Option Refusal) (v m : ℕ) → step_of (verdict w v at m) ≡ Ok end → ◌≡◌ {A = Step} (Ok m) (Ok end)
      fine none v m e = e
      fine (some w) v m e = absurd (refused-at e)

      cases : (o : Outcome ℕ) → step_of (next o (λ v m. verdict (wrong v) v at m)) ≡ Ok end → step_of o ≡ Ok end
      cases (got v m) e = fine (wrong v) v m e
      cases (bad r) e = e

  raw-none : (at : ℕ) → at ≤ length bs → step_of (raw 0 bs at) ≡ Ok at
  unfolding raw
  raw-none at h = rw (add-zero, le-leb at (length bs) h)

  -- ---- several
  pub for_each-steps : {S A : Type 0} (p : S → Parser A) (s : S) (ss : List S) (at : ℕ)
      → step_of (for_each (s ∷ ss) p bs at) ≡ walk (step_of (p s bs at)) (λ m. step_of (for_each ss p bs m))
  unfolding for_each
  for_each-steps p s ss at = step-bind (p s) (λ x. for_each ss p >>= λ xs. ret (x ∷ xs)) (λ m. step_of (for_each ss p bs m)) at
      (λ a m e. step-ret (for_each ss p) (λ xs. a ∷ xs) m)

  times-steps : {A : Type 0} (n : ℕ) (p : Parser A) (at : ℕ) → step_of (times (suc n) p bs at) ≡ walk (step_of (p bs at)) (λ m. step_of (times n p bs m))
  unfolding times
  times-steps n p at = step-bind p (λ x. times n p >>= λ xs. ret (x ∷ xs)) (λ m. step_of (times n p bs m)) at
      (λ a m e. step-ret (times n p) (λ xs. a ∷ xs) m)

  pub times_none : {A : Type 0} (p : Parser A) (at : ℕ) → step_of (times 0 p bs at) ≡ Ok at
  unfolding times ret
  times_none p at = refl

  -- what ends alike, ends alike n times
  pub times-same : {A B : Type 0} (n : ℕ) (p : Parser A) (q : Parser B) (at : ℕ)
      → ((m : ℕ) → step_of (p bs m) ≡ step_of (q bs m)) → step_of (times n p bs at) ≡ step_of (times n q bs at)
  times-same zero p q at e = times_none p at ∙ sym (times_none q at)
  times-same (suc n) p q at e = times-steps n p at
      ∙ walk_same (step_of (q bs at)) (λ m. step_of (times n p bs m)) (λ m. step_of (times n q bs m)) (e at) (λ m. times-same n p q m e)
      ∙ sym (times-steps n q at)

  -- ---- an item, field by field
  fields-steps : (n : ℕ) (ns : List ℕ) (g : ℕ → Step) (at : ℕ)
      → ((m : ℕ) → step_of (for_each ns field bs m) ≡ g m) → step_of (for_each (n ∷ ns) field bs at) ≡ walk (step_of (raw n bs at)) g
  fields-steps n ns g at e = for_each-steps field n ns at ∙ walk_same (step_of (raw n bs at)) (λ m. step_of (for_each ns field bs m)) g (step_field n at) e

  -- no field, and one more
  pub no-fields : (at : ℕ) → step_of (for_each [] field bs at) ≡ Ok at
  unfolding for_each ret
  no-fields at = refl

  pub next-field : (ns : List ℕ) (k at : ℕ) → k < length ns
      → step_of (for_each (drop k ns) field bs at) ≡ walk (step_of (raw (get_or ns k 0) bs at)) (λ m. step_of (for_each (drop (k + 1) ns) field bs m))
  next-field [] k at h = absurd (let z : ⊥ = omega arith in z)
  next-field (n ∷ ns) zero at h = fields-steps n ns (λ m. step_of (for_each ns field bs m)) at (λ m. refl)
  next-field (n ∷ ns) (suc k) at h = let e : suc k + 1 ≡ suc (k + 1) = omega arith in rw e (next-field ns k at (omega arith))

  -- an item of one field, of two and of four
  last-field : (n at : ℕ) → step_of (for_each (n ∷ []) field bs at) ≡ step_of (raw n bs at)
  last-field n at = fields-steps n [] Ok at no-fields ∙ walk-whole (step_of (raw n bs at)) Ok (λ m _. refl)

  pub item-field : (n at : ℕ) → step_of (for_each (n ∷ []) field bs at) ≡ step_of (field n bs at)
  item-field n at = last-field n at ∙ sym (step_field n at)

  pub item-pair : (a b at : ℕ) → step_of (for_each (a ∷ b ∷ []) field bs at) ≡ walk (step_of (raw a bs at)) (λ m. step_of (raw b bs m))
  item-pair a b at = fields-steps a (b ∷ []) (λ m. step_of (raw b bs m)) at (last-field b)

  abbrev pub item_walk : ℕ → ℕ → ℕ → ℕ → ℕ → Step
  item_walk a b c d at = walk (step_of (raw a bs at)) λ i. walk (step_of (raw b bs i)) λ j. walk (step_of (raw c bs j)) λ k. step_of (raw d bs k)

  pub item-steps : (a b c d at : ℕ) → step_of (for_each (a ∷ b ∷ c ∷ d ∷ []) field bs at) ≡ item_walk a b c d at
  item-steps a b c d at =
      fields-steps a (b ∷ c ∷ d ∷ []) (λ i. walk (step_of (raw b bs i)) λ j. walk (step_of (raw c bs j)) λ k. step_of (raw d bs k)) at λ i.
      fields-steps b (c ∷ d ∷ []) (λ j. walk (step_of (raw c bs j)) λ k. step_of (raw d bs k)) i λ j. item-pair c d j

  -- ---- a row, turn by turn
  pub turn : {A : Type 0} (n k : ℕ) (p : Parser A) (at : ℕ) → k < n → step_of (times (n - k) p bs at) ≡ walk (step_of (p bs at)) (λ m. step_of (times (n - (k + 1)) p bs m))
  turn n k p at h = let e : n - k ≡ suc (n - (k + 1)) = omega arith in rw e (times-steps (n - (k + 1)) p at)

  -- ---- a block
  pub interval-short : (at : ℕ) {r : RefusalAt} → field 4 bs at ≡ bad r → interval bs at ≡ bad r
  unfolding interval
  interval-short at = judged-bad 4 wrong_interval bs at

  module _ (at : ℕ) {v m : ℕ} {s : Result ℕ Refusal} (e : field 4 bs at ≡ got v m) (q : s ≡ interval_seconds v) where
    pub interval-wrong : {x : Refusal} → s ≡ Err x → interval bs at ≡ bad (refuse refusal.Validity at)
    unfolding interval
    interval-wrong t = judged-wrong 4 wrong_interval bs at e (seconds-not v q t)

    pub interval-known : {x : ℕ} → s ≡ Ok x → interval bs at ≡ got v m
    unfolding interval
    interval-known t = judged-fine 4 wrong_interval bs at e (seconds-of v q t)

  abbrev pub block_walk : ℕ → ℕ → ℕ → List ℕ → List ℕ → ℕ → Step
  block_walk multipliers n m v w at =
      walk (step_of (interval bs at)) λ i. walk (step_of (times multipliers (for_each (2 ∷ []) field) bs i))
      λ j. walk (step_of (times n (for_each v field) bs j)) λ k. step_of (times m (for_each w field) bs k)

  pub block-steps : (multipliers n m : ℕ) (v w : List ℕ) (at : ℕ) → step_of (skipped_block multipliers n v m w bs at) ≡ block_walk multipliers n m v w at
  unfolding skipped_block
  block-steps multipliers n m v w at =
      let ms = times multipliers (for_each (2 ∷ []) field) in
      let xs = times n (for_each v field) in
      let ys = times m (for_each w field) in
      let g : ℕ → Step = λ j. walk (step_of (xs bs j)) λ k. step_of (ys bs k) in
      step-bind interval (λ _. ms >>= λ _. xs >>= λ _. ys) (λ i. walk (step_of (ms bs i)) g) at λ _ i _.
      step-bind ms (λ _. xs >>= λ _. ys) g i λ _ j _.
      step-bind xs (λ _. ys) (λ k. step_of (ys bs k)) j λ _ k _. refl
