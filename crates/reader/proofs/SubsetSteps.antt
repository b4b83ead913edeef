-- One part of a clock subset: which GNSS IDs may come, how many satellites the system of an ID has, and what passing over the part tells of its parser.
-- A mask has one system or two, and an ID that may come is one of theirs; of what is passed over, only the bits that choose satellites decide what follows.
use Prim.Native.Nat.{ℕ, ◌+◌, ◌^◌, ◌≤◌, ◌<◌}
use native.Mathlib.Omega.{arith}
use mathlib.Core.Bool.{Bool, true, false, cond, false≢true}
use mathlib.Core.List.{List, [], ◌∷◌}
use mathlib.Core.Option.{none}
use mathlib.Core.Path.{◌≡◌, refl, sym, ap, ◌∙◌}
use lib.Dec.{eqb}
use lib.ListN.{length, take, drop}
use Rattle.bits.specs.Bits.{bits, fits_in}
use Rattle.lists.specs.Lists.{Every, memb}
use Rattle.lists.proofs.Tests.{on_bool}
use Rattle.mt1.specs.declared.answer.RefusalAt.{RefusalAt}
use Rattle.mt1.specs.Parse.{got, bad, ◌>>=◌, ret, raw, field, judged, times, for_each, wrong_id}
use Rattle.mt1.specs.Message.{System, Subset, count}
use Rattle.mt1.specs.Mt1.{ids, satellites_of, subset_system}
use Rattle.mt1.specs.Records.{at as nth}
use Rattle.mt1.specs.Valid.{SystemOk}
use Rattle.mt1.proofs.Spans.{Span}
use Rattle.mt1.proofs.Combinators.{Took, bad-got, judged-reads}
use Rattle.mt1.proofs.Several.{wrong-none}
use Rattle.mt1.proofs.Blocks.{subset-system-reads}
use Rattle.mt1.proofs.Counts.{satellites-few}
use Rattle.std.specs.Prelude.{Ok}
use Rattle.reader.specs.declared.mask.MaskPlan.{MaskPlan}
use Rattle.reader.specs.Steps.{step_of, mask_plan, MaskOf, part_bits, part_of}
use Rattle.reader.proofs.Fields.{raw-there, raw-short}
use Rattle.reader.proofs.Skipping.{judged-end, walk, step-got, step-bind, step-ret, field-bind, times-same, item-field}

-- ---- a part behind its GNSS ID
raw-got : (n : ℕ) (bs : List Bool) (at : ℕ) {b : List Bool} {m : ℕ} → raw n bs at ≡ got b m → b ≡ take n (drop at bs)
raw-got n bs at e = on_bool (fits_in bs at n)
    (λ f. let g = sym e ∙ raw-there n bs at f in cc)
    (λ f. absurd (bad-got (sym (raw-short n bs at f) ∙ e)))

pub part-steps : (bs : List Bool) (ss : List System) (id at : ℕ) {n : ℕ} → n ≡ count (satellites_of ss id) → step_of (subset_system ss id bs at)
    ≡ walk (step_of (raw 2 bs at)) λ i. walk (step_of (raw n bs i)) λ j. step_of (times (count (take n (drop i bs))) (for_each (13 ∷ []) field) bs j)
unfolding subset_system
part-steps bs ss id at {n} h = rw (← h) (field-bind bs 2
    (λ m. raw n >>= λ chosen. times (count chosen) (field 13) >>= λ cs. ret (record { id = id; multiplier = m; chosen = chosen; clocks = cs }))
    (λ i. walk (step_of (raw n bs i)) λ j. step_of (times (count (take n (drop i bs))) (for_each (13 ∷ []) field) bs j)) at λ m i.
    step-bind bs (raw n) (λ chosen. times (count chosen) (field 13) >>= λ cs. ret (record { id = id; multiplier = m; chosen = chosen; clocks = cs }))
    (λ j. step_of (times (count (take n (drop i bs))) (for_each (13 ∷ []) field) bs j)) i λ chosen j e.
    step-ret bs (times (count chosen) (field 13)) (λ cs. record { id = id; multiplier = m; chosen = chosen; clocks = cs }) j
    ∙ times-same bs (count chosen) (field 13) (for_each (13 ∷ []) field) j (λ k. sym (item-field bs 13 k))
    ∙ ap (λ (b : List Bool). step_of (times (count b) (for_each (13 ∷ []) field) bs j)) (raw-got n bs i e))

-- ---- which GNSS IDs may come, and whose satellites they are
pub ids-are : {ss : List System} {place : ℕ} {mask : MaskPlan} → MaskOf ss place mask → take mask.systems (mask.first.id ∷ mask.second.id ∷ []) ≡ ids ss
unfolding mask_plan nth
ids-are {ss} {place} o = rw o.planned (cases ss o.few)
  where
    cases : (ss : List System) → length ss ≤ 2 → take (mask_plan ss place).systems ((mask_plan ss place).first.id ∷ (mask_plan ss place).second.id ∷ []) ≡ ids ss
    cases [] few = refl
    cases (s ∷ []) few = refl
    cases (s ∷ t ∷ []) few = refl
    cases (s ∷ t ∷ u ∷ ss) few = absurd (let z : ⊥ = omega arith in z)

satellites-are : (ss : List System) (place id : ℕ) → length ss ≤ 2 → memb id (ids ss) ≡ true
    → cond (eqb id (mask_plan ss place).first.id) (mask_plan ss place).first.satellites (mask_plan ss place).second.satellites ≡ count (satellites_of ss id)
unfolding mask_plan nth satellites_of count
satellites-are [] place id few = λ m. absurd (false≢true m)
satellites-are (s ∷ []) place id few = on_bool (eqb id s.id) (λ e. rw e λ m. refl) (λ e. rw e λ m. refl)
satellites-are (s ∷ t ∷ []) place id few = on_bool (eqb id s.id) (λ e. rw e λ m. refl)
    (λ e. rw e (on_bool (eqb id t.id) (λ f. rw f λ m. refl) (λ f. rw f λ m. absurd (false≢true m))))
satellites-are (s ∷ t ∷ u ∷ ss) place id few = absurd (let z : ⊥ = omega arith in z)

pub either-few : {ss : List System} {place : ℕ} {mask : MaskPlan} → MaskOf ss place mask → (first : Bool) → cond first mask.first.satellites mask.second.satellites ≤ 40
unfolding mask_plan nth
either-few {ss} {place} o first = rw o.planned (cases ss o.each o.few first)
  where
    cases : (ss : List System) → Every SystemOk ss → length ss ≤ 2 → (first : Bool) → cond first (mask_plan ss place).first.satellites (mask_plan ss place).second.satellites ≤ 40
    cases [] k few true = omega arith
    cases [] k few false = omega arith
    cases (s ∷ []) k few true = satellites-few s k.0
    cases (s ∷ []) k few false = omega arith
    cases (s ∷ t ∷ []) k few true = satellites-few s k.0
    cases (s ∷ t ∷ []) k few false = satellites-few t k.1.0
    cases (s ∷ t ∷ u ∷ ss) k few first = absurd (let z : ⊥ = omega arith in z)

-- ---- a part with its GNSS ID, where these came
module _ (bs : List Bool) {ss : List System} {place : ℕ} {mask : MaskPlan} (o : MaskOf ss place mask) (came : List ℕ) (at : ℕ) {may : List ℕ} (m : may ≡ ids ss) where
  pub id-bad : {r : RefusalAt} → judged 4 (wrong_id may came) bs at ≡ bad r → part_of ss came bs at ≡ bad r
  unfolding part_of ◌>>=◌
  id-bad e = rw (← m, e)

  module _ {id : ℕ} (g : judged 4 (wrong_id may came) bs at ≡ got id (at + 4)) where
    pub part-bad : {r : RefusalAt} → subset_system ss id bs (at + 4) ≡ bad r → part_of ss came bs at ≡ bad r
    unfolding part_of ◌>>=◌
    part-bad e = rw (← m, g, e)

    within : at + 4 ≤ length bs
    within = (judged-end bs 4 (wrong_id may came) at (at + 4) (ap step_of g)).1

    id-took : Took (λ v. (v < 2 ^ 4) × (wrong_id (ids ss) came v ≡ none)) (bits 4) bs at id (at + 4)
    id-took = (judged-reads 4 (wrong_id (ids ss) came)).sound bs at id (at + 4) (omega (arith, within)) (rw m at g)

    pub id-end : at + 4 ≤ length bs
    id-end = id-took.span.fits

    pub satellites-there : {n : ℕ} → n ≡ cond (eqb id mask.first.id) mask.first.satellites mask.second.satellites → n ≡ count (satellites_of ss id)
    satellites-there e = e ∙ rw o.planned (satellites-are ss place id o.few (wrong-none (ids ss) came id id-took.ok.1).0)

    pub part-got : {end : ℕ} → Ok end ≡ step_of (subset_system ss id bs (at + 4))
        → (s : Subset) × (part_of ss came bs at ≡ got s end) × (s.id ≡ id) × Span bs (at + 4) (part_bits s) end
    unfolding part_of part_bits ◌>>=◌
    part-got {end} e = step-got (subset_system ss id bs (at + 4)) (sym e) λ s q.
        let t = (subset-system-reads ss id).sound bs (at + 4) s end id-end q in
        (s, rw (← m, g, q), t.ok.0, t.span)
