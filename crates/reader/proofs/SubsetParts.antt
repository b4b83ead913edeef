-- One or two parts of a clock subset, one behind another: what the parser of the subset reads, and where each system's part stands.
-- A part that is added is of one of the mask's systems and of no part before it; the others stand where they stood.
use Prim.Native.Nat.{ℕ, zero, suc, ◌≤◌, ◌<◌}
use native.Mathlib.Omega.{arith}
use mathlib.Core.Bool.{Bool, true, false, cond, false≢true}
use mathlib.Core.List.{List, [], ◌∷◌, ◌++◌, map}
use mathlib.Core.Logic.{◌⊎◌, ∥∥₁_elim}
use native.Mathlib.Bridge.{le_prop}
use mathlib.Core.Option.{Option, none, some}
use mathlib.Core.Path.{◌≡◌, refl, sym, ap, ◌∙◌}
use lib.Dec.{eqb}
use lib.ListN.{length}
use borrow.Author.Tests.{eqb-true, eq-eqb}
use Rattle.lists.specs.Lists.{memb}
use Rattle.lists.proofs.Tests.{on_bool, clash}
use Rattle.refusal.specs.declared.Refusal.TheVariants as refusal
use Rattle.mt1.specs.declared.answer.RefusalAt.{RefusalAt}
use Rattle.mt1.specs.Parse.{Outcome, got, bad, refuse, Parser, next, ◌>>=◌, ret, raw, field, judged, times, wrong_id, systems}
use Rattle.mt1.specs.Message.{System, Subset, count}
use Rattle.mt1.specs.Mt1.{known, interval, block, counted, ids, satellites_of, subset_system, subset}
use Rattle.mt1.specs.Records.{at as nth, of_id}
use Rattle.mt1.specs.Valid.{IdsOk}
use Rattle.mt1.proofs.Spans.{Span}
use Rattle.mt1.proofs.Combinators.{next-elim, judged-reads}
use Rattle.mt1.proofs.Several.{wrong-none}
use Rattle.reader.specs.declared.mask.MaskPlan.{MaskPlan}
use Rattle.reader.specs.declared.subset.SubsetPlan.{SubsetPlan}
use Rattle.reader.specs.declared.subset.Part.{Part}
use Rattle.reader.specs.declared.field.Read.{Read}
use Rattle.std.specs.Prelude.{Some, None, Result, Ok, Err}
use Rattle.reader.specs.Steps.{step_of, mask_plan, MaskOf, MaskMade, Place, Stands, part_bits, chain, part_of, with_part, PartReads, PartsStand, PartsRead, SubsetReads}
use Rattle.reader.proofs.Fields.{counted-bad, counted-wrong, counted-fine}
use Rattle.reader.proofs.Skipping.{step-got}

-- ---- where the parts stand
same_id : (a b : ℕ) → eqb a b ≡ true → eqb b a ≡ true
same_id a b e = eq-eqb b a (sym (eqb-true a b e))

other-id : (a b : ℕ) → eqb a b ≡ false → eqb b a ≡ false
other-id a b e = on_bool (eqb b a) (λ f. clash (same_id b a f) e) (λ f. f)

abbrev ids_in : List Subset → List ℕ
ids_in subs = map (λ x. x.id) subs

found-last : (subs : List Subset) (x : Subset) (id : ℕ) → eqb id x.id ≡ true → memb x.id (ids_in subs) ≡ false → of_id (subs ++ (x ∷ [])) id ≡ some x
unfolding of_id
found-last [] x id e = λ m. rw e
found-last (y ∷ subs) x id e = on_bool (eqb id y.id)
    (λ f. let g : eqb x.id y.id ≡ true = eq-eqb x.id y.id (sym (eqb-true id x.id e) ∙ eqb-true id y.id f) in rw g λ m. absurd (false≢true (sym m)))
    (λ f. let g : eqb x.id y.id ≡ false = (let h = eqb-true id x.id e in rw h at f) in rw (g, f) λ m. found-last subs x id e m)

found_before : (subs : List Subset) (x : Subset) (id : ℕ) → eqb id x.id ≡ false → of_id (subs ++ (x ∷ [])) id ≡ of_id subs id
unfolding of_id
found_before [] x id e = rw e
found_before (y ∷ subs) x id e = ap (λ (r : Option Subset). cond (eqb id y.id) (some y) r) (found_before subs x id e)

module _ {bs : List Bool} where
  pub no-parts : (ss : List System) → PartsStand bs ss [] (record { first = None; second = None })
  unfolding of_id
  no-parts ss = record { first = none_of (nth ss 0); second = none_of (nth ss 1) }
    where
      none_of : (s : Option System) → Stands bs None part_bits (chain s (λ s. none))
      none_of none = refl
      none_of (some s) = refl

  module _ (subs : List Subset) (x : Subset) {p end : ℕ} (fresh : memb x.id (ids_in subs) ≡ false) (span : Span bs p (part_bits x) end) where
    here : (s : System) → eqb x.id s.id ≡ true → Stands bs (Some p) part_bits (of_id (subs ++ (x ∷ [])) s.id)
    here s e = rw (found-last subs x s.id (same_id x.id s.id e) fresh) (p, refl, (end, span))

    there : (s : System) (q : Place) → eqb x.id s.id ≡ false → Stands bs q part_bits (of_id subs s.id) → Stands bs q part_bits (of_id (subs ++ (x ∷ [])) s.id)
    there s q e h = rw (found_before subs x s.id (other-id x.id s.id e)) h

    apart : (s t : System) → memb t.id (s.id ∷ []) ≡ false → eqb x.id s.id ≡ true → eqb x.id t.id ≡ false
    apart s t d e = on_bool (eqb x.id t.id)
        (λ f. let g : eqb t.id s.id ≡ true = eq-eqb t.id s.id (sym (eqb-true x.id t.id f) ∙ eqb-true x.id s.id e) in absurd (false≢true (sym d ∙ rw g)))
        (λ f. f)

    cases : (ss : List System) (place : ℕ) {plan : SubsetPlan} → length ss ≤ 2 → IdsOk known [] (ids ss) → memb x.id (ids ss) ≡ true
        → PartsStand bs ss subs plan → PartsStand bs ss (subs ++ (x ∷ [])) (with_part plan (mask_plan ss place) x.id p)
    unfolding mask_plan nth
    cases [] place few d = λ m. absurd (false≢true m)
    cases (s ∷ []) place few d = on_bool (eqb x.id s.id)
        (λ e. rw e λ m h. record { first = here s e; second = h.second })
        (λ e. rw e λ m. absurd (false≢true m))
    cases (s ∷ t ∷ []) place {plan} few d = on_bool (eqb x.id s.id)
        (λ e. rw e λ m h. record { first = here s e; second = there t plan.second (apart s t d.2.1 e) h.second })
        (λ e. rw e (on_bool (eqb x.id t.id) (λ f. rw f λ m h. record { first = there s plan.first e h.first; second = here t f }) (λ f. rw f λ m. absurd (false≢true m))))
    cases (s ∷ t ∷ u ∷ ss) place few d = absurd (let z : ⊥ = omega arith in z)

    pub added : {ss : List System} {place id : ℕ} {mask : MaskPlan} {plan both : SubsetPlan} → MaskOf ss place mask → x.id ≡ id → both ≡ with_part plan mask id p
        → memb x.id (ids ss) ≡ true → PartsStand bs ss subs plan → PartsStand bs ss (subs ++ (x ∷ [])) both
    added {ss} {place} o e f m h = rw (f, ← e, o.planned) (cases ss place o.few o.differ m h)

-- ---- the parser, part by part
next-bad : {A B C : Type 0} (o : Outcome A) (k : A → ℕ → Outcome B) (l : A → B → ℕ → Outcome C) {r : RefusalAt} → next o k ≡ bad r → next o (λ a m. next (k a m) (l a)) ≡ bad r
next-bad (got a m) k l e = rw e
next-bad (bad x) k l {r} e = let h : x ≡ r = cc in ap bad h

subset-id : (ss : List System) (id : ℕ) (bs : List Bool) (at : ℕ) {s : Subset} {end : ℕ} → subset_system ss id bs at ≡ got s end → s.id ≡ id
unfolding subset_system ◌>>=◌ ret
subset-id ss id bs at e =
    next-elim (field 2 bs at) _ e λ m i _ e1.
    next-elim (raw (count (satellites_of ss id)) bs i) _ e1 λ chosen j _ e2.
    next-elim (times (count chosen) (field 13) bs j) _ e2 λ cs k _ e3. cc

module _ (bs : List Bool) (ss : List System) where
  parts-bad : (came : List ℕ) (n at : ℕ) {r : RefusalAt} → part_of ss came bs at ≡ bad r → systems (ids ss) (subset_system ss) came (suc n) bs at ≡ bad r
  unfolding part_of systems ◌>>=◌
  parts-bad came n at e = next-bad (judged 4 (wrong_id (ids ss) came) bs at) (λ id k. subset_system ss id bs k) _ e

  parts_next : (came : List ℕ) (n at : ℕ) {s : Subset} {m : ℕ} → part_of ss came bs at ≡ got s m
      → systems (ids ss) (subset_system ss) came (suc n) bs at ≡ next (systems (ids ss) (subset_system ss) (s.id ∷ came) n bs m) (λ xs end. got (s ∷ xs) end)
  unfolding part_of systems ◌>>=◌ ret
  parts_next came n at {s} {m} e = next-elim (judged 4 (wrong_id (ids ss) came) bs at) _ e λ id k q r. rw (q, r, subset-id ss id bs k r)

  part-id : (came : List ℕ) (at : ℕ) {s : Subset} {m : ℕ} → at ≤ length bs → part_of ss came bs at ≡ got s m → (memb s.id (ids ss) ≡ true) × (memb s.id came ≡ false)
  unfolding part_of ◌>>=◌
  part-id came at {s} h e = next-elim (judged 4 (wrong_id (ids ss) came) bs at) _ e λ id k q r.
      rw (subset-id ss id bs k r) (wrong-none (ids ss) came id ((judged-reads 4 (wrong_id (ids ss) came)).sound bs at id k h q).ok.1)

-- ---- one part or two
-- what is at most so much whatever the systems are
pub by-systems : {mask : MaskPlan} {n most : ℕ} → ∥ MaskMade mask ∥₁ → ((ss : List System) (place : ℕ) → MaskOf ss place mask → n ≤ most) → n ≤ most
by-systems made f = ∥∥₁_elim made le_prop λ q. f q.0 q.1 q.2

pub systems-few : {ss : List System} {place : ℕ} {mask : MaskPlan} → MaskOf ss place mask → mask.systems ≤ 2
unfolding mask_plan
systems-few o = rw o.planned o.few

abbrev no_parts : SubsetPlan
no_parts = record { first = None; second = None }

module _ (bs : List Bool) {ss : List System} {place : ℕ} {mask : MaskPlan} (o : MaskOf ss place mask) (at : ℕ) where
  pub one-bad : (n : ℕ) {r : RefusalAt} → 1 ≤ n → part_of ss [] bs at ≡ bad r → systems (ids ss) (subset_system ss) [] n bs at ≡ bad r
  one-bad zero l = absurd (let z : ⊥ = omega arith in z)
  one-bad (suc n) l = λ e. parts-bad bs ss [] n at e

  module _ {p : Part} (one : PartReads ss mask [] no_parts bs at (Ok p)) where
    pub one_end : p.end ≤ length bs
    one_end = let (s, g, i, q, span) = one in span.fits

    within : at ≤ length bs
    within = let (s, g, i, q, span) = one in omega (arith, span.after, span.fits)

    one-next : (n : ℕ) → systems (ids ss) (subset_system ss) [] (suc n) bs at ≡ next (systems (ids ss) (subset_system ss) (p.id ∷ []) n bs p.end) (λ xs end. got (one.0 ∷ xs) end)
    one-next n = parts_next bs ss [] n at one.1 ∙ ap (λ (i : ℕ). next (systems (ids ss) (subset_system ss) (i ∷ []) n bs p.end) (λ xs end. got (one.0 ∷ xs) end)) one.2

    one-stands : PartsStand bs ss (one.0 ∷ []) p.plan
    one-stands = added [] one.0 refl one.4 o one.2 one.3 (part-id bs ss [] at within one.1).0 (no-parts ss)

    pub one-got : PartsRead ss 1 bs at (Ok (record { plan = p.plan; end = p.end }))
    unfolding systems ret
    one-got = (one.0 ∷ [], one-next 0, one-stands)

    pub two-bad : {r : RefusalAt} → part_of ss (p.id ∷ []) bs p.end ≡ bad r → systems (ids ss) (subset_system ss) [] 2 bs at ≡ bad r
    two-bad e = one-next 1 ∙ ap (λ (r : Outcome (List Subset)). next r (λ xs end. got (one.0 ∷ xs) end)) (parts-bad bs ss (p.id ∷ []) 0 p.end e)

    pub two-got : {q : Part} → PartReads ss mask (p.id ∷ []) p.plan bs p.end (Ok q) → PartsRead ss 2 bs at (Ok (record { plan = q.plan; end = q.end }))
    unfolding systems ret
    two-got two =
        let k = part-id bs ss (p.id ∷ []) p.end one_end two.1 in (
          one.0 ∷ two.0 ∷ [],
          one-next 1 ∙ ap (λ (r : Outcome (List Subset)). next r (λ xs end. got (one.0 ∷ xs) end)) (parts_next bs ss (p.id ∷ []) 0 p.end two.1),
          added (one.0 ∷ []) two.0 (ap (λ (i : ℕ). memb two.0.id (i ∷ [])) one.2 ∙ k.1) two.4 o two.2 two.3 k.0 one-stands,
        )

-- ---- the block
block-got : {A : Type 0} (p : Parser A) (bs : List Bool) (at : ℕ) {i m : ℕ} → interval bs at ≡ got i m
    → block p bs at ≡ next (p bs m) (λ x end. got (record { interval = i; body = x }) end)
unfolding block ◌>>=◌ ret
block-got p bs at e = rw e

pub block-bad : {A : Type 0} (p : Parser A) (bs : List Bool) (at : ℕ) {r : RefusalAt} → interval bs at ≡ bad r → block p bs at ≡ bad r
unfolding block ◌>>=◌
block-bad p bs at e = rw e

module _ (bs : List Bool) {ss : List System} {place : ℕ} {mask : MaskPlan} (o : MaskOf ss place mask) (at : ℕ) {m : ℕ} (e : step_of (interval bs at) ≡ Ok m) where
  count-refused : {r : RefusalAt} → counted (length ss) bs m ≡ bad r → block (subset ss) bs at ≡ bad r
  unfolding subset ◌>>=◌
  count-refused c = step-got (interval bs at) e λ i q. block-got (subset ss) bs at q ∙ rw c

  pub count-bad : {r : RefusalAt} → field 4 bs m ≡ bad r → block (subset ss) bs at ≡ bad r
  count-bad f = count-refused (counted-bad (length ss) bs m f)

  pub count-wrong : {n k : ℕ} → field 4 bs m ≡ got n k → (n < 1) ⊎ (mask.systems < n) → block (subset ss) bs at ≡ bad (refuse refusal.Count m)
  unfolding mask_plan
  count-wrong f w = count-refused (counted-wrong (length ss) bs m f (rw o.planned at w))

  pub subset-is : {n k : ℕ} (r : Result (Read SubsetPlan) RefusalAt) → field 4 bs m ≡ got n k → 1 ≤ n → n ≤ mask.systems → PartsRead ss n bs k r → SubsetReads ss bs at r
  unfolding subset mask_plan ◌>>=◌
  subset-is {n} {k} r f lo hi = cases r
    where
      there : counted (length ss) bs m ≡ got n k
      there = counted-fine (length ss) bs m f lo (rw o.planned at hi)

      cases : (r : Result (Read SubsetPlan) RefusalAt) → PartsRead ss n bs k r → SubsetReads ss bs at r
      cases (Ok read) t = step-got (interval bs at) e λ i q.
          (record { interval = i; body = t.0 }, block-got (subset ss) bs at q ∙ rw (there, t.1), t.2)
      cases (Err x) t = step-got (interval bs at) e λ i q. block-got (subset ss) bs at q ∙ rw (there, t)
