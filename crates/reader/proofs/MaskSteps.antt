-- What the parsers of a GNSS ID, of a second system and of a mask say where the code answers: by exits, in the order of the fields.
-- Each field's outcome settles the next step; the second system begins where the first, as long as its bits, ends.
use Prim.Native.Nat.{ℕ, suc, ◌+◌, ◌-◌, ◌≤◌, ◌<◌}
use native.Mathlib.Omega.{arith}
use mathlib.Core.Bool.{Bool, true, false, ◌||◌}
use mathlib.Core.List.{List, [], ◌∷◌}
use mathlib.Core.Logic.{◌⊎◌}
use mathlib.Core.Option.{none, some}
use mathlib.Core.Path.{◌≡◌, refl, sym, ap, ap₂, ◌∙◌}
use lib.Dec.{eqb}
use lib.ListN.{length}
use borrow.Author.Tests.{eqb-true, eq-eqb}
use Rattle.lists.specs.Lists.{memb}
use Rattle.lists.proofs.Tests.{on_bool, clash}
use Rattle.std.specs.List.{list_any}
use Rattle.std.specs.Prelude.{Result, Ok}
use Rattle.refusal.specs.declared.Refusal.TheVariants as refusal
use Rattle.mt1.specs.declared.answer.RefusalAt.{RefusalAt}
use Rattle.mt1.specs.Parse.{Outcome, got, bad, refuse, next, ◌>>=◌, ret, field, judged, wrong_id, systems}
use Rattle.mt1.specs.Message.{System}
use Rattle.mt1.specs.Mt1.{known, system, counted, mask}
use Rattle.mt1.specs.Records.{at}
use Rattle.reader.specs.declared.mask.SystemPlan.{SystemPlan}
use Rattle.reader.specs.declared.field.Read.{Read}
use Rattle.reader.specs.declared.mask.MaskPlan.{MaskPlan}
use Rattle.reader.specs.Steps.{system_plan, plan_of, mask_plan, mask_answer, mask_end, second_system, second_answer}
use Rattle.reader.proofs.Fields.{counted-bad, counted-wrong, counted-fine}
use Rattle.reader.proofs.SystemSteps.{system-long}

-- ---- a GNSS ID that may come, and did not
-- whether the slice has it
pub memb-any : (l : List ℕ) (v : ℕ) → list_any (λ x. eqb x v) l ≡ memb v l
memb-any [] v = refl
memb-any (x ∷ l) v = ap₂ ◌||◌ (turned x v) (memb-any l v)
  where
    turned : (a b : ℕ) → eqb a b ≡ eqb b a
    turned a b = on_bool (eqb b a) (λ t. eq-eqb a b (sym (eqb-true b a t)) ∙ sym t)
        (λ f. on_bool (eqb a b) (λ t. clash (eq-eqb b a (sym (eqb-true a b t))) f) (λ g. g ∙ sym f))

module _ (may came : List ℕ) (v : ℕ) where
  pub id-strange : memb v may ≡ false → wrong_id may came v ≡ some refusal.System
  unfolding wrong_id
  id-strange f = rw f

  pub id-twice : memb v may ≡ true → memb v came ≡ true → wrong_id may came v ≡ some refusal.Twice
  unfolding wrong_id
  id-twice m e = rw (m, e)

  pub id-fine : memb v may ≡ true → memb v came ≡ false → wrong_id may came v ≡ none
  unfolding wrong_id
  id-fine m f = rw (m, f)

-- ---- a mask from its second system on
module _ (came place : ℕ) (bs : List Bool) where
  pub second-id-bad : {r : RefusalAt} → judged 4 (wrong_id known (came ∷ [])) bs place ≡ bad r → second_system came bs place ≡ bad r
  unfolding second_system ◌>>=◌
  second-id-bad e = rw e

  module _ {id : ℕ} (hi : judged 4 (wrong_id known (came ∷ [])) bs place ≡ got id (place + 4)) where
    pub second-bad : {r : RefusalAt} → system id bs (place + 4) ≡ bad r → second_system came bs place ≡ bad r
    unfolding second_system ◌>>=◌
    second-bad e = rw (hi, e)

    pub second-end : (first : SystemPlan) {s : System} {end : ℕ} → system id bs (place + 4) ≡ got s end
        → second_answer first place (second_system came bs place) ≡ mask_end (record { systems = 2; first = first; second = system_plan s (place + 4) }) (field 6 bs end)
    unfolding second_system ◌>>=◌ ret
    second-end first {s} {end} e = rw (hi, e) (on (field 6 bs end))
      where
        on : (o : Outcome ℕ) → second_answer first place (next o (λ v m. got s m)) ≡ mask_end (record { systems = 2; first = first; second = system_plan s (place + 4) }) o
        on (got v m) = refl
        on (bad r) = refl

-- ---- a mask
module _ (place : ℕ) (bs : List Bool) where
  pub count-bad : {r : RefusalAt} → field 4 bs place ≡ bad r → mask bs place ≡ bad r
  unfolding mask ◌>>=◌
  count-bad e = rw (counted-bad 2 bs place e)

  pub count-wrong : {n m : ℕ} → field 4 bs place ≡ got n m → (n < 1) ⊎ (2 < n) → mask bs place ≡ bad (refuse refusal.Count place)
  unfolding mask ◌>>=◌
  count-wrong e h = rw (counted-wrong 2 bs place e h)

  module _ {n : ℕ} (hn : field 4 bs place ≡ got n (place + 4)) (lo : 1 ≤ n) (hi : n ≤ 2) where
    counted-two : counted 2 bs place ≡ got (suc (n - 1)) (place + 4)
    counted-two = let e : suc (n - 1) ≡ n = omega arith in rw e (counted-fine 2 bs place hn lo hi)

    pub first-id-bad : {r : RefusalAt} → judged 4 (wrong_id known []) bs (place + 4) ≡ bad r → mask bs place ≡ bad r
    unfolding mask systems ◌>>=◌
    first-id-bad e = rw (counted-two, e)

    module _ {id : ℕ} (hd : judged 4 (wrong_id known []) bs (place + 4) ≡ got id (place + 4 + 4)) where
      id-there : judged 4 (wrong_id known []) bs (place + 4) ≡ got id (place + 8)
      id-there = let e : place + 8 ≡ place + 4 + 4 = omega arith in rw e hd

      pub first-bad : {r : RefusalAt} → system id bs (place + 8) ≡ bad r → mask bs place ≡ bad r
      unfolding mask systems ◌>>=◌
      first-bad e = rw (counted-two, id-there, e)

      module _ {s : System} {end : ℕ} (hs : system id bs (place + 8) ≡ got s end) where
        pub mask_one : n ≡ 1 → mask_end (record { systems = 1; first = system_plan s (place + 8); second = plan_of none 0 }) (field 6 bs end) ≡ mask_answer place (mask bs place)
        unfolding mask systems ◌>>=◌ ret mask_plan at
        mask_one o =
            let e : n - 1 ≡ 0 = omega arith in
            rw (counted-two, e, id-there, hs) (on (field 6 bs end))
          where
            on : (o : Outcome ℕ) → mask_end (record { systems = 1; first = system_plan s (place + 8); second = plan_of none 0 }) o
                ≡ mask_answer place (next o (λ r m. got (record { systems = s ∷ []; reserved = r }) m))
            on (got v m) = refl
            on (bad r) = refl

        pub mask-two : n ≡ 2 → {first : SystemPlan} {r : Result (Read MaskPlan) RefusalAt} → first ≡ system_plan s (place + 8) → r ≡ second_answer first end (second_system first.id bs end)
            → r ≡ mask_answer place (mask bs place)
        unfolding mask systems second_system ◌>>=◌ ret mask_plan at
        mask-two o p h =
            let e : n - 1 ≡ 1 = omega arith in
            h ∙ ap (λ (first : SystemPlan). second_answer first end (second_system first.id bs end)) p
            ∙ ap (λ (i : ℕ). second_answer (system_plan s (place + 8)) end (second_system i bs end)) (system-long id (place + 8) bs hs).of
            ∙ rw (counted-two, e, id-there, hs) (on-id (judged 4 (wrong_id known (id ∷ [])) bs end))
          where
            on-end : (t : System) (o : Outcome ℕ)
                → second_answer (system_plan s (place + 8)) end (next o (λ r m. got t m)) ≡ mask_answer place (next o (λ r m. got (record { systems = s ∷ t ∷ []; reserved = r }) m))
            on-end t (got r m) =
                let e : end + 4 ≡ place + 8 + (60 + length s.cells) + 4 = omega (arith, (system-long id (place + 8) bs hs).ends) in
                ap (λ (x : ℕ). Ok (record { plan = record { systems = 2; first = system_plan s (place + 8); second = system_plan t x }; end = m })) e
            on-end t (bad r) = refl

            on-system : (o : Outcome System) → second_answer (system_plan s (place + 8)) end (next o (λ t m. next (field 6 bs m) (λ r k. got t k)))
                ≡ mask_answer place (next (next (next o (λ t m. got (t ∷ []) m)) (λ ts m. got (s ∷ ts) m)) (λ ss m. next (field 6 bs m) (λ r k. got (record { systems = ss; reserved = r }) k)))
            on-system (got t m) = on-end t (field 6 bs m)
            on-system (bad r) = refl

            on-id : (o : Outcome ℕ) → second_answer (system_plan s (place + 8)) end (next o (λ i m. next (system i bs m) (λ t k. next (field 6 bs k) (λ r l. got t l))))
                ≡ mask_answer place (next (next (next o (λ i m. next (system i bs m) (λ t k. got (t ∷ []) k))) (λ ts m. got (s ∷ ts) m))
                (λ ss m. next (field 6 bs m) (λ r k. got (record { systems = ss; reserved = r }) k)))
            on-id (got i m) = on-system (system i bs m)
            on-id (bad r) = refl
