-- The orbit, clock, code and phase blocks of a mask's systems end as the block that is passed over by the mask plan's numbers.
-- A mask has at most two systems, each with a row of items of one width; a system that is not there has a row of none.
use Prim.Native.Nat.{ℕ, ◌+◌, ◌≤◌}
use native.Mathlib.Omega.{arith}
use mathlib.Core.Bool.{Bool}
use mathlib.Core.List.{List, [], ◌∷◌}
use mathlib.Core.Option.{none}
use mathlib.Core.Path.{◌≡◌, refl, sym, ap, ◌∙◌}
use lib.ListN.{length}
use Rattle.mt1.specs.Parse.{Parser, ◌>>=◌, ret, raw, field, times, for_each}
use Rattle.mt1.specs.Message.{System, count, cells_of}
use Rattle.mt1.specs.Mt1.{interval, block, iod_bits, orbit, orbits, clocks, codes, phase, phases}
use Rattle.mt1.specs.Records.{at}
use Rattle.std.specs.Prelude.{Ok}
use Rattle.reader.specs.declared.mask.SystemPlan.{SystemPlan}
use Rattle.reader.specs.declared.mask.MaskPlan.{MaskPlan}
use Rattle.reader.specs.Steps.{step_of, system_plan, plan_of, mask_plan, MaskOf, skipped_block}
use Rattle.reader.proofs.Skipping.{Step, walk, walk_same, walk-whole, step-bind, step-ret, field-bind, field-last, for_each-steps, times_none, times-same, item-steps, item-pair, item-field, block-steps}

module _ (bs : List Bool) where
  -- ---- the rows of at most two systems
  for_each-none : {S A : Type 0} (p : S → Parser A) (i : ℕ) → step_of (for_each [] p bs i) ≡ Ok i
  unfolding for_each ret
  for_each-none p i = refl

  -- R items of a system, each read by p; of its plan, N items of widths W
  module _ {A : Type 0} (R : System → ℕ) (p : System → Parser A) (N : SystemPlan → ℕ) (W : SystemPlan → List ℕ) (z : N (plan_of none 0) ≡ 0)
      (same : (s : System) (x : ℕ) → N (system_plan s x) ≡ R s) (item : (s : System) (x m : ℕ) → step_of (p s bs m) ≡ step_of (for_each (W (system_plan s x)) field bs m)) where
    abbrev q : System → Parser (List A)
    q s = times (R s) (p s)

    abbrev row_of : SystemPlan → ℕ → Step
    row_of l i = step_of (times (N l) (for_each (W l) field) bs i)

    no_row : (i : ℕ) → row_of (plan_of none 0) i ≡ Ok i
    no_row i = ap (λ (n : ℕ). step_of (times n (for_each (W (plan_of none 0)) field) bs i)) z ∙ times_none bs (for_each (W (plan_of none 0)) field) i

    row-of : (s : System) (x i : ℕ) → step_of (q s bs i) ≡ row_of (system_plan s x) i
    row-of s x i = ap (λ (n : ℕ). step_of (times n (p s) bs i)) (sym (same s x)) ∙ times-same bs (N (system_plan s x)) (p s) (for_each (W (system_plan s x)) field) i (item s x)

    rows : (ss : List System) (place : ℕ) → length ss ≤ 2 → (i : ℕ)
        → step_of (for_each ss (λ s. times (R s) (p s)) bs i) ≡ walk (row_of (mask_plan ss place).first i) (row_of (mask_plan ss place).second)
    unfolding mask_plan at
    rows [] place few i = for_each-none q i ∙ sym (walk_same (Ok i) (row_of (plan_of none 0)) Ok (no_row i) no_row)
    rows (s ∷ []) place few i = for_each-steps bs q s [] i
        ∙ walk_same (row_of (system_plan s (place + 8)) i) (λ m. step_of (for_each [] q bs m)) (row_of (plan_of none 0)) (row-of s _ i) (λ m. for_each-none q m ∙ sym (no_row m))
    rows (s ∷ t ∷ []) place few i = for_each-steps bs q s (t ∷ []) i
        ∙ walk_same (row_of (system_plan s (place + 8)) i) (λ m. step_of (for_each (t ∷ []) q bs m)) (row_of (mask_plan (s ∷ t ∷ []) place).second) (row-of s _ i) (λ m.
        for_each-steps bs q t [] m ∙ walk-whole (step_of (q t bs m)) (λ k. step_of (for_each [] q bs k)) (λ k _. for_each-none q k) ∙ row-of t _ m)
    rows (s ∷ t ∷ u ∷ ss) place few i = absurd (let z : ⊥ = omega arith in z)

  -- ---- the blocks
  block-step : {A : Type 0} (p : Parser A) (i : ℕ) → step_of (block p bs i) ≡ walk (step_of (interval bs i)) (λ k. step_of (p bs k))
  unfolding block
  block-step p i = step-bind bs interval (λ v. p >>= λ x. ret (record { interval = v; body = x })) (λ k. step_of (p bs k)) i (λ v k _. step-ret bs p (λ x. record { interval = v; body = x }) k)

  whole : {A : Type 0} (p : Parser A) (x n m : ℕ) (v w : List ℕ) (i : ℕ)
      → ((k : ℕ) → step_of (p bs k) ≡ walk (step_of (times x (for_each (2 ∷ []) field) bs k))
      λ j. walk (step_of (times n (for_each v field) bs j)) λ l. step_of (times m (for_each w field) bs l))
      → step_of (block p bs i) ≡ step_of (skipped_block x n v m w bs i)
  whole p x n m v w i e = block-step p i ∙ walk_same (step_of (interval bs i)) (λ k. step_of (p bs k)) _ refl e ∙ sym (block-steps bs x n m v w i)

  -- with no multipliers
  plain : {A : Type 0} (p : Parser A) (n m : ℕ) (v w : List ℕ) (i : ℕ)
      → ((k : ℕ) → step_of (p bs k) ≡ walk (step_of (times n (for_each v field) bs k)) λ l. step_of (times m (for_each w field) bs l))
      → step_of (block p bs i) ≡ step_of (skipped_block 0 n v m w bs i)
  plain p n m v w i e = whole p 0 n m v w i λ k.
      e k ∙ ap (λ (s : Step). walk s λ j. walk (step_of (times n (for_each v field) bs j)) λ l. step_of (times m (for_each w field) bs l))
      (sym (times_none bs (for_each (2 ∷ []) field) k))

  orbit-item : (id m : ℕ) → step_of (orbit id bs m) ≡ step_of (for_each (iod_bits id ∷ 13 ∷ 12 ∷ 12 ∷ []) field bs m)
  unfolding orbit
  orbit-item id m =
      field-bind bs (iod_bits id)
      (λ iod. field 13 >>= λ radial. field 12 >>= λ in_track. field 12 >>= λ cross_track. ret (record { iod = iod; radial = radial; in_track = in_track; cross_track = cross_track }))
      (λ j. walk (step_of (raw 13 bs j)) λ k. walk (step_of (raw 12 bs k)) λ l. step_of (raw 12 bs l)) m
      (λ iod j. field-bind bs 13
      (λ radial. field 12 >>= λ in_track. field 12 >>= λ cross_track. ret (record { iod = iod; radial = radial; in_track = in_track; cross_track = cross_track }))
      (λ k. walk (step_of (raw 12 bs k)) λ l. step_of (raw 12 bs l)) j
      (λ radial k. field-bind bs 12
      (λ in_track. field 12 >>= λ cross_track. ret (record { iod = iod; radial = radial; in_track = in_track; cross_track = cross_track }))
      (λ l. step_of (raw 12 bs l)) k
      (λ in_track l. field-last bs 12 (λ cross_track. record { iod = iod; radial = radial; in_track = in_track; cross_track = cross_track }) l)))
      ∙ sym (item-steps bs (iod_bits id) 13 12 12 m)

  phase-item : (m : ℕ) → step_of (phase bs m) ≡ step_of (for_each (11 ∷ 2 ∷ []) field bs m)
  unfolding phase
  phase-item m = field-bind bs 11 (λ b. field 2 >>= λ d. ret (record { bias = b; discontinuity = d })) (λ k. step_of (raw 2 bs k)) m
      (λ b k. field-last bs 2 (λ d. record { bias = b; discontinuity = d }) k) ∙ sym (item-pair bs 11 2 m)

  clocks-steps : (ss : List System) (k : ℕ) → step_of (clocks ss bs k)
      ≡ walk (step_of (times (length ss) (field 2) bs k)) λ j. step_of (for_each ss (λ s. times (count s.satellites) (field 13)) bs j)
  unfolding clocks
  clocks-steps ss k =
      let cs = for_each ss (λ s. times (count s.satellites) (field 13)) in
      step-bind bs (times (length ss) (field 2)) (λ ms. cs >>= λ c. ret (record { multipliers = ms; clocks = c })) (λ j. step_of (cs bs j)) k
      (λ ms j _. step-ret bs cs (λ c. record { multipliers = ms; clocks = c }) j)

  module _ {ss : List System} {place : ℕ} {mask : MaskPlan} (o : MaskOf ss place mask) (i : ℕ) where
    pub orbits-rows : {v w : ℕ} → v ≡ iod_bits mask.first.id → w ≡ iod_bits mask.second.id
        → step_of (skipped_block 0 mask.first.satellites (v ∷ 13 ∷ 12 ∷ 12 ∷ []) mask.second.satellites (w ∷ 13 ∷ 12 ∷ 12 ∷ []) bs i) ≡ step_of (block (orbits ss) bs i)
    unfolding orbits
    orbits-rows e f = rw (e, f, o.planned) (sym (plain (orbits ss) _ _ _ _ i
        (rows (λ s. count s.satellites) (λ s. orbit s.id) (λ l. l.satellites) (λ l. iod_bits l.id ∷ 13 ∷ 12 ∷ 12 ∷ []) refl (λ s x. refl) (λ s x m. orbit-item s.id m)
        ss place o.few)))

    pub clocks-rows : step_of (skipped_block mask.systems mask.first.satellites (13 ∷ []) mask.second.satellites (13 ∷ []) bs i)
        ≡ step_of (block (clocks ss) bs i)
    unfolding mask_plan
    clocks-rows = rw o.planned (sym (whole (clocks ss) (length ss) _ _ _ _ i λ k.
        clocks-steps ss k
        ∙ walk_same (step_of (times (length ss) (for_each (2 ∷ []) field) bs k)) (λ j. step_of (for_each ss (λ s. times (count s.satellites) (field 13)) bs j)) _
        (times-same bs (length ss) (field 2) (for_each (2 ∷ []) field) k (λ m. sym (item-field bs 2 m)))
        (rows (λ s. count s.satellites) (λ s. field 13) (λ l. l.satellites) (λ l. 13 ∷ []) refl (λ s x. refl) (λ s x m. sym (item-field bs 13 m)) ss place o.few)))

    pub codes-rows : step_of (skipped_block 0 mask.first.cells (11 ∷ []) mask.second.cells (11 ∷ []) bs i) ≡ step_of (block (codes ss) bs i)
    unfolding codes
    codes-rows = rw o.planned (sym (plain (codes ss) _ _ _ _ i
        (rows (λ s. count (cells_of s)) (λ s. field 11) (λ l. l.cells) (λ l. 11 ∷ []) refl (λ s x. refl) (λ s x m. sym (item-field bs 11 m)) ss place o.few)))

    pub phases-rows : step_of (skipped_block 0 mask.first.cells (11 ∷ 2 ∷ []) mask.second.cells (11 ∷ 2 ∷ []) bs i) ≡ step_of (block (phases ss) bs i)
    unfolding phases
    phases-rows = rw o.planned (sym (plain (phases ss) _ _ _ _ i
        (rows (λ s. count (cells_of s)) (λ s. phase) (λ l. l.cells) (λ l. 11 ∷ 2 ∷ []) refl (λ s x. refl) (λ s x m. phase-item m) ss place o.few)))
