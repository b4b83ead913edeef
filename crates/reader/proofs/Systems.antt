-- A planned message's systems: where the mask and the rows of the first and of the second stand, and that all of it is near.
-- The plan keeps of the first system how many satellites and cells it has, and so how long its rows are.
use Prim.{tt}
use Prim.Native.Nat.{ℕ, ◌+◌, ◌*◌, ◌^◌, ◌≤◌, ◌<◌}
use native.Mathlib.Nat.{add-zero}
use native.Mathlib.Omega.{arith}
use mathlib.Core.Bool.{Bool}
use mathlib.Core.List.{List, []}
use mathlib.Core.Option.{Option, none, some}
use mathlib.Core.Path.{◌≡◌, refl, sym, ap, ap₂, ◌∙◌}
use lib.ListN.{length, take}
use Rattle.bits.specs.Bits.{bits, bits_of}
use Rattle.bits.proofs.Octets.{length-bits_of}
use Rattle.mt1.specs.Message.{has_orbit, has_clock, has_subset, has_code, has_phase, System, Message, count, cells_of}
use Rattle.mt1.specs.Mt1.{known, iod_bits, Lent}
use Rattle.mt1.specs.Valid.{SystemOk, IfFlag}
use Rattle.mt1.specs.Encode.{each, block_bits, orbit_bits, orbits_bits, clocks_bits, codes_bits, phase_bits, phases_bits}
use Rattle.mt1.specs.Records.{at, body, of_id, subset_of}
use Rattle.mt1.proofs.Masks.{known_small}
use Rattle.mt1.proofs.Several.{if-flag, memb-every}
use Rattle.mt1.proofs.Elements.{every_some, may_come, satellites-of}
use Rattle.mt1.proofs.Blocks.{iod-le}
use Rattle.mt1.proofs.Counts.{satellites-few, count-cells}
use Rattle.reader.specs.declared.mask.SystemPlan.{SystemPlan}
use Rattle.reader.specs.declared.mask.MaskPlan.{MaskPlan}
use Rattle.reader.specs.declared.plan.Plan.{Plan}
use Rattle.reader.specs.declared.record.Rows.{Rows}
use Rattle.reader.specs.Steps.{system_plan, plan_of, cells_length, mask_plan, Place, Stands, StandsAt, part_bits, chain, subsets_in, Planned}
use Rattle.reader.specs.Recording.{row, IfSome, SystemStands, Within, Near, RowsStand, Emits, onwards, Close, first_rows, second_rows}
use Rattle.reader.proofs.SystemSteps.{mask-cells}
use Rattle.reader.proofs.InMask.{part-ok, part_of_lem}
use Rattle.reader.proofs.RowsStanding.{total, total-one, orbit-row, code_row, phase-row, clock-row, multiplier-at}

if_some : {A : Type 0} (b : Bool) (P : A → Type 0) (x : Option A) → IfFlag b P x → IfSome P x
if_some b P x o = if-flag P (λ _. IfSome P) (λ y p. p) tt b x o

-- ---- the rows of the system at place p
module _ {lent : Lent} {octets sourced : List ℕ} {m : Message} {ss : List System} {plan : Plan} (planned : Planned lent octets sourced m ss plan) where
  abbrev place : ℕ
  place = planned.mask.made.0

  -- ---- of the mask
  pub systems-are : plan.mask.systems ≡ length ss
  unfolding mask_plan
  systems-are = ap (λ (q : MaskPlan). q.systems) planned.mask.made.1.planned

  first-is : {s : System} → at ss 0 ≡ some s → plan.mask.first ≡ system_plan s (place + 8)
  unfolding mask_plan
  first-is e = ap (λ (q : MaskPlan). q.first) planned.mask.made.1.planned ∙ ap (λ (x : Option System). plan_of x (place + 8)) e

  second_is : {s t : System} → at ss 0 ≡ some s → at ss 1 ≡ some t → plan.mask.second ≡ system_plan t (place + 8 + (60 + length s.cells) + 4)
  unfolding mask_plan
  second_is {s} {t} e f =
      ap (λ (q : MaskPlan). q.second) planned.mask.made.1.planned
      ∙ ap₂ (λ (x y : Option System). plan_of x (place + 8 + (60 + cells_length y) + 4)) f e

  module _ (p : ℕ) {s : System} (here : at ss p ≡ some s) where
    pub ok_at : SystemOk s
    ok_at = every_some SystemOk ss p here planned.mask.made.1.each

    system-stands : {q : SystemPlan} {n : ℕ} → q ≡ system_plan s n → StandsAt (bits_of sourced) q.place (at ss p) → SystemStands (bits_of sourced) s q
    system-stands {q} {n} e st = record {
      planned = e ∙ ap (system_plan s) (sym (ap (λ (x : SystemPlan). x.place) e));
      ok = ok_at;
      known = memb-every (λ i. i < 2 ^ 4) known s.id known_small (may_come known [] ss p here planned.mask.made.1.differ);
      bits = rw here at st;
    }

    -- ---- of the rows
    rows_at : (rows : Rows) → p < length ss → rows.iod ≡ iod_bits s.id
        → rows.orbit ≡ onwards plan.orbit (4 + 0 + total (λ t. count t.satellites * (iod_bits t.id + 37)) (take p ss))
        → rows.multiplier ≡ onwards plan.clock (4 + 2 * p)
        → rows.clock ≡ onwards plan.clock (4 + 2 * length ss + total (λ t. count t.satellites * 13) (take p ss))
        → Stands (bits_of octets) rows.part part_bits (chain (at ss p) (λ t. of_id (subsets_in m.subset) t.id))
        → rows.code ≡ onwards plan.code (4 + 0 + total (λ t. count (cells_of t) * 11) (take p ss))
        → rows.phase ≡ onwards plan.phase (4 + 0 + total (λ t. count (cells_of t) * 13) (take p ss))
        → RowsStand (bits_of octets) m p s rows
    rows_at rows h iod orbit multiplier clock part code phase =
        let b = planned.blocks in
        let k = planned.ok in
        let o = orbit-row (bits_of octets) ss p here plan.orbit m.orbits (if_some (has_orbit m.header) _ m.orbits k.orbits) b.orbit in
        let ck = if_some (has_clock m.header) _ m.clocks k.clocks in
        let u = multiplier-at (bits_of octets) ss p here plan.clock h m.clocks ck b.clock in
        let c = clock-row (bits_of octets) ss p here plan.clock m.clocks ck b.clock in
        let x = code_row (bits_of octets) ss p here plan.code m.codes (if_some (has_code m.header) _ m.codes k.codes) b.code in
        let y = phase-row (bits_of octets) ss p here plan.phase m.phases (if_some (has_phase m.header) _ m.phases k.phases) b.phase in
        record {
          iod = iod;
          orbit = rw orbit o.0;
          orbit_ok = o.1;
          multiplier = rw multiplier u.0;
          multiplier_ok = u.1;
          clock = rw clock c.0;
          clock_ok = c.1;
          part = rw (here, part_of_lem m.subset s.id) at part;
          part_ok = rw (satellites-of known [] ss p here planned.mask.made.1.differ) at (part-ok ss m.subset s.id (if_some (has_subset m.header) _ m.subset k.subset));
          code = rw code x.0;
          code_ok = x.1;
          phase = rw phase y.0;
          phase_ok = y.1;
        }

  -- ---- the first and the second
  short : length (bits_of octets) ≤ 163840
  short = omega (arith, length-bits_of octets, planned.short)

  stands-near : {A : Type 0} (place : Place) (f : A → List Bool) (x : Option A) → Stands (bits_of octets) place f x → Within 163840 place
  stands-near place f none st = rw st tt
  stands-near place f (some x) st = rw st.1 (let z : st.0 ≤ 163840 = omega (arith, st.2.1.fits, st.2.1.after, short) in z)

  pub near-rows : {p : ℕ} {s : System} {rows : Rows} → RowsStand (bits_of octets) m p s rows → Near rows
  near-rows {p} {s} {rows} r = record {
    iod = omega (arith, r.iod, iod-le s.id);
    orbit = stands-near rows.orbit (each (orbit_bits s.id)) (row m.orbits p) r.orbit;
    clock = stands-near rows.clock (each (bits 13)) (row (body (λ c. c.clocks) m.clocks) p) r.clock;
    part = stands-near rows.part part_bits (subset_of m.subset s.id) r.part;
    code = stands-near rows.code (each (bits 11)) (row m.codes p) r.code;
    phase = stands-near rows.phase (each phase_bits) (row m.phases p) r.phase;
  }

  -- what the plan keeps of a system is small, also where there is none
  few-at : (p n : ℕ) (x : Option System) → at ss p ≡ x → ((plan_of x n).satellites ≤ 40) × ((plan_of x n).cells ≤ 640)
  few-at p n none e = (omega arith, omega arith)
  few-at p n (some s) e = (satellites-few s (ok_at p e), count-cells s (ok_at p e))

  pub close : Close plan
  unfolding mask_plan
  close =
      let b = planned.blocks in
      let k = planned.mask.made.1 in
      let q = ap (λ (x : MaskPlan). x.first) k.planned in
      let x = few-at 0 (place + 8) (at ss 0) refl in
      record {
        orbit = stands-near plan.orbit (block_bits (orbits_bits ss)) m.orbits b.orbit;
        clock = stands-near plan.clock (block_bits clocks_bits) m.clocks b.clock;
        code = stands-near plan.code (block_bits codes_bits) m.codes b.code;
        phase = stands-near plan.phase (block_bits phases_bits) m.phases b.phase;
        systems = omega (arith, systems-are, k.few);
        satellites = omega (arith, ap (λ (x : SystemPlan). x.satellites) q, x.0);
        cells = omega (arith, ap (λ (x : SystemPlan). x.cells) q, x.1);
      }

  pub first-emits : {s : System} → at ss 0 ≡ some s → 0 < length ss → Emits octets sourced plan.mask.first (first_rows plan) m 0 s
  unfolding total
  first-emits {s} e h =
      let q = first-is e in
      let r = rows_at 0 e (first_rows plan) h (ap (λ (x : SystemPlan). iod_bits x.id) q) refl refl
      (ap (onwards plan.clock) (ap (λ (k : ℕ). 4 + 2 * k) systems-are ∙ sym (add-zero (4 + 2 * length ss)))) planned.blocks.parts.first refl refl in
      record {
        near = omega (arith, ap (λ (x : SystemPlan). x.place) q, planned.mask.near);
        rows-near = near-rows r;
        mask = system-stands 0 e q planned.mask.first;
        rows-stand = r;
      }

  pub second-emits : {s t : System} → at ss 0 ≡ some s → at ss 1 ≡ some t → 1 < length ss → Emits octets sourced plan.mask.second (second_rows plan) m 1 t
  second-emits {s} {t} e f h =
      let q = first-is e in
      let r = second_is e f in
      let rows = rows_at 1 f (second_rows plan) h (ap (λ (x : SystemPlan). iod_bits x.id) r)
      (ap (λ (k : ℕ). onwards plan.orbit (4 + k)) (behind (λ x. x.satellites * (iod_bits x.id + 37)))) refl
      (ap₂ (λ (n k : ℕ). onwards plan.clock (4 + 2 * n + k)) systems-are (behind (λ x. x.satellites * 13))) planned.blocks.parts.second
      (ap (λ (k : ℕ). onwards plan.code (4 + k)) (behind (λ x. x.cells * 11))) (ap (λ (k : ℕ). onwards plan.phase (4 + k)) (behind (λ x. x.cells * 13))) in
      record {
        near = omega (arith, ap (λ (x : SystemPlan). x.place) r, planned.mask.near, mask-cells s (ok_at 0 e));
        rows-near = near-rows rows;
        mask = system-stands 1 f r planned.mask.second;
        rows-stand = rows;
      }
    where
      behind : (w : SystemPlan → ℕ) → w plan.mask.first ≡ total (λ x. w (system_plan x (place + 8))) (take 1 ss)
      behind w = ap w (first-is e) ∙ sym (total-one (λ x. w (system_plan x (place + 8))) ss e)
