-- Where the rows of the system at a place of the mask stand, from where the blocks stand.
-- A block's rows stand one behind another behind its interval, each as long as its system has satellites or cells.
use Prim.{tt}
use Prim.Native.Nat.{ℕ, zero, suc, ◌+◌, ◌*◌, ◌<◌, ◌^◌}
use native.Mathlib.Nat.{add-zero, mul_comm}
use native.Mathlib.Omega.{arith}
use mathlib.Core.Bool.{Bool}
use mathlib.Core.List.{List, [], ◌∷◌, ◌++◌}
use mathlib.Core.Option.{Option, none, some, some-injective, none-ne-some}
use mathlib.Core.Path.{◌≡◌, refl, ap, ◌∙◌}
use lib.ListN.{length, get_or, take}
use Rattle.bits.specs.Bits.{bits}
use Rattle.bits.proofs.Values.{length-bits}
use Rattle.mt1.specs.Message.{System, Orbit, Clocks, Phase, Block, count, cells_of}
use Rattle.mt1.specs.Mt1.{iod_bits}
use Rattle.mt1.specs.Encode.{each, each_of, block_bits, orbit_bits, orbits_bits, clocks_bits, codes_bits, phase_bits, phases_bits}
use Rattle.mt1.specs.Valid.{EachOf, Row, OrbitOk, OrbitsOk, ClocksOk, CodesOk, PhaseOk, PhasesOk, BlockOk}
use Rattle.mt1.specs.Records.{at, body, multiplier_of}
use Rattle.mt1.proofs.Spans.{Span, span-split, span-each, length-each}
use Rattle.mt1.proofs.Several.{each_of_lem}
use Rattle.mt1.proofs.Elements.{at_there, at-get_or, every_some, each_at}
use Rattle.std.specs.Prelude.{Some, None}
use Rattle.reader.specs.Steps.{Place, Stands}
use Rattle.reader.specs.Recording.{row, IfSome, Below, onwards}
use Rattle.reader.proofs.RowValues.{further}
use Rattle.reader.proofs.RowFields.{orbit-width, phase-width}

-- ---- places further on
onwards-none : (place : Place) (n : ℕ) → place ≡ None → onwards place n ≡ None
onwards-none place n e = rw e

-- what so much of a string is behind
unfoldable pub total : (System → ℕ) → List System → ℕ
total w [] = 0
total w (s ∷ ss) = w s + total w ss

pub total-one : (w : System → ℕ) (ss : List System) {s : System} → at ss 0 ≡ some s → total w (take 1 ss) ≡ w s
unfolding at total
total-one w [] {s} e = absurd (none-ne-some s e)
total-one w (t ∷ ss) {s} e = add-zero (w t) ∙ ap w (some-injective t s e)

-- ---- rows of which a system has n, each of k bits
module _ {A : Type 0} (n k : System → ℕ) (Q : System → A → Type 0) (g : System → A → List Bool) (long : (s : System) (x : A) → length (g s x) ≡ k s) where
  long-row : (s : System) (r : List A) → Row (n s) (Q s) r → length (each (g s) r) ≡ n s * k s
  long-row s r o = length-each (g s) (k s) (long s) r ∙ ap (λ (l : ℕ). k s * l) o.0 ∙ mul_comm (k s) (n s)

  row_at : {bs : List Bool} (ss : List System) (rows : List (List A)) (p : ℕ) {s : System} {o end : ℕ}
      → at ss p ≡ some s → EachOf (λ t. Row (n t) (Q t)) ss rows → Span bs o (each_of (λ t. each (g t)) ss rows) end
      → (e : ℕ) × Span bs (o + total (λ t. n t * k t) (take p ss)) (each (g s) (get_or rows p [])) e
  unfolding at each_of total
  row_at [] rows p {s} e f sp = absurd (none-ne-some s e)
  row_at (t ∷ ss) [] p e f sp = absurd f
  row_at (t ∷ ss) (r ∷ rows) zero {s} {o} e f sp =
      (o + length (each (g t) r), rw (add-zero o, ← (some-injective t s e)) (span-split (each (g t) r) _ sp).0)
  row_at (t ∷ ss) (r ∷ rows) (suc p) {s} {o} e f sp =
      let x = row_at ss rows p e f.1 (span-split (each (g t) r) _ sp).1 in
      let m : ℕ = total (λ t. n t * k t) (take p ss) in
      let j : o + length (each (g t) r) + m ≡ o + (n t * k t + m) = omega (arith, long-row t r f.0) in
      (x.0, rw (← j) x.1)

  module _ (bs : List Bool) (ss : List System) (p : ℕ) {s : System} (here : at ss p ≡ some s) where
    -- behind an interval and what else stands before them
    some-row : (rows : List (List A)) (pre : List Bool) (place : Place) (q interval end m : ℕ) → EachOf (λ t. Row (n t) (Q t)) ss rows
        → place ≡ Some q → Span bs q (bits 4 interval ++ (pre ++ each_of (λ t. each (g t)) ss rows)) end → length pre ≡ m
        → Stands bs (onwards place (4 + m + total (λ t. n t * k t) (take p ss))) (each (g s)) (some (get_or rows p [])) × Row (n s) (Q s) (get_or rows p [])
    some-row rows pre place q interval end m f h sp e =
        let w : ℕ = total (λ t. n t * k t) (take p ss) in
        let x = row_at ss rows p here f (span-split pre _ (span-split (bits 4 interval) _ sp).1).1 in
        let j : q + length (bits 4 interval) + length pre + w ≡ q + (4 + m + w) = omega (arith, length-bits 4 interval, e) in
        ((q + (4 + m + w), further (4 + m + w) h, (x.0, rw (← j) x.1)), each_at (λ t. Row (n t) (Q t)) [] ss rows p f here)

    block_row : (h : List (List A) → List Bool) → ((rows : List (List A)) → EachOf (λ t. Row (n t) (Q t)) ss rows → each_of (λ t. each (g t)) ss rows ≡ h rows)
        → (place : Place) (b : Option (Block (List (List A)))) → IfSome (BlockOk (EachOf (λ t. Row (n t) (Q t)) ss)) b → Stands bs place (block_bits h) b
        → Stands bs (onwards place (4 + 0 + total (λ t. n t * k t) (take p ss))) (each (g s)) (row b p) × IfSome (Row (n s) (Q s)) (row b p)
    unfolding block_bits
    block_row h is place none o st = (onwards-none place _ st, tt)
    block_row h is place (some b) o st =
        some-row b.body [] place st.0 b.interval st.2.0 0 o.body st.1 (rw (is b.body o.body) st.2.1) refl

-- ---- the blocks
module _ (bs : List Bool) (ss : List System) (p : ℕ) {s : System} (here : at ss p ≡ some s) (place : Place) where
  pub orbit-row : (b : Option (Block (List (List Orbit)))) → IfSome (BlockOk (OrbitsOk ss)) b → Stands bs place (block_bits (orbits_bits ss)) b
      → Stands bs (onwards place (4 + 0 + total (λ t. count t.satellites * (iod_bits t.id + 37)) (take p ss))) (each (orbit_bits s.id)) (row b p)
      × IfSome (Row (count s.satellites) (OrbitOk s.id)) (row b p)
  unfolding orbits_bits
  orbit-row =
      block_row (λ t. count t.satellites) (λ t. iod_bits t.id + 37) (λ t. OrbitOk t.id) (λ t. orbit_bits t.id) (λ t. orbit-width t.id) bs ss p here
      (orbits_bits ss) (λ rows o. refl) place

  pub code_row : (b : Option (Block (List (List ℕ)))) → IfSome (BlockOk (CodesOk ss)) b → Stands bs place (block_bits codes_bits) b
      → Stands bs (onwards place (4 + 0 + total (λ t. count (cells_of t) * 11) (take p ss))) (each (bits 11)) (row b p)
      × IfSome (Row (count (cells_of s)) (λ v. v < 2 ^ 11)) (row b p)
  unfolding codes_bits
  code_row =
      block_row (λ t. count (cells_of t)) (λ t. 11) (λ t v. v < 2 ^ 11) (λ t. bits 11) (λ t. length-bits 11) bs ss p here
      codes_bits (each_of_lem (λ t. Row (count (cells_of t)) (λ v. v < 2 ^ 11)) (each (bits 11)) ss) place

  pub phase-row : (b : Option (Block (List (List Phase)))) → IfSome (BlockOk (PhasesOk ss)) b → Stands bs place (block_bits phases_bits) b
      → Stands bs (onwards place (4 + 0 + total (λ t. count (cells_of t) * 13) (take p ss))) (each phase_bits) (row b p)
      × IfSome (Row (count (cells_of s)) PhaseOk) (row b p)
  unfolding phases_bits
  phase-row =
      block_row (λ t. count (cells_of t)) (λ t. 13) (λ t. PhaseOk) (λ t. phase_bits) (λ t. phase-width) bs ss p here
      phases_bits (each_of_lem (λ t. Row (count (cells_of t)) PhaseOk) (each phase_bits) ss) place

  -- clocks stand behind the multipliers
  pub clock-row : (b : Option (Block Clocks)) → IfSome (BlockOk (ClocksOk ss)) b → Stands bs place (block_bits clocks_bits) b
      → Stands bs (onwards place (4 + 2 * length ss + total (λ t. count t.satellites * 13) (take p ss))) (each (bits 13)) (row (body (λ c. c.clocks) b) p)
      × IfSome (Row (count s.satellites) (λ v. v < 2 ^ 13)) (row (body (λ c. c.clocks) b) p)
  unfolding block_bits clocks_bits
  clock-row none o st = (onwards-none place _ st, tt)
  clock-row (some b) o st =
      let c = b.body in
      let k = o.body in
      let e = each_of_lem (λ t. Row (count t.satellites) (λ v. v < 2 ^ 13)) (each (bits 13)) ss c.clocks k.clocks in
      some-row (λ t. count t.satellites) (λ t. 13) (λ t v. v < 2 ^ 13) (λ t. bits 13) (λ t. length-bits 13) bs ss p here
      c.clocks (each (bits 2) c.multipliers) place st.0 b.interval st.2.0 (2 * length ss) k.clocks st.1 (rw e st.2.1)
      (length-each (bits 2) 2 (length-bits 2) c.multipliers ∙ ap (λ (l : ℕ). 2 * l) k.multipliers.0)

  pub multiplier-at : p < length ss → (b : Option (Block Clocks)) → IfSome (BlockOk (ClocksOk ss)) b → Stands bs place (block_bits clocks_bits) b
      → Stands bs (onwards place (4 + 2 * p)) (bits 2) (multiplier_of b p) × Below (2 ^ 2) (multiplier_of b p)
  unfolding block_bits clocks_bits
  multiplier-at h none o st = (onwards-none place (4 + 2 * p) st, tt)
  multiplier-at h (some b) o st =
      let ms = b.body.multipliers in
      let k = o.body.multipliers in
      let (v, e) = at_there ms p (omega (arith, k.0)) in
      let sp = span-each (bits 2) 0 ms p (span-split (each (bits 2) ms) _ (span-split (bits 4 b.interval) _ st.2.1).1).0 (length-bits 2) (omega (arith, k.0)) in
      let j : st.0 + length (bits 4 b.interval) + 2 * p ≡ st.0 + (4 + 2 * p) = omega (arith, length-bits 4 b.interval) in
      rw e ((st.0 + (4 + 2 * p), further (4 + 2 * p) st.1, (_, rw (j, at-get_or 0 ms p e) at sp)), every_some (λ m. m < 2 ^ 2) ms p e k.1)
