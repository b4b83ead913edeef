-- What the writer gathers of a system's satellites is the message's row of them: orbits, clocks, and the subset's choice and clocks.
-- The system's record and the cells give nothing, and the record of the nth masked satellite holds the nth values.
use Prim.Native.Nat.{ℕ, ◌^◌, ◌<◌}
use native.Mathlib.Omega.{arith}
use mathlib.Core.Bool.{Bool, false, not, ◌&&◌, cond}
use mathlib.Core.List.{List, [], ◌∷◌, ◌++◌, append-nil}
use mathlib.Core.Option.{Option, some}
use mathlib.Core.Path.{◌≡◌, refl, sym, ap, ap₂, ◌∙◌}
use lib.Dec.{eqb}
use lib.ListN.{length, get_or}
use Rattle.lists.proofs.Tests.{on_bool, cond-holds}
use Rattle.bits.specs.Bits.{bits, num}
use Rattle.bits.proofs.Values.{bit-one}
use Rattle.mt1.specs.Message as message
use Rattle.mt1.specs.Message.{System, Subset, Block, Clocks, Message, count, count_before, cells_of}
use Rattle.mt1.specs.Mt1.{iod_bits}
use Rattle.mt1.specs.Encode.{each, orbit_bits}
use Rattle.mt1.specs.Valid.{SystemOk, Row, OrbitOk}
use Rattle.mt1.specs.Records.{part, at, body, of_system, subset_of, subset_clock, iod_or, signed_or, system_record, satellite_record, cell_record, build, cell_place}
use Rattle.mt1.proofs.Elements.{at_there, every_some}
use Rattle.mt1.proofs.Counts.{count-all, before-lt, records_of_system}
use Rattle.mt1.proofs.Building.{build-ext, build-empty, picked, build-each, build-bits}
use Rattle.writer.specs.declared.part.Part.TheVariants.{Orbit, Clock, Chosen, SubsetClock}
use Rattle.writer.specs.Writer.{pair}
use Rattle.writer.specs.Rendering.{part_of, gathered}
use Rattle.writer.proofs.Gathering.{gather_all, Local, orbit-local, clock-local, chosen-local, subset-clock-local, cellwise, rowwise, of-system}
use Rattle.writer.proofs.FieldOctets.{widened-13, widened-12, there-13, word_of, two-pair, signed-front, iod-pair, signed-pair}

-- ---- a satellite's octets
-- from octet 4 on: the IOD, three corrections, the clock and the subset's clock
module _ (a r t w c u : Option ℕ) where
  abbrev l5 : List ℕ
  l5 = signed_or 4096 u

  abbrev l4 : List ℕ
  l4 = signed_or 4096 c ++ l5

  abbrev l3 : List ℕ
  l3 = signed_or 2048 w ++ l4

  abbrev l2 : List ℕ
  l2 = signed_or 2048 t ++ l3

  abbrev l1 : List ℕ
  l1 = signed_or 4096 r ++ l2

  abbrev l0 : List ℕ
  l0 = iod_or a ++ l1

  radial-at : pair l0 2 ≡ word_of 4096 r
  radial-at = iod-pair a l1 0 ∙ signed-front 4096 r l2

  in-track-at : pair l0 4 ≡ word_of 2048 t
  in-track-at = iod-pair a l1 2 ∙ signed-pair 4096 r l2 0 ∙ signed-front 2048 t l3

  cross-track-at : pair l0 6 ≡ word_of 2048 w
  cross-track-at = iod-pair a l1 4 ∙ signed-pair 4096 r l2 2 ∙ signed-pair 2048 t l3 0 ∙ signed-front 2048 w l4

  clock-at : pair l0 8 ≡ word_of 4096 c
  clock-at = iod-pair a l1 6 ∙ signed-pair 4096 r l2 4 ∙ signed-pair 2048 t l3 2 ∙ signed-pair 2048 w l4 0 ∙ signed-front 4096 c l5

  subset-clock-at : pair l0 10 ≡ word_of 4096 u
  subset-clock-at =
      iod-pair a l1 8 ∙ signed-pair 4096 r l2 6 ∙ signed-pair 2048 t l3 4 ∙ signed-pair 2048 w l4 2 ∙ signed-pair 4096 c l5 0
      ∙ ap (λ (l : List ℕ). pair l 0) (sym (append-nil l5)) ∙ signed-front 4096 u []

-- the record of its values
abbrev satellite_of : ℕ → ℕ → Option message.Orbit → Option ℕ → Option ℕ → List ℕ
satellite_of p i o c u =
    3 ∷ p ∷ i ∷ 0 ∷ l0 (part (λ x. x.iod) o) (part (λ x. x.radial) o) (part (λ x. x.in_track) o) (part (λ x. x.cross_track) o) c u

-- whether the subset's clock is there
abbrev is_there : Option ℕ → Bool
is_there u = not (eqb (word_of 4096 u) 32768)

-- what the parts take of it
module _ (s : List ℕ) (p i : ℕ) where
  orbit-of : (o : message.Orbit) (c u : Option ℕ) → part_of Orbit s (satellite_of p i (some o) c u) ≡ orbit_bits (get_or s 2 0) o
  unfolding part_of orbit_bits
  orbit-of o c u =
      let a = some o.iod in
      let r = some o.radial in
      let t = some o.in_track in
      let w = some o.cross_track in
      ap₂ (λ (x y : List Bool). x ++ y) (ap (bits (iod_bits (get_or s 2 0))) (two-pair o.iod (l1 a r t w c u)))
      (ap₂ (λ (x y : List Bool). x ++ y) (ap (bits 13) (radial-at a r t w c u) ∙ widened-13 o.radial)
      (ap₂ (λ (x y : List Bool). x ++ y) (ap (bits 12) (in-track-at a r t w c u) ∙ widened-12 o.in_track)
      (ap (bits 12) (cross-track-at a r t w c u) ∙ widened-12 o.cross_track)))

  module _ (o : Option message.Orbit) (c u : Option ℕ) where
    clock-of : part_of Clock s (satellite_of p i o c u) ≡ bits 13 (word_of 4096 c)
    unfolding part_of
    clock-of = ap (bits 13) (clock-at (part (λ x. x.iod) o) (part (λ x. x.radial) o) (part (λ x. x.in_track) o) (part (λ x. x.cross_track) o) c u)

    subset-pair : pair (satellite_of p i o c u) 14 ≡ word_of 4096 u
    subset-pair = subset-clock-at (part (λ x. x.iod) o) (part (λ x. x.radial) o) (part (λ x. x.in_track) o) (part (λ x. x.cross_track) o) c u

    chosen_of : part_of Chosen s (satellite_of p i o c u) ≡ bits 1 (num (is_there u))
    unfolding part_of
    chosen_of = ap (λ (w : ℕ). bits 1 (num (not (eqb w 32768)))) subset-pair

    subset-clock-of : part_of SubsetClock s (satellite_of p i o c u) ≡ cond (is_there u) (bits 13 (word_of 4096 u)) []
    unfolding part_of
    subset-clock-of = ap (λ (w : ℕ). cond (not (eqb w 32768)) (bits 13 w) []) subset-pair

-- ---- a part that takes h n of the nth satellite's record, whichever satellite it is, and nothing of the others
module _ (m : Message) (p : ℕ) (s : System) (ok : SystemOk s) (f : List ℕ → List Bool) (local : Local f) (no-system : f (system_record m p s) ≡ [])
    (no_cell : (i g n : ℕ) → f (cell_record m p i g n) ≡ []) (h : ℕ → List Bool) (nth : (i n : ℕ) → f (satellite_record m p s i n) ≡ h n) where
  no_cells : (i : ℕ) → ◌≡◌ {A = List Bool} (build 16 (cellwise s (λ n. []) i)) []
  unfolding cellwise
  no_cells i =
      build-ext 16 (cellwise s (λ n. []) i) (λ g. [])
      (λ g k. cond-holds (λ (r : List Bool). r ≡ []) (get_or s.signals g false && get_or (cells_of s) (cell_place s i g) false) refl refl)
      ∙ build-empty 16

  satellites-all : gather_all f (records_of_system m p s) ≡ build (count s.satellites) h
  satellites-all =
      of-system m p s ok f local h (λ n. []) no-system nth no_cell
      ∙ build-ext 40 (rowwise s h (λ n. [])) (λ i. cond (get_or s.satellites i false) (h (count_before s.satellites i)) [])
      (λ i k. ap (λ (r : List Bool). cond (get_or s.satellites i false) r [])
      (ap (λ (r : List Bool). h (count_before s.satellites i) ++ r) (no_cells i) ∙ append-nil (h (count_before s.satellites i))))
      ∙ picked s.satellites 40 h
      ∙ ap (λ (k : ℕ). build k h) (count-all s.satellites 40 (omega (arith, ok.satellites)))

-- ---- the subset's clock
module _ (x : Subset) (row : Row (count x.chosen) (λ v. v < 2 ^ 13) x.clocks) where
  -- it is there where the satellite is chosen
  there-chosen : (n : ℕ) → is_there (subset_clock (some x) n) ≡ get_or x.chosen n false
  unfolding subset_clock
  there-chosen n =
      on_bool (get_or x.chosen n false)
      (λ q. rw q (
      let (v, e) = at_there x.clocks (count_before x.chosen n) (omega (arith, row.0, before-lt x.chosen n q)) in
      ap is_there e ∙ ap not (there-13 v (every_some (λ v. v < 2 ^ 13) x.clocks (count_before x.chosen n) e row.1))))
      (λ q. rw q)

  -- and then it is the next
  taken-clock : (n : ℕ) → cond (is_there (subset_clock (some x) n)) (bits 13 (word_of 4096 (subset_clock (some x) n))) []
      ≡ cond (get_or x.chosen n false) (bits 13 (word_of 4096 (at x.clocks (count_before x.chosen n)))) []
  unfolding subset_clock
  taken-clock n =
      ap (λ (b : Bool). cond b (bits 13 (word_of 4096 (subset_clock (some x) n))) []) (there-chosen n)
      ∙ on_bool (get_or x.chosen n false) (λ q. rw q) (λ q. rw q)

-- ---- the parts
module _ (m : Message) (p : ℕ) (s : System) (ok : SystemOk s) where
  abbrev own : List ℕ
  own = records_of_system m p s

  -- the nth masked satellite's values
  abbrev orbit_at : ℕ → Option message.Orbit
  orbit_at n = of_system m.orbits p n

  abbrev clock_at : ℕ → Option ℕ
  clock_at n = of_system (body (λ c. c.clocks) m.clocks) p n

  abbrev subset_at : ℕ → Option ℕ
  subset_at n = subset_clock (subset_of m.subset s.id) n

  pub orbit-part : (b : Block (List (List message.Orbit))) → m.orbits ≡ some b → Row (count s.satellites) (OrbitOk s.id) (get_or b.body p [])
      → gathered Orbit (records_of_system m p s) ≡ each (orbit_bits s.id) (get_or b.body p [])
  unfolding gathered part_of system_record satellite_record cell_record of_system
  orbit-part b e r =
      satellites-all m p s ok (part_of Orbit own) (orbit-local own) refl (λ i g k. refl) h (λ i k. refl)
      ∙ ap (λ (k : ℕ). build k h) (sym r.0)
      ∙ build-each (orbit_bits s.id) (get_or b.body p []) h
      (λ k x q. ap (λ (y : Option message.Orbit). part_of Orbit own (satellite_of p 0 y (clock_at k) (subset_at k))) (ap (λ (y : Option (Block (List (List message.Orbit)))). of_system y p k) e ∙ q)
      ∙ orbit-of own p 0 x (clock_at k) (subset_at k))
    where
      h : ℕ → List Bool
      h k = part_of Orbit own (satellite_of p 0 (orbit_at k) (clock_at k) (subset_at k))

  pub clock-part : (b : Block Clocks) → m.clocks ≡ some b → Row (count s.satellites) (λ v. v < 2 ^ 13) (get_or b.body.clocks p [])
      → gathered Clock (records_of_system m p s) ≡ each (bits 13) (get_or b.body.clocks p [])
  unfolding gathered part_of system_record satellite_record cell_record of_system
  clock-part b e r =
      satellites-all m p s ok (part_of Clock own) (clock-local own) refl (λ i g k. refl) h (λ i k. clock-of own p i (orbit_at k) (clock_at k) (subset_at k))
      ∙ ap (λ (k : ℕ). build k h) (sym r.0)
      ∙ build-each (bits 13) (get_or b.body.clocks p []) h
      (λ k v q. ap (λ (y : Option ℕ). bits 13 (word_of 4096 y)) (ap (λ (y : Option (Block Clocks)). of_system (body (λ c. c.clocks) y) p k) e ∙ q) ∙ widened-13 v)
    where
      h : ℕ → List Bool
      h k = bits 13 (word_of 4096 (clock_at k))

  module _ (x : Subset) (e : subset_of m.subset s.id ≡ some x) (all : length x.chosen ≡ count s.satellites) (row : Row (count x.chosen) (λ v. v < 2 ^ 13) x.clocks) where
    pub chosen-part : gathered Chosen (records_of_system m p s) ≡ x.chosen
    unfolding gathered part_of system_record satellite_record cell_record
    chosen-part =
        satellites-all m p s ok (part_of Chosen own) (chosen-local own) refl (λ i g k. refl) (λ k. get_or x.chosen k false ∷ [])
        (λ i k. chosen_of own p i (orbit_at k) (clock_at k) (subset_at k)
        ∙ ap (λ (b : Bool). bits 1 (num b)) (ap (λ (y : Option Subset). is_there (subset_clock y k)) e ∙ there-chosen x row k)
        ∙ bit-one (get_or x.chosen k false))
        ∙ ap (λ (k : ℕ). build k (λ i. get_or x.chosen i false ∷ [])) (sym all)
        ∙ build-bits x.chosen

    pub subset-clock-part : gathered SubsetClock (records_of_system m p s) ≡ each (bits 13) x.clocks
    unfolding gathered part_of system_record satellite_record cell_record
    subset-clock-part =
        satellites-all m p s ok (part_of SubsetClock own) (subset-clock-local own) refl (λ i g k. refl) (λ k. cond (get_or x.chosen k false) (h (count_before x.chosen k)) [])
        (λ i k. subset-clock-of own p i (orbit_at k) (clock_at k) (subset_at k)
        ∙ ap (λ (y : Option Subset). cond (is_there (subset_clock y k)) (bits 13 (word_of 4096 (subset_clock y k))) []) e
        ∙ taken-clock x row k)
        ∙ picked x.chosen (count s.satellites) h
        ∙ ap (λ (k : ℕ). build k h) (count-all x.chosen (count s.satellites) (omega (arith, all)) ∙ sym row.0)
        ∙ build-each (bits 13) x.clocks h (λ k v q. ap (λ (y : Option ℕ). bits 13 (word_of 4096 y)) q ∙ widened-13 v)
      where
        h : ℕ → List Bool
        h k = bits 13 (word_of 4096 (at x.clocks k))
