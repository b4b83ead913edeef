-- What is gathered of a system's cells, its codes, its phases and its cell mask, is what the message has.
-- Satellite by satellite and signal by signal the listed cells have the numbers 0, 1, .. in turn; a cell that is not listed has a later one, or none, in its place.
use Prim.Native.Nat.{ℕ, zero, suc, ◌+◌, ◌*◌, ◌/◌, ◌%◌, ◌^◌, ◌<◌}
use native.Mathlib.Nat.{add-zero, zero-add}
use native.Mathlib.Numerals.{one-add}
use native.Mathlib.Omega.{arith}
use mathlib.Core.Bool.{Bool, true, false, ◌&&◌, cond}
use mathlib.Core.List.{List, [], ◌∷◌, ◌++◌, append-nil, append_assoc}
use mathlib.Core.Option.{Option, none, some}
use mathlib.Core.Path.{◌≡◌, refl, sym, ap, ap₂, ◌∙◌}
use lib.Dec.{eqb}
use lib.ListN.{length, get_or, take, drop, length-append, length-drop, drop_of_length-le}
use lib.Seq.{take_all, drop-cons, take_at, drop_at, drop-append-le}
use borrow.Author.Tests.{eq-eqb, ne_eqb}
use Rattle.lists.proofs.Tests.{on_bool, and_left}
use Rattle.bits.specs.Bits.{bits, bits_of, octets_of}
use Rattle.bits.proofs.Octets.{length-bits_of, bits_of-append, bits-of-octets}
use Rattle.mt1.specs.Message as message-type
use Rattle.mt1.specs.Message.{System, Block, Message, count, count_before, cells_of}
use Rattle.mt1.specs.Encode.{each, phase_bits}
use Rattle.mt1.specs.Valid.{SystemOk, Row, PhaseOk}
use Rattle.mt1.specs.Records.{build, cell_place, system_record, satellite_record, cell_record, cell_records, satellite_records, widened, signed_or, of_system}
use Rattle.mt1.proofs.Counts.{count_next, count-all, length-system, length-satellite, length-cell, satellite-whole, length-cells_of, place_in, records_of_system}
use Rattle.mt1.proofs.Building.{build-holds, build-ext, build-from, from_zero, build-rows, take-rows, picked, build-each}
use Rattle.writer.specs.declared.part.Part.TheVariants.{Code, Phase, Cell}
use Rattle.writer.specs.Rendering.{is_kind, is_cell, row, gather, signals_of, part_of, gathered}
use Rattle.writer.proofs.RecordFields.{kind-long}
use Rattle.writer.proofs.Gathering.{Local, Splits, gather_all, kind-front, all-splits, build-splits, all_none, all_one, code_local, phase-local, cellwise, rowwise, of-system}
use Rattle.writer.proofs.FieldOctets.{widened-11, two-pair}

-- ---- a row, by what is next
module _ (bs : List Bool) (g : ℕ) (l : List ℕ) where
  row_listed : is_cell g l ≡ true → row (true ∷ bs) g l ≡ true ∷ row bs (suc g) (drop 16 l)
  unfolding row bits
  row_listed e = rw e

  row-unlisted : is_cell g l ≡ false → row (true ∷ bs) g l ≡ false ∷ row bs (suc g) l
  unfolding row bits
  row-unlisted e = rw e

-- it ends before what is no cell
no_cell : (g : ℕ) (y : List ℕ) → is_kind 4 y ≡ false → is_cell g y ≡ false
no_cell g y e = rw e

front_splits : (g : ℕ) (x y : List ℕ) → length x % 16 ≡ 0 → is_kind 4 y ≡ false → is_cell g (x ++ y) ≡ is_cell g x
front_splits g [] y h e = no_cell g y e
front_splits g (a ∷ []) y h e = absurd (let z : ⊥ = omega arith in z)
front_splits g (a ∷ b ∷ []) y h e = absurd (let z : ⊥ = omega arith in z)
front_splits g (a ∷ b ∷ c ∷ []) y h e = absurd (let z : ⊥ = omega arith in z)
front_splits g (a ∷ b ∷ c ∷ d ∷ x) y h e = refl

row-splits : (bs : List Bool) (g : ℕ) (x y : List ℕ) → length x % 16 ≡ 0 → is_kind 4 y ≡ false → row bs g (x ++ y) ≡ row bs g x
unfolding row
row-splits [] g x y h e = refl
row-splits (false ∷ bs) g x y h e = row-splits bs (suc g) x y h e
row-splits (true ∷ bs) g x y h e =
    on_bool (is_cell g x)
    (λ q.
    let l = kind-long 3 x (and_left (is_kind 4 x) (eqb (get_or x 3 0) g) q) h in
    row_listed bs g (x ++ y) (front_splits g x y h e ∙ q)
    ∙ ap {B = List Bool} (λ (r : List Bool). true ∷ r) (ap (row bs (suc g)) (drop-append-le 16 x y l) ∙ row-splits bs (suc g) (drop 16 x) y (omega (arith, length-drop 16 x)) e)
    ∙ sym (row_listed bs g x q))
    (λ q.
    row-unlisted bs g (x ++ y) (front_splits g x y h e ∙ q)
    ∙ ap {B = List Bool} (λ (r : List Bool). false ∷ r) (row-splits bs (suc g) x y h e)
    ∙ sym (row-unlisted bs g x q))

-- ---- a satellite's row
module _ (m : Message) (p : ℕ) (s : System) (i : ℕ) where
  is-cell : (g n : ℕ) (z : List ℕ) → is_cell g (cell_record m p i g n ++ z) ≡ true
  unfolding cell_record
  is-cell g n z = eq-eqb g g refl

  -- what comes from a signal on is no cell of an earlier one
  later : (g n h : ℕ) (y : List ℕ) → g < h → is_kind 4 y ≡ false → is_cell g (build n (λ k. cell_records m p s i (h + k)) ++ y) ≡ false
  unfolding build cell_records cell_record
  later g zero h y l e = no_cell g y e
  later g (suc n) h y l e =
      ap (λ (z : List ℕ). is_cell g (z ++ y)) (build-from h n (cell_records m p s i))
      ∙ on_bool (get_or s.signals h false && get_or (cells_of s) (cell_place s i h) false)
      (λ q. rw q (ne_eqb h g (λ k. omega arith)))
      (λ q. rw q (later g n (suc h) y (omega arith) e))

  module _ (o : SystemOk s) (here : get_or s.satellites i false ≡ true) where
    -- whether a masked signal's cell is next is what the cell mask says
    row_next : (bs : List Bool) (g n : ℕ) (z : List ℕ) (c : Bool) → is_cell g z ≡ false → row (true ∷ bs) g (cond c (cell_record m p i g n) [] ++ z) ≡ c ∷ row bs (suc g) z
    row_next bs g n z true e =
        row_listed bs g (cell_record m p i g n ++ z) (is-cell g n z)
        ∙ ap {B = List Bool} (λ (r : List ℕ). true ∷ row bs (suc g) r) (drop_at (cell_record m p i g n) z 16 (length-cell m p i g n))
    row_next bs g n z false e = row-unlisted bs g z e

    row-turn : (g : ℕ) (z : List ℕ) → g < 16 → is_cell g z ≡ false
        → row (drop (suc g) s.signals) (suc g) z ≡ take (count (drop (suc g) s.signals)) (drop (cell_place s i (suc g)) (cells_of s))
        → row (drop g s.signals) g (cell_records m p s i g ++ z) ≡ take (count (drop g s.signals)) (drop (cell_place s i g) (cells_of s))
    unfolding row count cell_records cell_place
    row-turn g z h e again =
        let bs : List Bool = drop (suc g) s.signals in
        let x : ℕ = cell_place s i g in
        let split = drop-cons s.signals g false (omega (arith, o.signals)) in
        let next = count_next s.signals g in
        on_bool (get_or s.signals g false)
        (λ q.
        let d : drop g s.signals ≡ true ∷ bs = rw q at split in
        let f : cell_place s i (suc g) ≡ suc x = omega (arith, rw q at next) in
        let c : Bool = get_or (cells_of s) x false in
        rw (d, q, drop-cons (cells_of s) x false (omega (arith, length-cells_of s o, place_in s i g here q)), one-add (count bs))
        (row_next bs g (count_before (cells_of s) x) z c e ∙ ap {B = List Bool} (λ (r : List Bool). c ∷ r) (again ∙ ap (λ (k : ℕ). take (count bs) (drop k (cells_of s))) f)))
        (λ q.
        let d : drop g s.signals ≡ false ∷ bs = rw q at split in
        let f : cell_place s i (suc g) ≡ x = omega (arith, rw q at next) in
        rw (d, q, zero-add (count bs)) (again ∙ ap (λ (k : ℕ). take (count bs) (drop k (cells_of s))) f))

    row_from : (n g : ℕ) (y : List ℕ) → g + n ≡ 16 → is_kind 4 y ≡ false
        → row (drop g s.signals) g (build n (λ k. cell_records m p s i (g + k)) ++ y) ≡ take (count (drop g s.signals)) (drop (cell_place s i g) (cells_of s))
    unfolding row count build
    row_from zero g y h e = rw (drop_of_length-le s.signals {i = g} (omega (arith, o.signals)))
    row_from (suc n) g y h e =
        let bs : List Bool = drop g s.signals in
        let rest : List ℕ = build n (λ k. cell_records m p s i (suc g + k)) in
        ap (λ (l : List ℕ). row bs g (l ++ y)) (build-from g n (cell_records m p s i))
        ∙ ap (row bs g) (append_assoc (cell_records m p s i g) rest y)
        ∙ row-turn g (rest ++ y) (omega arith) (later g n (suc g) y (omega arith) e) (row_from n (suc g) y (omega arith) e)

    row-cells : (y : List ℕ) → is_kind 4 y ≡ false
        → row s.signals 0 (build 16 (cell_records m p s i) ++ y) ≡ take (count s.signals) (drop (count_before s.satellites i * count s.signals) (cells_of s))
    unfolding cell_place count_before
    row-cells y e =
        ap (λ (l : List ℕ). row s.signals 0 (l ++ y)) (from_zero 16 (cell_records m p s i))
        ∙ row_from 16 0 y refl e
        ∙ ap (λ (k : ℕ). take (count s.signals) (drop k (cells_of s))) (add-zero (count_before s.satellites i * count s.signals))

-- ---- cells in order
module _ {A : Type 0} (s : System) (o : SystemOk s) (h : ℕ → List A) where
  -- at a place of the cell mask
  abbrev placed : ℕ → List A
  placed k = cond (get_or (cells_of s) k false) (h (count_before (cells_of s) k)) []

  only-both : (a b : Bool) (x : List A) → cond (a && b) x [] ≡ cond a (cond b x []) []
  only-both true b x = refl
  only-both false b x = refl

  row-in-order : (i : ℕ) → build 16 (cellwise s h i) ≡ build (count s.signals) (λ k. placed (count_before s.satellites i * count s.signals + k))
  unfolding cellwise cell_place
  row-in-order i =
      let x : ℕ = count_before s.satellites i * count s.signals in
      build-ext 16 (cellwise s h i) (λ g. cond (get_or s.signals g false) (placed (x + count_before s.signals g)) [])
      (λ g l. only-both (get_or s.signals g false) (get_or (cells_of s) (cell_place s i g) false) (h (count_before (cells_of s) (cell_place s i g))))
      ∙ picked s.signals 16 (λ k. placed (x + k))
      ∙ ap (λ (n : ℕ). build n (λ k. placed (x + k))) (count-all s.signals 16 (omega (arith, o.signals)))

  cells-in-order : build 40 (rowwise s (λ n. []) h) ≡ build (count (cells_of s)) h
  cells-in-order =
      let w : ℕ = count s.signals in
      let rows : ℕ → List A = λ n. build w (λ k. placed (n * w + k)) in
      build-ext 40 (rowwise s (λ n. []) h) (λ i. cond (get_or s.satellites i false) (rows (count_before s.satellites i)) [])
      (λ i l. ap (λ (r : List A). cond (get_or s.satellites i false) r []) (row-in-order i))
      ∙ picked s.satellites 40 rows
      ∙ ap (λ (n : ℕ). build n rows) (count-all s.satellites 40 (omega (arith, o.satellites)))
      ∙ build-rows (count s.satellites) w placed
      ∙ picked (cells_of s) (count s.satellites * w) h
      ∙ ap (λ (n : ℕ). build n h) (count-all (cells_of s) (count s.satellites * w) (omega (arith, length-cells_of s o)))

-- ---- codes and phases
-- a part that takes h n of the nth cell's record, and nothing of the others
cells-all : (m : Message) (p : ℕ) (s : System) (o : SystemOk s) (f : List ℕ → List Bool) (local : Local f) (h : ℕ → List Bool)
    → f (system_record m p s) ≡ [] → ((i n : ℕ) → f (satellite_record m p s i n) ≡ []) → ((i g n : ℕ) → f (cell_record m p i g n) ≡ h n)
    → gather_all f (records_of_system m p s) ≡ build (count (cells_of s)) h
cells-all m p s o f local h system satellite cell = of-system m p s o f local (λ n. []) h system satellite cell ∙ cells-in-order s o h

-- ---- a field of a cell's record
bits-two : (v : ℕ) → bits 11 (256 * (widened 1024 v / 256) + widened 1024 v % 256) ≡ bits 11 v
bits-two v = ap (bits 11) (two-pair (widened 1024 v) []) ∙ widened-11 v

module _ (m : Message) (p : ℕ) (t : List ℕ) (i g n : ℕ) where
  code-field : (v : ℕ) → of_system m.codes p n ≡ some v → part_of Code t (cell_record m p i g n) ≡ bits 11 v
  unfolding part_of cell_record signed_or
  code-field v e = rw e (bits-two v)

  phase-field : (c : Option ℕ) (x : message-type.Phase) → of_system m.codes p n ≡ c → of_system m.phases p n ≡ some x → part_of Phase t (cell_record m p i g n) ≡ phase_bits x
  unfolding part_of cell_record signed_or phase_bits
  phase-field none x d e = rw (d, e) (ap (λ (l : List Bool). l ++ bits 2 x.discontinuity) (bits-two x.bias))
  phase-field (some v) x d e = rw (d, e) (ap (λ (l : List Bool). l ++ bits 2 x.discontinuity) (bits-two x.bias))

module _ (m : Message) (p : ℕ) (s : System) (o : SystemOk s) where
  pub code-part : (b : Block (List (List ℕ))) → m.codes ≡ some b → Row (count (cells_of s)) (λ v. v < 2 ^ 11) (get_or b.body p [])
      → gathered Code (records_of_system m p s) ≡ each (bits 11) (get_or b.body p [])
  unfolding gathered part_of system_record satellite_record cell_record of_system
  code-part b e r =
      let own : List ℕ = records_of_system m p s in
      let h : ℕ → List Bool = λ n. part_of Code own (cell_record m p 0 0 n) in
      cells-all m p s o (part_of Code own) (code_local own) h refl (λ i n. refl) (λ i g n. refl)
      ∙ ap (λ (n : ℕ). build n h) (sym r.0)
      ∙ build-each (bits 11) (get_or b.body p []) h (λ n v q. code-field m p own 0 0 n v (rw e q))

  pub phase-part : (b : Block (List (List message-type.Phase))) → m.phases ≡ some b → Row (count (cells_of s)) PhaseOk (get_or b.body p [])
      → gathered Phase (records_of_system m p s) ≡ each phase_bits (get_or b.body p [])
  unfolding gathered part_of system_record satellite_record cell_record of_system
  phase-part b e r =
      let own : List ℕ = records_of_system m p s in
      let h : ℕ → List Bool = λ n. part_of Phase own (cell_record m p 0 0 n) in
      cells-all m p s o (part_of Phase own) (phase-local own) h refl (λ i n. refl) (λ i g n. refl)
      ∙ ap (λ (n : ℕ). build n h) (sym r.0)
      ∙ build-each phase_bits (get_or b.body p []) h (λ n x q. phase-field m p own 0 0 n (of_system m.codes p n) x refl (rw e q))

-- ---- the cell mask
-- where a system's masks stand in its record
pub system-bits : (m : Message) (p : ℕ) (s : System) → SystemOk s → (y : List ℕ)
    → bits_of (system_record m p s ++ y) ≡ bits_of (take 7 (system_record m p s)) ++ (s.satellites ++ (s.signals ++ bits_of (0 ∷ 0 ∷ y)))
unfolding system_record
system-bits m p s o y =
    let sats : List ℕ = octets_of s.satellites in
    let sigs : List ℕ = octets_of s.signals in
    let first : List ℕ = take 7 (system_record m p s) in
    bits_of-append first _
    ∙ ap (λ (l : List ℕ). bits_of first ++ bits_of l) (append_assoc sats (sigs ++ (0 ∷ 0 ∷ [])) y ∙ ap (λ (l : List ℕ). sats ++ l) (append_assoc sigs (0 ∷ 0 ∷ []) y))
    ∙ ap (λ (l : List Bool). bits_of first ++ l) (bits_of-append sats (sigs ++ 0 ∷ 0 ∷ y) ∙ ap₂ (λ (a b : List Bool). a ++ b) (bits-of-octets 5 s.satellites o.satellites)
    (bits_of-append sigs (0 ∷ 0 ∷ y) ∙ ap (λ (l : List Bool). l ++ bits_of (0 ∷ 0 ∷ y)) (bits-of-octets 2 s.signals o.signals)))

signals-are : (m : Message) (p : ℕ) (s : System) → SystemOk s → (y : List ℕ) → signals_of (system_record m p s ++ y) ≡ s.signals
unfolding system_record
signals-are m p s o y =
    let first : List Bool = bits_of (take 7 (system_record m p s)) in
    let rest : List Bool = bits_of (0 ∷ 0 ∷ y) in
    ap (λ (l : List Bool). take 16 (drop 96 l)) (system-bits m p s o y ∙ sym (append_assoc first s.satellites (s.signals ++ rest)))
    ∙ ap (take 16) (drop_at (first ++ s.satellites) (s.signals ++ rest) 96 (omega (arith, length-append first s.satellites, length-bits_of (take 7 (system_record m p s)), o.satellites)))
    ∙ take_at s.signals rest 16 o.signals

cell-splits : (t : List ℕ) → Splits (part_of Cell t)
unfolding part_of
cell-splits t x y l w k =
    rw (kind-front x y l 3, drop-append-le 16 x y l, row-splits (signals_of t) 0 (drop 16 x) y (omega (arith, length-drop 16 x)) k)

-- what no cell begins
kind-append : (x y : List ℕ) → is_kind 4 x ≡ false → is_kind 4 y ≡ false → is_kind 4 (x ++ y) ≡ false
kind-append [] y e f = f
kind-append (a ∷ x) y e f = e

kind-satellites : (m : Message) (p : ℕ) (s : System) (i : ℕ) → is_kind 4 (satellite_records m p s i) ≡ false
unfolding satellite_records satellite_record
kind-satellites m p s i = on_bool (get_or s.satellites i false) (λ q. rw q) (λ q. rw q)

-- one record before others
all_first : (f : List ℕ → List Bool) (r l : List ℕ) → length r ≡ 16 → gather_all f (r ++ l) ≡ f (r ++ l) ++ gather_all f l
unfolding gather
all_first f r l e =
    let n : length (r ++ l) / 16 ≡ suc (length l / 16) = omega (arith, length-append r l) in
    ap (λ (k : ℕ). gather k f (r ++ l)) n ∙ ap (λ (x : List ℕ). f (r ++ l) ++ gather (length l / 16) f x) (drop_at r l 16 e)

module _ (m : Message) (p : ℕ) (s : System) (t : List ℕ) where
  -- the cells themselves give nothing
  none-of-cells : (i n g : ℕ) → gather_all (part_of Cell t) (build n (λ k. cell_records m p s i (g + k))) ≡ []
  unfolding build part_of cell_records cell_record
  none-of-cells i zero g = all_none (part_of Cell t)
  none-of-cells i (suc n) g =
      let rest : List ℕ = build n (λ k. cell_records m p s i (suc g + k)) in
      ap (gather_all (part_of Cell t)) (build-from g n (cell_records m p s i))
      ∙ on_bool (get_or s.signals g false && get_or (cells_of s) (cell_place s i g) false)
      (λ q. rw q (all_first (part_of Cell t) (cell_record m p i g (count_before (cells_of s) (cell_place s i g))) rest (length-cell m p i g _) ∙ none-of-cells i n (suc g)))
      (λ q. rw q (none-of-cells i n (suc g)))

module _ (m : Message) (p : ℕ) (s : System) (o : SystemOk s) where
  mask-row : (i : ℕ) → gather_all (part_of Cell (records_of_system m p s)) (satellite_records m p s i)
      ≡ cond (get_or s.satellites i false) (take (count s.signals) (drop (count_before s.satellites i * count s.signals) (cells_of s))) []
  unfolding part_of satellite_records satellite_record
  mask-row i =
      let t : List ℕ = records_of_system m p s in
      let n : ℕ = count_before s.satellites i in
      let r : List ℕ = satellite_record m p s i n in
      let cs : List ℕ = build 16 (cell_records m p s i) in
      on_bool (get_or s.satellites i false)
      (λ q. rw q (
      all_first (part_of Cell t) r cs (length-satellite m p s i n)
      ∙ ap₂ (λ (a b : List Bool). a ++ b)
      (ap₂ (λ (g : List Bool) (l : List ℕ). row g 0 l) (signals-are m p s o (build 40 (satellite_records m p s))) (drop_at r cs 16 (length-satellite m p s i n) ∙ sym (append-nil cs)) ∙ row-cells m p s i o q [] refl)
      (ap (gather_all (part_of Cell t)) (from_zero 16 (cell_records m p s i)) ∙ none-of-cells m p s t i 16 0)
      ∙ append-nil _))
      (λ q. rw q (all_none (part_of Cell t)))

  pub cell-part : s.cell_flag ≡ 1 → gathered Cell (records_of_system m p s) ≡ s.cells
  unfolding gathered part_of system_record cells_of
  cell-part e =
      let t : List ℕ = records_of_system m p s in
      let f : List ℕ → List Bool = part_of Cell t in
      let r : List ℕ = system_record m p s in
      let w : ℕ = count s.signals in
      let rows : ℕ → List Bool = λ n. take w (drop (n * w) (cells_of s)) in
      all-splits f (cell-splits t) r (build 40 (satellite_records m p s)) (omega (arith, length-system m p s o)) (build-holds (λ (l : List ℕ). is_kind 4 l ≡ false) refl kind-append (satellite_records m p s) (kind-satellites m p s) 40)
      ∙ ap₂ (λ (a b : List Bool). a ++ b) (all_one f r (length-system m p s o))
      (build-splits f (cell-splits t) (satellite_records m p s) (satellite-whole m p s o) (kind-satellites m p s) 40
      ∙ build-ext 40 _ (λ i. cond (get_or s.satellites i false) (rows (count_before s.satellites i)) []) (λ i l. mask-row i)
      ∙ picked s.satellites 40 rows
      ∙ ap (λ (n : ℕ). build n rows) (count-all s.satellites 40 (omega (arith, o.satellites)))
      ∙ take-rows (count s.satellites) w (cells_of s)
      ∙ take_all (count s.satellites * w) (cells_of s) (omega (arith, length-cells_of s o)))
      ∙ rw e
