-- The number of records is what the mask says: a header's, and of each system its own, its satellites' and its cells'.
-- Index by index, what has come is as many satellites as are masked before it, and as many cells as their rows have.
use mathlib.Core.Path.{◌≡◌, refl, sym, ap, ◌∙◌}
use mathlib.Core.Bool.{Bool, true, false, cond}
use mathlib.Core.List.{List, [], ◌∷◌, ◌++◌, append-nil}
use mathlib.Core.Option.{Option, none, some}
use Prim.Native.Nat.{ℕ, zero, suc, ◌+◌, ◌*◌, ◌%◌, ◌≤◌, ◌<◌}
use native.Mathlib.Nat.{add-zero, zero-add, zero-mul, suc-mul, mul-le-mul}
use native.Mathlib.Omega.{arith}
use lib.Arith.{digits_lt}
use lib.Dec.{eqb}
use lib.ListN.{length, get_or, length-append, length-replicate}
use lib.Seq.{take_all, take-nil}
use Rattle.lists.specs.Lists.{Every}
use Rattle.lists.proofs.Tests.{on_bool, clash}
use Rattle.bits.specs.Bits.{num, octets, octets_of}
use Rattle.mt1.specs.Message.{System, Message, count, count_before, cell_bits, cells_of}
use Rattle.mt1.specs.Valid.{SystemOk}
use Rattle.mt1.specs.Records.{iod_or, signed_or, header_record, system_record, satellite_record, cell_record, build, cell_place, cell_records, satellite_records, system_records, records, record_count}

-- ---- one bit on
pub count_next : (bs : List Bool) (i : ℕ) → count_before bs (suc i) ≡ count_before bs i + num (get_or bs i false)
unfolding count count_before
count_next [] i = rw (take-nil, add-zero)
count_next (b ∷ bs) zero = omega arith
count_next (b ∷ bs) (suc i) = omega (arith, count_next bs i)

pub count-all : (bs : List Bool) (n : ℕ) → length bs ≤ n → count_before bs n ≡ count bs
unfolding count_before
count-all bs n h = ap count (take_all n bs h)

-- before a bit that is 1 there are fewer than in all
pub before-lt : (bs : List Bool) (i : ℕ) → get_or bs i false ≡ true → count_before bs i < count bs
unfolding count count_before
before-lt [] i e = clash e refl
before-lt (b ∷ bs) zero e = rw e (omega arith)
before-lt (b ∷ bs) (suc i) e = omega (arith, before-lt bs i e)

pub count-le : (bs : List Bool) → count bs ≤ length bs
unfolding count
count-le [] = omega arith
count-le (true ∷ bs) = omega (arith, count-le bs)
count-le (false ∷ bs) = omega (arith, count-le bs)

-- ---- each record has 16 octets
length-signed : (half : ℕ) (v : Option ℕ) → length (signed_or half v) ≡ 2
unfolding signed_or
length-signed half none = refl
length-signed half (some v) = refl

length-iod : (v : Option ℕ) → length (iod_or v) ≡ 2
length-iod none = refl
length-iod (some v) = refl

pub length-header : (m : Message) → length (header_record m) ≡ 16
unfolding header_record
length-header m = refl

pub length-system : (m : Message) (p : ℕ) (s : System) → SystemOk s → length (system_record m p s) ≡ 16
unfolding system_record octets_of octets
length-system m p s o = rw (o.satellites, o.signals)

pub length-satellite : (m : Message) (p : ℕ) (s : System) (i n : ℕ) → length (satellite_record m p s i n) ≡ 16
unfolding satellite_record
length-satellite m p s i n = simp (length-append, length-signed, length-iod)

pub length-cell : (m : Message) (p i g n : ℕ) → length (cell_record m p i g n) ≡ 16
unfolding cell_record
length-cell m p i g n = simp (length-append, length-signed)

-- ---- a row of cells, and the satellites
-- what is there if a test holds
length-if : (b : Bool) (l : List ℕ) → length l ≡ 16 → length (cond b l []) ≡ 16 * num b
length-if true l e = e
length-if false l e = refl

module _ (m : Message) (p : ℕ) (s : System) where
  -- how many cells there are before the row of the satellite at an index
  abbrev before : ℕ → ℕ
  before i = count_before s.satellites i * count s.signals

  cell-on : (i g : ℕ) → length (cell_records m p s i g) + 16 * count_before (cells_of s) (before i + count_before s.signals g)
      ≡ 16 * count_before (cells_of s) (before i + count_before s.signals (suc g))
  unfolding cell_records cell_place
  cell-on i g =
      let x = before i + count_before s.signals g in
      let e = count_next s.signals g in
      on_bool (get_or s.signals g false)
      (λ q.
      let f : before i + count_before s.signals (suc g) ≡ suc x = omega (arith, rw q at e) in
      rw (q, f) (omega (arith, length-if (get_or (cells_of s) x false) (cell_record m p i g (count_before (cells_of s) x)) (length-cell m p i g _), count_next (cells_of s) x)))
      (λ q.
      let f : before i + count_before s.signals (suc g) ≡ x = omega (arith, rw q at e) in
      rw (q, f) (omega arith))

  -- whole records
  pub cell-whole : (i g : ℕ) → length (cell_records m p s i g) % 16 ≡ 0
  cell-whole i g = omega (arith, cell-on i g)

  length-cells : (i g : ℕ)
      → length (build g (cell_records m p s i)) + 16 * count_before (cells_of s) (before i) ≡ 16 * count_before (cells_of s) (before i + count_before s.signals g)
  unfolding build count_before
  length-cells i zero = rw (add-zero, zero-add)
  length-cells i (suc g) =
      omega (arith, length-append (build g (cell_records m p s i)) (cell_records m p s i g), length-cells i g, cell-on i g)

  -- a masked satellite's record and its row
  row_on : SystemOk s → (i : ℕ) → length (satellite_records m p s i) + 16 * (count_before s.satellites i + count_before (cells_of s) (before i))
      ≡ 16 * (count_before s.satellites (suc i) + count_before (cells_of s) (before (suc i)))
  unfolding satellite_records
  row_on o i =
      let n = count_before s.satellites i in
      let e = count_next s.satellites i in
      on_bool (get_or s.satellites i false)
      (λ q.
      let f : count_before s.satellites (suc i) ≡ suc n = omega (arith, rw q at e) in
      let all = count-all s.signals 16 (omega (arith, o.signals)) in
      let next : before (suc i) ≡ before i + count_before s.signals 16 = ap (λ (k : ℕ). k * count s.signals) f ∙ suc-mul n (count s.signals) ∙ ap (λ (k : ℕ). before i + k) (sym all) in
      rw (q, next, f) (omega (arith, length-append (satellite_record m p s i n) (build 16 (cell_records m p s i)), length-satellite m p s i n, length-cells i 16)))
      (λ q.
      let f : count_before s.satellites (suc i) ≡ n = omega (arith, rw q at e) in
      rw (q, f) (omega arith))

  pub satellite-whole : SystemOk s → (i : ℕ) → length (satellite_records m p s i) % 16 ≡ 0
  satellite-whole o i = omega (arith, row_on o i)

  length-satellites : SystemOk s → (i : ℕ)
      → length (build i (satellite_records m p s)) ≡ 16 * (count_before s.satellites i + count_before (cells_of s) (before i))
  unfolding build count_before
  length-satellites o zero = rw zero-mul
  length-satellites o (suc i) =
      omega (arith, length-append (build i (satellite_records m p s)) (satellite_records m p s i), length-satellites o i, row_on o i)

-- there are as many cells as the cell mask has bits
pub length-cells_of : (s : System) → SystemOk s → length (cells_of s) ≡ cell_bits s.satellites s.signals
unfolding cells_of
length-cells_of s o =
    on_bool (eqb s.cell_flag 1) (λ q. rw q (rw q at o.cells)) (λ q. rw q (length-replicate (cell_bits s.satellites s.signals) true))

-- the place of a masked satellite's masked signal is in it
pub place_in : (s : System) (i g : ℕ) → get_or s.satellites i false ≡ true → get_or s.signals g false ≡ true → cell_place s i g < cell_bits s.satellites s.signals
unfolding cell_place
place_in s i g e f = digits_lt (before-lt s.satellites i e) (before-lt s.signals g f)

-- a system's records: its own, then its satellites'
abbrev pub records_of_system : Message → ℕ → System → List ℕ
records_of_system m p s = system_record m p s ++ build 40 (satellite_records m p s)

pub one-system : (m : Message) (p : ℕ) (s : System) → system_records m p (s ∷ []) ≡ records_of_system m p s
unfolding system_records
one-system m p s = ap (λ (l : List ℕ). system_record m p s ++ l) (append-nil (build 40 (satellite_records m p s)))

length-systems : (m : Message) (p : ℕ) (ss : List System) → Every SystemOk ss → length (system_records m p ss) ≡ 16 * record_count ss
unfolding system_records record_count
length-systems m p [] o = refl
length-systems m p (s ∷ ss) (o, os) =
    let t = build 40 (satellite_records m p s) in
    let a = count-all s.satellites 40 (omega (arith, o.satellites)) in
    let b : length t ≡ 16 * (count s.satellites + count_before (cells_of s) (count s.satellites * count s.signals)) = length-satellites m p s o 40 ∙ ap (λ (k : ℕ). 16 * (k + count_before (cells_of s) (k * count s.signals))) a in
    let c = count-all (cells_of s) (count s.satellites * count s.signals) (omega (arith, length-cells_of s o)) in
    omega (arith, length-append (system_record m p s) (t ++ system_records m (suc p) ss), length-append t (system_records m (suc p) ss), length-system m p s o, b, c, length-systems m (suc p) ss os)

pub length-records : (m : Message) (ss : List System) → Every SystemOk ss → length (records ss m) ≡ 16 * (1 + record_count ss)
unfolding records
length-records m ss o = omega (arith, length-append (header_record m) (system_records m 0 ss), length-header m, length-systems m 0 ss o)

-- ---- how many there are at most
module _ (s : System) (o : SystemOk s) where
  pub satellites-few : count s.satellites ≤ 40
  satellites-few = omega (arith, count-le s.satellites, o.satellites)

  pub signals-few : count s.signals ≤ 16
  signals-few = omega (arith, count-le s.signals, o.signals)

  pub bits-few : cell_bits s.satellites s.signals ≤ 640
  bits-few = mul-le-mul satellites-few signals-few

  pub count-cells : count (cells_of s) ≤ 640
  count-cells = omega (arith, count-le (cells_of s), length-cells_of s o, bits-few)

  few : count s.satellites + count (cells_of s) ≤ 680
  few = omega (arith, satellites-few, count-cells)

-- 21,808 octets are room for all of them
pub room-for-records : (m : Message) (ss : List System) → length ss ≤ 2 → Every SystemOk ss → length (records ss m) ≤ 21808
unfolding record_count
room-for-records m [] h o = omega (arith, length-records m [] o)
room-for-records m (s ∷ []) h o = omega (arith, length-records m (s ∷ []) o, few s o.0)
room-for-records m (s ∷ t ∷ []) h o = omega (arith, length-records m (s ∷ t ∷ []) o, few s o.0, few t o.1.0)
room-for-records m (s ∷ t ∷ u ∷ ss) h o = absurd (let z : ⊥ = omega arith in z)
