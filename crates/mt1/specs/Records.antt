-- The records of a message: 01, Records.
-- Leans on the message as a value, and for its systems on the parser, in Mt1.
use Rattle.std.specs.Prelude.{ℕ, zero, suc, ◌+◌, ◌*◌, ◌-◌, ◌/◌, ◌%◌, false, ◌&&◌, cond, List, [], ◌∷◌, ◌++◌, eqb, ltb, get_or, replicate}
use Rattle.std.proofs.Math.Option.{Option, none, some}
use Rattle.bits.specs.Bits.{value, octets_of}
use Rattle.mt1.specs.Message.{System, count, count_before, cells_of, Clocks, Subset, Block, Message}
use Rattle.mt1.specs.Mt1.{Lent, lent_for, used}

-- ---- octets
-- "big-endian"
abbrev pub two : ℕ → List ℕ
two v = v / 256 ∷ v % 256 ∷ []

-- "Corrections and biases are two's complement": a field of which half the values are `half`, as two octets
unfoldable pub widened : ℕ → ℕ → ℕ
widened half v = cond (ltb v half) v (v + (65536 - 2 * half))

-- "Absent: 255 in one octet, 65535 for IOD, -32768 for a signed value"
abbrev pub octet_or : Option ℕ → ℕ
octet_or none = 255
octet_or (some v) = v

abbrev pub iod_or : Option ℕ → List ℕ
iod_or none = 255 ∷ 255 ∷ []
iod_or (some v) = two v

unfoldable pub signed_or : ℕ → Option ℕ → List ℕ
unfolding widened
signed_or half none = 128 ∷ 0 ∷ []
signed_or half (some v) = two (widened half v)

-- ---- what there is to record
abbrev pub part : {A B : Type 0} → (A → B) → Option A → Option B
part f none = none
part f (some x) = some (f x)

-- the element at a place, if there is one
unfoldable pub at : {A : Type 0} → List A → ℕ → Option A
at [] i = none
at (x ∷ xs) zero = some x
at (x ∷ xs) (suc i) = at xs i

-- of a block that is there: the value of the system at place p that has number n in it
unfoldable pub of_system : {A : Type 0} → Option (Block (List (List A))) → ℕ → ℕ → Option A
unfolding at
of_system none p n = none
of_system (some b) p n = at (get_or b.body p []) n

abbrev pub body : {A : Type 0} → (A → List (List ℕ)) → Option (Block A) → Option (Block (List (List ℕ)))
body f none = none
body f (some b) = some (record { interval = b.interval; body = f b.body })

abbrev pub multiplier_of : Option (Block Clocks) → ℕ → Option ℕ
multiplier_of none p = none
multiplier_of (some b) p = at b.body.multipliers p

-- the part of the subset that has a GNSS ID
unfoldable pub of_id : List Subset → ℕ → Option Subset
of_id [] id = none
of_id (s ∷ ss) id = cond (eqb id s.id) (some s) (of_id ss id)

abbrev pub subset_of : Option (Block (List Subset)) → ℕ → Option Subset
subset_of none id = none
subset_of (some b) id = of_id b.body id

-- the subset clock of the satellite that has number n in its system, if it is chosen
unfoldable pub subset_clock : Option Subset → ℕ → Option ℕ
unfolding at count_before
subset_clock none n = none
subset_clock (some s) n = cond (get_or s.chosen n false) (at s.clocks (count_before s.chosen n)) none

-- ---- the records, 16 octets each, "unnamed octets 0"
abbrev pub interval_of : {A : Type 0} → Option (Block A) → ℕ
interval_of b = octet_or (part (λ x. x.interval) b)

-- "1: kind, flags, Mask ID, IOD Set ID, time of hour (2), five intervals in block order"
unfoldable pub header_record : Message → List ℕ
unfolding value
header_record m =
    let h = m.header in
    1 ∷ value h.flags ∷ h.mask_id ∷ h.iod_set ∷ two h.time
    ++ (interval_of m.orbits ∷ interval_of m.clocks ∷ interval_of m.subset ∷ interval_of m.codes ∷ interval_of m.phases ∷ replicate 5 0)

-- "2: kind, system place, GNSS ID, cell flag, navigation message, multiplier field, subset multiplier field, satellite mask (5), signal mask (2)"
unfoldable pub system_record : Message → ℕ → System → List ℕ
unfolding octets_of at of_id
system_record m p s =
    2 ∷ p ∷ s.id ∷ s.cell_flag ∷ s.navigation ∷ octet_or (multiplier_of m.clocks p) ∷ octet_or (part (λ x. x.multiplier) (subset_of m.subset s.id))
    ∷ octets_of s.satellites ++ (octets_of s.signals ++ replicate 2 0)

-- "3: kind, system place, satellite index, 0, IOD (2), radial, in-track, cross-track, clock, subset clock (2 each)": i is the index, n its number among the masked
unfoldable pub satellite_record : Message → ℕ → System → ℕ → ℕ → List ℕ
unfolding of_system of_id subset_clock signed_or
satellite_record m p s i n =
    let o = of_system m.orbits p n in
    3 ∷ p ∷ i ∷ 0 ∷ iod_or (part (λ x. x.iod) o)
    ++ (signed_or 4096 (part (λ x. x.radial) o)
    ++ (signed_or 2048 (part (λ x. x.in_track) o)
    ++ (signed_or 2048 (part (λ x. x.cross_track) o)
    ++ (signed_or 4096 (of_system (body (λ c. c.clocks) m.clocks) p n)
    ++ signed_or 4096 (subset_clock (subset_of m.subset s.id) n)))))

-- "4: kind, system place, satellite index, signal index, code (2), phase (2), discontinuity": n is the cell's number among the system's
unfoldable pub cell_record : Message → ℕ → ℕ → ℕ → ℕ → List ℕ
unfolding of_system signed_or
cell_record m p i g n =
    let f = of_system m.phases p n in
    4 ∷ p ∷ i ∷ g ∷ signed_or 1024 (of_system m.codes p n)
    ++ (signed_or 1024 (part (λ x. x.bias) f)
    ++ (octet_or (part (λ x. x.discontinuity) f) ∷ replicate 7 0))

-- ---- their order
-- f 0, f 1, .. f (n - 1), one behind another
unfoldable pub build : {A : Type 0} → ℕ → (ℕ → List A) → List A
build zero f = []
build (suc n) f = build n f ++ f n

-- the place in the cell mask of the cell of a masked satellite and a masked signal, "row by row"
unfoldable pub cell_place : System → ℕ → ℕ → ℕ
unfolding count count_before
cell_place s i g = count_before s.satellites i * count s.signals + count_before s.signals g

-- a masked satellite's cell, if the signal is masked and the cell is there
unfoldable pub cell_records : Message → ℕ → System → ℕ → ℕ → List ℕ
unfolding cell_place cells_of count_before cell_record
cell_records m p s i g =
    cond (get_or s.signals g false && get_or (cells_of s) (cell_place s i g) false) (cell_record m p i g (count_before (cells_of s) (cell_place s i g))) []

-- "its satellites by index, each followed by its cells by signal"
unfoldable pub satellite_records : Message → ℕ → System → ℕ → List ℕ
unfolding count_before satellite_record cell_records build
satellite_records m p s i =
    cond (get_or s.satellites i false) (satellite_record m p s i (count_before s.satellites i) ++ build 16 (cell_records m p s i)) []

-- "per system its record, .."
unfoldable pub system_records : Message → ℕ → List System → List ℕ
unfolding system_record satellite_records build
system_records m p [] = []
system_records m p (s ∷ ss) = system_record m p s ++ (build 40 (satellite_records m p s) ++ system_records m (suc p) ss)

-- "The header record alone if no mask is used; else header, then per system .."
unfoldable pub records : List System → Message → List ℕ
unfolding header_record system_records
records ss m = header_record m ++ system_records m 0 ss

-- how many records systems have: each its own, one for each satellite, one for each cell
unfoldable pub record_count : List System → ℕ
unfolding count cells_of
record_count [] = 0
record_count (s ∷ ss) = 1 + (count s.satellites + count (cells_of s)) + record_count ss

-- ---- of a message that is read with a lent mask
-- the systems of the mask that a message uses; none if it uses none
abbrev pub systems_in : Option (List System) → List System
systems_in none = []
systems_in (some ss) = ss

unfoldable pub records_of : Lent → Message → List ℕ
unfolding lent_for used records
records_of lent m = records (systems_in (used (lent_for lent m.header.mask_id) m.header m.mask)) m
