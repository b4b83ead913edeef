-- A message of type 1 as a value: 01, Message type 1; ICD 5. It keeps all that is read, the reserved bits and the order of the subset's systems too.
-- Leans on bit strings.
use Rattle.std.specs.Prelude.{ℕ, ◌+◌, ◌*◌, Bool, true, false, cond, List, [], ◌∷◌, eqb, get_or, take, replicate}
use Rattle.std.proofs.Math.Option.{Option}
use Rattle.bits.specs.Bits.{num}

-- "Header, 32 bits: time of hour 12 .., flags 6 .., reserved 4, Mask ID 5, IOD Set ID 5"
pub record Header : Type 0 where
  pub time : ℕ
  pub flags : List Bool
  pub reserved : ℕ
  pub mask_id : ℕ
  pub iod_set : ℕ

-- "flags 6 (mask, orbit, clock full, clock subset, code, phase)"
abbrev pub has_mask : Header → Bool
has_mask h = get_or h.flags 0 false

abbrev pub has_orbit : Header → Bool
has_orbit h = get_or h.flags 1 false

abbrev pub has_clock : Header → Bool
has_clock h = get_or h.flags 2 false

abbrev pub has_subset : Header → Bool
has_subset h = get_or h.flags 3 false

abbrev pub has_code : Header → Bool
has_code h = get_or h.flags 4 false

abbrev pub has_phase : Header → Bool
has_phase h = get_or h.flags 5 false

-- "per system GNSS ID 4 .., satellite mask 40, signal mask 16, cell flag 1, cell mask .., navigation message 3"
pub record System : Type 0 where
  pub id : ℕ
  pub satellites : List Bool
  pub signals : List Bool
  pub cell_flag : ℕ
  pub cells : List Bool
  pub navigation : ℕ

-- how many bits are 1
unfoldable pub count : List Bool → ℕ
count [] = 0
count (b ∷ bs) = num b + count bs

-- how many are 1 before a place
unfoldable pub count_before : List Bool → ℕ → ℕ
unfolding count
count_before bs i = count (take i bs)

-- the cell mask has "satellites × signals" bits
abbrev pub cell_bits : List Bool → List Bool → ℕ
cell_bits satellites signals = count satellites * count signals

-- the cells that there are: as the cell mask says, or all of them (ICD 5.2.1.4)
unfoldable pub cells_of : System → List Bool
unfolding count
cells_of s = cond (eqb s.cell_flag 1) s.cells (replicate (cell_bits s.satellites s.signals) true)

pub record Mask : Type 0 where
  pub systems : List System
  pub reserved : ℕ

-- "Orbit: .. per satellite reference IOD (GPS 8, Galileo 10), radial 13, in-track 12, cross-track 12"
pub record Orbit : Type 0 where
  pub iod : ℕ
  pub radial : ℕ
  pub in_track : ℕ
  pub cross_track : ℕ

-- "Clock full: .. multiplier field 2 per system ..; 13 per satellite": the satellites' by system
pub record Clocks : Type 0 where
  pub multipliers : List ℕ
  pub clocks : List (List ℕ)

-- "Clock subset: .. per system GNSS ID 4, multiplier 2, one bit per masked satellite, 13 per chosen satellite"
pub record Subset : Type 0 where
  pub id : ℕ
  pub multiplier : ℕ
  pub chosen : List Bool
  pub clocks : List ℕ

-- "Phase: .. 11 and 2 per cell"
pub record Phase : Type 0 where
  pub bias : ℕ
  pub discontinuity : ℕ

-- a block with its interval, 4 bits; satellites and cells are listed by system
pub record Block (A : Type 0) : Type 0 where
  pub interval : ℕ
  pub body : A

pub record Message : Type 0 where
  pub header : Header
  pub mask : Option Mask
  pub orbits : Option (Block (List (List Orbit)))
  pub clocks : Option (Block Clocks)
  pub subset : Option (Block (List Subset))
  pub codes : Option (Block (List (List ℕ)))
  pub phases : Option (Block (List (List Phase)))
