-- What the second pass of the code does, which writes the records: for private contracts alone. No public contract and no theorem of the demands cites it.
-- Leans on the records, and on where the first pass found things.
use Rattle.std.specs.Prelude.{ℕ, ◌+◌, ◌*◌, ◌^◌, ◌≤◌, ◌<◌, ◌≡◌, Bool, true, false, List, [], length, get_or, Some, None}
use Rattle.std.proofs.Math.Option.{Option, none, some}
use Rattle.bits.specs.Bits.{bits, bits_of}
use Rattle.reader.specs.declared.mask.SystemPlan.{SystemPlan}
use Rattle.reader.specs.declared.plan.Plan.{Plan}
use Rattle.reader.specs.declared.record.Rows.{Rows}
use Rattle.reader.specs.declared.record.SystemRecords.{SystemRecords}
use Rattle.reader.specs.declared.emit.Cursor.{Cursor}
use Rattle.reader.specs.declared.emit.CellCursor.{CellCursor}
use Rattle.mt1.specs.Message.{System, count, count_before, cells_of, Subset, Block, Message}
use Rattle.mt1.specs.Mt1.{iod_bits}
use Rattle.mt1.proofs.Spans.{Span}
use Rattle.mt1.specs.Encode.{each, orbit_bits, phase_bits}
use Rattle.mt1.specs.Valid.{SystemOk, Row, OrbitOk, PhaseOk}
use Rattle.mt1.specs.Records.{multiplier_of, body, subset_of}
use Rattle.reader.specs.Steps.{system_plan, Place, Stands, body_bits, part_bits}

-- ---- the rows of the system at place p
abbrev pub row : {A : Type 0} → Option (Block (List (List A))) → ℕ → Option (List A)
row none p = none
row (some b) p = some (get_or b.body p [])

-- a fact of what is there
abbrev pub IfSome : {A : Type 0} → (A → Type 0) → Option A → Type 0
IfSome P none = Unit {0}
IfSome P (some x) = P x

abbrev pub Below : ℕ → Option ℕ → Type 0
Below n v = IfSome (λ x. x < n) v

-- a part of the subset is of a system of so many satellites
pub record PartOk (satellites : ℕ) (s : Subset) : Type 0 where
  pub multiplier : s.multiplier < 2 ^ 2
  pub chosen : length s.chosen ≡ satellites
  pub clocks : Row (count s.chosen) (λ v. v < 2 ^ 13) s.clocks

abbrev pub SubsetFits : ℕ → Option Subset → Type 0
SubsetFits satellites s = IfSome (PartOk satellites) s

-- how many of the satellites before the nth are chosen
unfoldable pub chosen_before : Option Subset → ℕ → ℕ
unfolding count_before
chosen_before none n = 0
chosen_before (some s) n = count_before s.chosen n

-- a system of the mask stands where its plan says
pub record SystemStands (bs : List Bool) (s : System) (plan : SystemPlan) : Type 0 where
  pub planned : plan ≡ system_plan s plan.place
  pub ok : SystemOk s
  pub known : s.id < 2 ^ 4
  pub bits : (end : ℕ) × Span bs plan.place (body_bits s) end

-- a place, if there is one, is at most so far on
abbrev pub Within : ℕ → Place → Type 0
Within n None = Unit {0}
Within n (Some p) = p ≤ n

pub record Near (rows : Rows) : Type 0 where
  pub iod : rows.iod ≤ 10
  pub orbit : Within 163840 rows.orbit
  pub clock : Within 163840 rows.clock
  pub part : Within 163840 rows.part
  pub code : Within 163840 rows.code
  pub phase : Within 163840 rows.phase

pub record RowsStand (bs : List Bool) (m : Message) (p : ℕ) (s : System) (rows : Rows) : Type 0 where
  pub iod : rows.iod ≡ iod_bits s.id
  pub orbit : Stands bs rows.orbit (each (orbit_bits s.id)) (row m.orbits p)
  pub orbit_ok : IfSome (Row (count s.satellites) (OrbitOk s.id)) (row m.orbits p)
  pub multiplier : Stands bs rows.multiplier (bits 2) (multiplier_of m.clocks p)
  pub multiplier_ok : Below (2 ^ 2) (multiplier_of m.clocks p)
  pub clock : Stands bs rows.clock (each (bits 13)) (row (body (λ c. c.clocks) m.clocks) p)
  pub clock_ok : IfSome (Row (count s.satellites) (λ v. v < 2 ^ 13)) (row (body (λ c. c.clocks) m.clocks) p)
  pub part : Stands bs rows.part part_bits (subset_of m.subset s.id)
  pub part_ok : SubsetFits (count s.satellites) (subset_of m.subset s.id)
  pub code : Stands bs rows.code (each (bits 11)) (row m.codes p)
  pub code_ok : IfSome (Row (count (cells_of s)) (λ v. v < 2 ^ 11)) (row m.codes p)
  pub phase : Stands bs rows.phase (each phase_bits) (row m.phases p)
  pub phase_ok : IfSome (Row (count (cells_of s)) PhaseOk) (row m.phases p)

-- the system at place p, its mask and its rows
pub record Emits (octets sourced : List ℕ) (plan : SystemPlan) (rows : Rows) (m : Message) (p : ℕ) (s : System) : Type 0 where
  pub near : plan.place ≤ 2000
  pub rows-near : Near rows
  pub mask : SystemStands (bits_of sourced) s plan
  pub rows-stand : RowsStand (bits_of octets) m p s rows

abbrev pub EmitsOf : SystemRecords → Message → System → Type 0
EmitsOf from m s = Emits from.octets.now from.source.now from.system from.rows m from.p s

-- the satellite of an index is the nth that is masked
pub record RowOf (s : System) (i n : ℕ) : Type 0 where
  pub index : i < 40
  pub masked : get_or s.satellites i false ≡ true
  pub number : n ≡ count_before s.satellites i

-- ---- how far the records of a system have come: before a satellite's index, and in it before a signal's
pub record Reached (m : Message) (s : System) (i : ℕ) (c : Cursor) : Type 0 where
  pub satellite : c.satellite ≡ count_before s.satellites i
  pub chosen : c.chosen ≡ chosen_before (subset_of m.subset s.id) (count_before s.satellites i)
  pub cell : c.cell ≡ count_before (cells_of s) (count_before s.satellites i * count s.signals)

pub record InRow (s : System) (n g : ℕ) (c : CellCursor) : Type 0 where
  pub signal : c.signal ≡ count_before s.signals g
  pub cell : c.cell ≡ count_before (cells_of s) (n * count s.signals + count_before s.signals g)

-- ---- the rows of the first system and of the second, from the blocks' places
abbrev pub onwards : Place → ℕ → Place
onwards None n = None
onwards (Some p) n = Some (p + n)

pub record Close (plan : Plan) : Type 0 where
  pub orbit : Within 163840 plan.orbit
  pub clock : Within 163840 plan.clock
  pub code : Within 163840 plan.code
  pub phase : Within 163840 plan.phase
  pub systems : plan.mask.systems ≤ 2
  pub satellites : plan.mask.first.satellites ≤ 40
  pub cells : plan.mask.first.cells ≤ 640

abbrev pub first_rows : Plan → Rows
first_rows plan =
    let one = plan.mask.first in record {
      iod = iod_bits one.id;
      orbit = onwards plan.orbit 4;
      multiplier = onwards plan.clock 4;
      clock = onwards plan.clock (4 + 2 * plan.mask.systems);
      part = plan.parts.first;
      code = onwards plan.code 4;
      phase = onwards plan.phase 4;
    }

abbrev pub second_rows : Plan → Rows
second_rows plan =
    let one = plan.mask.first in record {
      iod = iod_bits plan.mask.second.id;
      orbit = onwards plan.orbit (4 + one.satellites * (iod_bits one.id + 37));
      multiplier = onwards plan.clock 6;
      clock = onwards plan.clock (4 + 2 * plan.mask.systems + one.satellites * 13);
      part = plan.parts.second;
      code = onwards plan.code (4 + one.cells * 11);
      phase = onwards plan.phase (4 + one.cells * 13);
    }
