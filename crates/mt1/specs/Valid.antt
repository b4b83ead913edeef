-- Which messages of type 1 there are: 01, Message type 1.
-- Leans on the message as a value, and on the parser for widths and for which mask is used.
use Rattle.std.specs.Prelude.{ℕ, ◌<◌, ◌≤◌, ◌^◌, Bool, true, false, cond, List, [], ◌∷◌, map, ◌≡◌, eqb, length}
use Rattle.std.proofs.Math.Option.{Option, none, some}
use Rattle.lists.specs.Lists.{Every, memb}
use Rattle.mt1.specs.Message.{Header, has_mask, has_orbit, has_clock, has_subset, has_code, has_phase, System, count, cell_bits, cells_of, Mask, Orbit, Clocks, Subset, Phase, Block, Message}
use Rattle.mt1.specs.Mt1.{known, iod_bits, satellites_of, ids, used}

pub record HeaderOk (h : Header) : Type 0 where
  pub time : h.time < 3600
  pub flags : length h.flags ≡ 6
  pub reserved : h.reserved < 2 ^ 4
  pub mask_id : h.mask_id < 2 ^ 5
  pub iod_set : h.iod_set < 2 ^ 5

-- IDs of which each may come and none came before
abbrev pub IdsOk : List ℕ → List ℕ → List ℕ → Type 0
IdsOk may came [] = Unit {0}
IdsOk may came (id ∷ rest) = (memb id may ≡ true) × (memb id came ≡ false) × IdsOk may (id ∷ came) rest

pub record SystemOk (s : System) : Type 0 where
  pub satellites : length s.satellites ≡ 40
  pub signals : length s.signals ≡ 16
  pub cell_flag : s.cell_flag < 2
  pub cells : length s.cells ≡ cond (eqb s.cell_flag 1) (cell_bits s.satellites s.signals) 0
  pub navigation : s.navigation ≡ 0

pub record MaskOk (m : Mask) : Type 0 where
  pub some : 1 ≤ length m.systems
  pub few : length m.systems ≤ 2
  pub ids : IdsOk known [] (ids m.systems)
  pub systems : Every SystemOk m.systems
  pub reserved : m.reserved < 2 ^ 6

-- a fact of each of a list, beside another list of as many
abbrev pub EachOf : {S A : Type 0} → (S → A → Type 0) → List S → List A → Type 0
EachOf P [] [] = Unit {0}
EachOf P [] (x ∷ xs) = ⊥
EachOf P (s ∷ ss) [] = ⊥
EachOf P (s ∷ ss) (x ∷ xs) = P s x × EachOf P ss xs

-- as many as there are, and a fact of each
abbrev pub Row : {A : Type 0} → ℕ → (A → Type 0) → List A → Type 0
Row n P xs = (length xs ≡ n) × Every P xs

pub record OrbitOk (id : ℕ) (o : Orbit) : Type 0 where
  pub iod : o.iod < 2 ^ iod_bits id
  pub radial : o.radial < 2 ^ 13
  pub in_track : o.in_track < 2 ^ 12
  pub cross_track : o.cross_track < 2 ^ 12

abbrev pub OrbitsOk : List System → List (List Orbit) → Type 0
OrbitsOk ss rows = EachOf (λ s row. Row (count s.satellites) (OrbitOk s.id) row) ss rows

pub record ClocksOk (ss : List System) (c : Clocks) : Type 0 where
  pub multipliers : Row (length ss) (λ m. m < 2 ^ 2) c.multipliers
  pub clocks : EachOf (λ s row. Row (count s.satellites) (λ v. v < 2 ^ 13) row) ss c.clocks

pub record SubsetOk (ss : List System) (s : Subset) : Type 0 where
  pub multiplier : s.multiplier < 2 ^ 2
  pub chosen : length s.chosen ≡ count (satellites_of ss s.id)
  pub clocks : Row (count s.chosen) (λ v. v < 2 ^ 13) s.clocks

pub record SubsetsOk (ss : List System) (subs : List Subset) : Type 0 where
  pub some : 1 ≤ length subs
  pub few : length subs ≤ length ss
  pub chosen_ids : IdsOk (ids ss) [] (map (λ s. s.id) subs)
  pub each : Every (SubsetOk ss) subs

abbrev pub CodesOk : List System → List (List ℕ) → Type 0
CodesOk ss rows = EachOf (λ s row. Row (count (cells_of s)) (λ v. v < 2 ^ 11) row) ss rows

pub record PhaseOk (p : Phase) : Type 0 where
  pub bias : p.bias < 2 ^ 11
  pub discontinuity : p.discontinuity < 2 ^ 2

abbrev pub PhasesOk : List System → List (List Phase) → Type 0
PhasesOk ss rows = EachOf (λ s row. Row (count (cells_of s)) PhaseOk row) ss rows

pub record BlockOk {A : Type 0} (P : A → Type 0) (b : Block A) : Type 0 where
  pub interval : b.interval < 15
  pub body : P b.body

-- there if its flag is 1, and then as it must be
abbrev pub IfFlag : {A : Type 0} → Bool → (A → Type 0) → Option A → Type 0
IfFlag true P none = ⊥
IfFlag true P (some x) = P x
IfFlag false P none = Unit {0}
IfFlag false P (some x) = ⊥

-- a message that can come where this mask is lent for its Mask ID: ss are the systems of the mask that it uses
pub record Ok (lent : Option Mask) (ss : List System) (m : Message) : Type 0 where
  pub header : HeaderOk m.header
  pub mask : IfFlag (has_mask m.header) MaskOk m.mask
  pub used : used lent m.header m.mask ≡ some ss
  pub orbits : IfFlag (has_orbit m.header) (BlockOk (OrbitsOk ss)) m.orbits
  pub clocks : IfFlag (has_clock m.header) (BlockOk (ClocksOk ss)) m.clocks
  pub subset : IfFlag (has_subset m.header) (BlockOk (SubsetsOk ss)) m.subset
  pub codes : IfFlag (has_code m.header) (BlockOk (CodesOk ss)) m.codes
  pub phases : IfFlag (has_phase m.header) (BlockOk (PhasesOk ss)) m.phases
