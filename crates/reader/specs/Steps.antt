-- What the first pass of the code does: for private contracts alone. No public contract and no theorem of the demands cites it.
-- Leans on the parser.
use Rattle.std.specs.Prelude.{ℕ, ◌+◌, ◌≤◌, ◌≡◌, Bool, true, false, cond, List, [], ◌∷◌, ◌++◌, eqb, length, Option as Maybe, Some, None, Result, Ok, Err}
use Rattle.std.proofs.Math.Option.{Option, none, some}
use Rattle.lists.specs.Lists.{Every}
use Rattle.bits.specs.Bits.{bits, bits_of}
use Rattle.refusal.specs.declared.Refusal.TheVariants as refusal
use Rattle.mt1.specs.declared.answer.RefusalAt.{RefusalAt}
use Rattle.reader.specs.declared.field.Read.{Read}
use Rattle.reader.specs.declared.mask.SystemPlan.{SystemPlan}
use Rattle.reader.specs.declared.mask.MaskPlan.{MaskPlan}
use Rattle.reader.specs.declared.subset.SubsetPlan.{SubsetPlan}
use Rattle.reader.specs.declared.subset.Part.{Part}
use Rattle.reader.specs.declared.plan.Plan.{Plan}
use Rattle.mt1.specs.Parse.{Outcome, got, bad, Parser, ◌>>=◌, ret, raw, field, judged, times, for_each, optional, systems, wrong_id}
use Rattle.mt1.specs.Message.{Header, has_orbit, has_clock, has_subset, has_code, has_phase, System, count, cell_bits, cells_of, Mask, Subset, Block, Message}
use Rattle.mt1.specs.Mt1.{unless, known, system, interval, block, orbits, clocks, ids, subset_system, subset, codes, phases, used, or_mask, Lent, lent_for, message}
use Rattle.mt1.proofs.Spans.{Span}
use Rattle.mt1.specs.Encode.{each, header_bits, block_bits, orbits_bits, clocks_bits, subsets_bits, codes_bits, phases_bits}
use Rattle.mt1.specs.Valid.{IdsOk, SystemOk, Ok as ValidMessage}
use Rattle.mt1.specs.Records.{at, of_id}

-- ---- fields: what is answered where bits are there, with a number that is read, and with the place behind what is passed over
abbrev pub there : {A : Type 0} → Outcome A → Result (Unit {0}) RefusalAt
there (got x end) = Ok tt
there (bad r) = Err r

abbrev pub field_answer : Outcome ℕ → Result ℕ RefusalAt
field_answer (got v end) = Ok v
field_answer (bad r) = Err r

abbrev pub step_of : {A : Type 0} → Outcome A → Result ℕ RefusalAt
step_of (got x end) = Ok end
step_of (bad r) = Err r

-- ---- a mask: what the plan keeps of a system whose satellite mask stands at a place
abbrev pub system_plan : System → ℕ → SystemPlan
system_plan s place = record { id = s.id; place = place; satellites = count s.satellites; signals = count s.signals; flag = eqb s.cell_flag 1; cells = count (cells_of s) }

abbrev pub system_answer : ℕ → Outcome System → Result (Read SystemPlan) RefusalAt
system_answer place (got s end) = Ok (record { plan = system_plan s place; end = end })
system_answer place (bad r) = Err r

-- a system from its cell mask on
unfoldable pub system_end : ℕ → List Bool → List Bool → ℕ → Parser System
unfolding ◌>>=◌ ret raw judged count
system_end id satellites signals flag = do
  cells ← raw (cond (eqb flag 1) (cell_bits satellites signals) 0)
  navigation ← judged 3 (λ v. unless (eqb v 0) refusal.NavMsg)
  ret (record { id = id; satellites = satellites; signals = signals; cell_flag = flag; cells = cells; navigation = navigation })

-- the systems of a mask whose first bit stands at a place: of each the satellite mask stands behind 4 bits of GNSS ID
abbrev pub plan_of : Option System → ℕ → SystemPlan
plan_of none place = record { id = 0; place = 0; satellites = 0; signals = 0; flag = false; cells = 0 }
plan_of (some s) place = system_plan s place

abbrev pub cells_length : Option System → ℕ
cells_length none = 0
cells_length (some s) = length s.cells

unfoldable pub mask_plan : List System → ℕ → MaskPlan
unfolding at count cells_of
mask_plan ss place = record {
  systems = length ss;
  first = plan_of (at ss 0) (place + 8);
  second = plan_of (at ss 1) (place + 8 + (60 + cells_length (at ss 0)) + 4);
}

abbrev pub mask_answer : ℕ → Outcome Mask → Result (Read MaskPlan) RefusalAt
mask_answer place (got m end) = Ok (record { plan = mask_plan m.systems place; end = end })
mask_answer place (bad r) = Err r

-- a plan of systems that a mask can have, or of none
pub record MaskOf (ss : List System) (place : ℕ) (plan : MaskPlan) : Type 0 where
  pub planned : plan ≡ mask_plan ss place
  pub few : length ss ≤ 2
  pub each : Every SystemOk ss
  pub differ : IdsOk known [] (ids ss)

abbrev pub MaskMade : MaskPlan → Type 0
MaskMade plan = (ss : List System) × (place : ℕ) × MaskOf ss place plan

-- behind the systems
abbrev pub mask_end : MaskPlan → Outcome ℕ → Result (Read MaskPlan) RefusalAt
mask_end plan (got v end) = Ok (record { plan = plan; end = end })
mask_end plan (bad r) = Err r

-- a mask's second system, behind one of an ID, and the end of the mask
unfoldable pub second_system : ℕ → Parser System
unfolding ◌>>=◌ ret field judged wrong_id system
second_system came = do
  id ← judged 4 (wrong_id known (came ∷ []))
  s ← system id
  reserved ← field 6
  ret s

abbrev pub second_answer : SystemPlan → ℕ → Outcome System → Result (Read MaskPlan) RefusalAt
second_answer first place (got s end) = Ok (record { plan = record { systems = 2; first = first; second = system_plan s (place + 4) }; end = end })
second_answer first place (bad r) = Err r

-- ---- blocks: an interval, multipliers, the items of one system and of another
unfoldable pub skipped_block : ℕ → ℕ → List ℕ → ℕ → List ℕ → Parser (List (List ℕ))
unfolding ◌>>=◌ field times for_each interval
skipped_block multipliers n v m w =
    interval >>= λ i. times multipliers (for_each (2 ∷ []) field) >>= λ ms. times n (for_each v field) >>= λ xs. times m (for_each w field)

-- ---- where things stand
-- the place of what may be missing
abbrev pub Place : Type 0
Place = Maybe ℕ

-- the bits of what is there stand at a place; what is not there has none
abbrev pub Stands : {A : Type 0} → List Bool → Place → (A → List Bool) → Option A → Type 0
Stands bs place f none = place ≡ None
Stands bs place f (some x) = (p : ℕ) × (place ≡ Some p) × ((end : ℕ) × Span bs p (f x) end)

-- a system behind its GNSS ID, and of the subset
unfoldable pub body_bits : System → List Bool
unfolding bits
body_bits s = s.satellites ++ (s.signals ++ (bits 1 s.cell_flag ++ (s.cells ++ bits 3 s.navigation)))

unfoldable pub part_bits : Subset → List Bool
unfolding bits each
part_bits s = bits 2 s.multiplier ++ (s.chosen ++ each (bits 13) s.clocks)

-- the same of a system of a mask, which has a place where it is there
abbrev pub StandsAt : List Bool → ℕ → Option System → Type 0
StandsAt bs place none = Unit {0}
StandsAt bs place (some s) = (end : ℕ) × Span bs place (body_bits s) end

-- the mask's systems stand where the plan says
pub record MaskStands (bs : List Bool) (ss : List System) (plan : MaskPlan) : Type 0 where
  pub made : (place : ℕ) × MaskOf ss place plan
  pub near : made.0 ≤ 32
  pub first : StandsAt bs plan.first.place (at ss 0)
  pub second : StandsAt bs plan.second.place (at ss 1)

-- ---- the subset
abbrev pub chain : {A B : Type 0} → Option A → (A → Option B) → Option B
chain none f = none
chain (some x) f = f x

abbrev pub subsets_in : Option (Block (List Subset)) → List Subset
subsets_in none = []
subsets_in (some b) = b.body

-- one system of the subset, where these came
unfoldable pub part_of : List System → List ℕ → Parser Subset
unfolding ◌>>=◌ judged wrong_id subset_system
part_of ss came = judged 4 (wrong_id (ids ss) came) >>= λ id. subset_system ss id

abbrev pub with_part : SubsetPlan → MaskPlan → ℕ → ℕ → SubsetPlan
with_part plan mask id place = cond (eqb id mask.first.id) (record { first = Some place; second = plan.second }) (record { first = plan.first; second = Some place })

abbrev pub PartReads : List System → MaskPlan → List ℕ → SubsetPlan → List Bool → ℕ → Result Part RefusalAt → Type 0
PartReads ss mask came plan bs place (Ok part) =
    (s : Subset) × (part_of ss came bs place ≡ got s part.end) × (s.id ≡ part.id) × (part.plan ≡ with_part plan mask part.id (place + 4)) × Span bs (place + 4) (part_bits s) part.end
PartReads ss mask came plan bs place (Err r) = part_of ss came bs place ≡ bad r

-- the parts of the mask's systems
pub record PartsStand (bs : List Bool) (ss : List System) (subs : List Subset) (plan : SubsetPlan) : Type 0 where
  pub first : Stands bs plan.first part_bits (chain (at ss 0) (λ s. of_id subs s.id))
  pub second : Stands bs plan.second part_bits (chain (at ss 1) (λ s. of_id subs s.id))

-- what a reading of its systems tells, and of the whole of it
abbrev pub PartsRead : List System → ℕ → List Bool → ℕ → Result (Read SubsetPlan) RefusalAt → Type 0
PartsRead ss n bs place (Ok read) = (subs : List Subset) × (systems (ids ss) (subset_system ss) [] n bs place ≡ got subs read.end) × PartsStand bs ss subs read.plan
PartsRead ss n bs place (Err r) = systems (ids ss) (subset_system ss) [] n bs place ≡ bad r

abbrev pub SubsetReads : List System → List Bool → ℕ → Result (Read SubsetPlan) RefusalAt → Type 0
SubsetReads ss bs place (Ok read) = (b : Block (List Subset)) × (block (subset ss) bs place ≡ got b read.end) × PartsStand bs ss b.body read.plan
SubsetReads ss bs place (Err r) = block (subset ss) bs place ≡ bad r

-- ---- the blocks behind the mask
unfoldable pub blocks : Header → Option Mask → List System → Parser Message
unfolding ◌>>=◌ ret block orbits clocks subset codes phases
blocks h own ss = do
  os ← optional (has_orbit h) (block (orbits ss))
  cs ← optional (has_clock h) (block (clocks ss))
  sub ← optional (has_subset h) (block (subset ss))
  bs ← optional (has_code h) (block (codes ss))
  ps ← optional (has_phase h) (block (phases ss))
  ret (record { header = h; mask = own; orbits = os; clocks = cs; subset = sub; codes = bs; phases = ps })

pub record BlocksStand (bs : List Bool) (ss : List System) (m : Message) (plan : Plan) : Type 0 where
  pub orbit : Stands bs plan.orbit (block_bits (orbits_bits ss)) m.orbits
  pub clock : Stands bs plan.clock (block_bits clocks_bits) m.clocks
  pub subset : Stands bs plan.subset (block_bits subsets_bits) m.subset
  pub parts : PartsStand bs ss (subsets_in m.subset) plan.parts
  pub code : Stands bs plan.code (block_bits codes_bits) m.codes
  pub phase : Stands bs plan.phase (block_bits phases_bits) m.phases

-- what a first pass over the blocks tells
abbrev pub BlocksRead : Header → Option Mask → List System → List Bool → ℕ → Bool → MaskPlan → Result Plan RefusalAt → Type 0
BlocksRead h own ss bs place lent mask (Ok plan) =
    (m : Message) × (end : ℕ) × (blocks h own ss bs place ≡ got m end) × BlocksStand bs ss m plan × (plan.lent ≡ lent) × (plan.mask ≡ mask)
BlocksRead h own ss bs place lent mask (Err r) = blocks h own ss bs place ≡ bad r

-- the subset, if its flag is 1
abbrev pub SubsetReadIf : Bool → List System → List Bool → ℕ → Result (Read SubsetPlan) RefusalAt → Type 0
SubsetReadIf true ss bs place r = SubsetReads ss bs place r
SubsetReadIf false ss bs place r = r ≡ Ok (record { plan = record { first = None; second = None }; end = place })

-- the octets in which the mask stands
abbrev pub source : Bool → List ℕ → List ℕ → List ℕ
source true octets lent = lent
source false octets lent = octets

-- a message that is read, and where it stands
pub record Planned (lent : Lent) (octets sourced : List ℕ) (m : Message) (ss : List System) (plan : Plan) : Type 0 where
  pub ok : ValidMessage (lent_for lent m.header.mask_id) ss m
  pub header : Span (bits_of octets) 0 (header_bits m.header) 32
  pub mask : MaskStands (bits_of sourced) ss plan.mask
  pub blocks : BlocksStand (bits_of octets) ss m plan
  pub short : length octets ≤ 20480

-- what a first pass tells, over what is behind a header where the lent mask is used, and over the whole message
abbrev pub LentRead : Lent → Header → List ℕ → Result Plan RefusalAt → Type 0
LentRead lent h octets (Ok plan) =
    (m : Message) × (end : ℕ) × (mask : Mask) × (lent_for lent h.mask_id ≡ some mask) × (blocks h none mask.systems (bits_of octets) 32 ≡ got m end)
    × BlocksStand (bits_of octets) mask.systems m plan × (plan.lent ≡ true) × MaskStands (bits_of lent.octets) mask.systems plan.mask
LentRead lent h octets (Err r) = (or_mask (used (lent_for lent h.mask_id) h none) >>= blocks h none) (bits_of octets) 32 ≡ bad r

abbrev pub MessageRead : Lent → List ℕ → Result Plan RefusalAt → Type 0
MessageRead lent octets (Ok plan) =
    (m : Message) × (end : ℕ) × (ss : List System) × (message lent (bits_of octets) 0 ≡ got m end) × Planned lent octets (source plan.lent octets lent.octets) m ss plan
MessageRead lent octets (Err r) = message lent (bits_of octets) 0 ≡ bad r
