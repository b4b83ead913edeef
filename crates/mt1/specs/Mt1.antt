-- The parser of message type 1, field by field: 01, Message type 1; ICD 5.
-- Leans on parsers and on the message as a value.
use Rattle.std.specs.Prelude.{ℕ, Bool, true, false, ◌&&◌, ◌||◌, cond, List, [], ◌∷◌, map, eqb, leb, ltb, length}
use Rattle.std.proofs.Math.Option.{Option, none, some}
use Rattle.bits.specs.Bits.{bits_of}
use Rattle.refusal.specs.declared.Refusal.{Refusal}
use Rattle.refusal.specs.declared.Refusal.TheVariants as refusal
use Rattle.mt1.specs.Parse.{Parser, refuse, ◌>>=◌, ret, fail, raw, field, judged, times, for_each, optional, systems, got, bad, Outcome}
use Rattle.mt1.specs.Message.{Header, has_mask, has_orbit, has_clock, has_subset, has_code, has_phase, System, count, cell_bits, cells_of, Mask, Orbit, Clocks, Subset, Phase, Block, Message}

-- a value is refused unless a test holds
abbrev pub unless : Bool → Refusal → Option Refusal
unless true w = none
unless false w = some w

-- "time of hour 12 (0 to 3599)": TOH
unfoldable pub header : Parser Header
unfolding ◌>>=◌ ret raw field judged
header = do
  time ← judged 12 (λ v. unless (ltb v 3600) refusal.Toh)
  flags ← raw 6
  reserved ← field 4
  mask_id ← field 5
  iod_set ← field 5
  ret (record { time = time; flags = flags; reserved = reserved; mask_id = mask_id; iod_set = iod_set })

-- ---- the mask
-- a system behind its GNSS ID; "Navigation message not 0: NAVMSG"
unfoldable pub system : ℕ → Parser System
unfolding ◌>>=◌ ret raw field judged count
system id = do
  satellites ← raw 40
  signals ← raw 16
  cell_flag ← field 1
  cells ← raw (cond (eqb cell_flag 1) (cell_bits satellites signals) 0)
  navigation ← judged 3 (λ v. unless (eqb v 0) refusal.NavMsg)
  ret (record { id = id; satellites = satellites; signals = signals; cell_flag = cell_flag; cells = cells; navigation = navigation })

-- "0 GPS, 2 Galileo"
abbrev pub known : List ℕ
known = 0 ∷ 2 ∷ []

-- "Nsys must be 1 or 2, the subset count 1 to Nsys: COUNT"
unfoldable pub counted : ℕ → Parser ℕ
unfolding judged
counted most = judged 4 (λ n. unless (leb 1 n && leb n most) refusal.Count)

-- "Mask: Nsys 4; per system ..; then 6 reserved"
unfoldable pub mask : Parser Mask
unfolding ◌>>=◌ ret field systems counted system
mask = do
  n ← counted 2
  ss ← systems known system [] n
  reserved ← field 6
  ret (record { systems = ss; reserved = reserved })

-- ---- the blocks, of the systems of the mask that is used
-- "Interval 15: VALIDITY"
unfoldable pub interval : Parser ℕ
unfolding judged
interval = judged 4 (λ v. unless (ltb v 15) refusal.Validity)

unfoldable pub block : {A : Type 0} → Parser A → Parser (Block A)
unfolding ◌>>=◌ ret interval
block p = do
  i ← interval
  x ← p
  ret (record { interval = i; body = x })

-- "reference IOD (GPS 8, Galileo 10)"
abbrev pub iod_bits : ℕ → ℕ
iod_bits id = cond (eqb id 0) 8 10

unfoldable pub orbit : ℕ → Parser Orbit
unfolding ◌>>=◌ ret field
orbit id = do
  iod ← field (iod_bits id)
  radial ← field 13
  in_track ← field 12
  cross_track ← field 12
  ret (record { iod = iod; radial = radial; in_track = in_track; cross_track = cross_track })

-- "Orbit: interval 4; per satellite .."
unfoldable pub orbits : List System → Parser (List (List Orbit))
unfolding times for_each orbit count
orbits ss = for_each ss (λ s. times (count s.satellites) (orbit s.id))

-- "Clock full: interval 4; multiplier field 2 per system (0 to 3 meaning 1 to 4); 13 per satellite"
unfoldable pub clocks : List System → Parser Clocks
unfolding ◌>>=◌ ret field times for_each count
clocks ss = do
  ms ← times (length ss) (field 2)
  cs ← for_each ss (λ s. times (count s.satellites) (field 13))
  ret (record { multipliers = ms; clocks = cs })

-- the satellite mask of the system that has a GNSS ID
unfoldable pub satellites_of : List System → ℕ → List Bool
satellites_of [] id = []
satellites_of (s ∷ ss) id = cond (eqb id s.id) s.satellites (satellites_of ss id)

-- "per system .., multiplier 2, one bit per masked satellite, 13 per chosen satellite"
unfoldable pub subset_system : List System → ℕ → Parser Subset
unfolding ◌>>=◌ ret raw field times satellites_of count
subset_system ss id = do
  m ← field 2
  chosen ← raw (count (satellites_of ss id))
  cs ← times (count chosen) (field 13)
  ret (record { id = id; multiplier = m; chosen = chosen; clocks = cs })

abbrev pub ids : List System → List ℕ
ids ss = map (λ s. s.id) ss

-- "Clock subset: interval 4; system count 4; .."
unfoldable pub subset : List System → Parser (List Subset)
unfolding ◌>>=◌ counted systems subset_system
subset ss = counted (length ss) >>= λ n. systems (ids ss) (subset_system ss) [] n

-- "Code: interval 4; 11 per cell."
unfoldable pub codes : List System → Parser (List (List ℕ))
unfolding field times for_each count cells_of
codes ss = for_each ss (λ s. times (count (cells_of s)) (field 11))

unfoldable pub phase : Parser Phase
unfolding ◌>>=◌ ret field
phase = do
  b ← field 11
  d ← field 2
  ret (record { bias = b; discontinuity = d })

-- "Phase: interval 4; 11 and 2 per cell."
unfoldable pub phases : List System → Parser (List (List Phase))
unfolding times for_each count cells_of phase
phases ss = for_each ss (λ s. times (count (cells_of s)) phase)

-- ---- the message
-- "mask flag 0, another flag 1": one of the five blocks behind the mask
abbrev pub needs_mask : Header → Bool
needs_mask h = has_orbit h || (has_clock h || (has_subset h || (has_code h || has_phase h)))

-- the systems of the mask that is used: the message's own, else the lent one's where a block needs it
unfoldable pub used : Option Mask → Header → Option Mask → Option (List System)
used lent h (some own) = some own.systems
used none h none = cond (needs_mask h) none (some [])
used (some m) h none = some (cond (needs_mask h) m.systems [])

-- "22 for MASK"
abbrev pub or_mask : Option (List System) → Parser (List System)
or_mask (some ss) = ret ss
or_mask none = fail (refuse refusal.Mask 22)

-- "Blocks follow in flag order": what is behind a header, if this mask is lent for its Mask ID
unfoldable pub behind : Option Mask → Header → Parser Message
unfolding ◌>>=◌ ret mask block orbits clocks subset codes phases used
behind lent h = do
  own ← optional (has_mask h) mask
  ss ← or_mask (used lent h own)
  os ← optional (has_orbit h) (block (orbits ss))
  cs ← optional (has_clock h) (block (clocks ss))
  sub ← optional (has_subset h) (block (subset ss))
  bs ← optional (has_code h) (block (codes ss))
  ps ← optional (has_phase h) (block (phases ss))
  ret (record { header = h; mask = own; orbits = os; clocks = cs; subset = sub; codes = bs; phases = ps })

-- "a lent mask (its ID and the Mask block's own bits, left-aligned; extra octets ignored; no octets means none)"
pub record Lent : Type 0 where
  pub id : ℕ
  pub octets : List ℕ

abbrev pub cleanly : Outcome Mask → Option Mask
cleanly (got m end) = some m
cleanly (bad r) = none

-- "is absent, has another ID or does not read cleanly"
unfoldable pub lent_for : Lent → ℕ → Option Mask
unfolding mask bits_of
lent_for lent id = cond (eqb lent.id id) (cleanly (mask (bits_of lent.octets) 0)) none

abbrev pub is_none : {A : Type 0} → Option A → Bool
is_none none = true
is_none (some x) = false

unfoldable pub message : Lent → Parser Message
unfolding ◌>>=◌ header behind lent_for
message lent = header >>= λ h. behind (lent_for lent h.mask_id) h
