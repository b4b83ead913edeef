-- What the records hold where a value is absent: 01, Records ("Absent: 255 in one octet, 65535 for IOD, -32768 for a signed value").
-- Leans on the records.
use Rattle.std.specs.Prelude.{ℕ, false, List, [], ◌∷◌, ◌≡◌, get_or, take, drop}
use Rattle.std.proofs.Math.Option.{none, some}
use Rattle.mt1.specs.Message.{System, Subset, Message}
use Rattle.mt1.specs.Records.{subset_of, header_record, system_record, satellite_record, cell_record}

-- n octets of a record, from one on
abbrev pub octets_at : ℕ → ℕ → List ℕ → List ℕ
octets_at i n r = take n (drop i r)

pub record Absent (m : Message) (p : ℕ) (s : System) : Type 0 where
  -- a block that is not there: its interval
  pub interval-orbit : m.orbits ≡ none → octets_at 6 1 (header_record m) ≡ 255 ∷ []
  pub interval-clock : m.clocks ≡ none → octets_at 7 1 (header_record m) ≡ 255 ∷ []
  pub interval-subset : m.subset ≡ none → octets_at 8 1 (header_record m) ≡ 255 ∷ []
  pub interval-code : m.codes ≡ none → octets_at 9 1 (header_record m) ≡ 255 ∷ []
  pub interval-phase : m.phases ≡ none → octets_at 10 1 (header_record m) ≡ 255 ∷ []
  -- no orbit block: IOD, radial, in-track, cross-track
  pub orbit : (i n : ℕ) → m.orbits ≡ none → octets_at 4 8 (satellite_record m p s i n) ≡ 255 ∷ 255 ∷ 128 ∷ 0 ∷ 128 ∷ 0 ∷ 128 ∷ 0 ∷ []
  -- no clock full block: multiplier field, clock
  pub multiplier : m.clocks ≡ none → octets_at 5 1 (system_record m p s) ≡ 255 ∷ []
  pub clock : (i n : ℕ) → m.clocks ≡ none → octets_at 12 2 (satellite_record m p s i n) ≡ 128 ∷ 0 ∷ []
  -- no subset block, or the system is not in it: subset multiplier field, subset clock
  pub subset-multiplier : subset_of m.subset s.id ≡ none → octets_at 6 1 (system_record m p s) ≡ 255 ∷ []
  pub subset-clock : (i n : ℕ) → subset_of m.subset s.id ≡ none → octets_at 14 2 (satellite_record m p s i n) ≡ 128 ∷ 0 ∷ []
  -- the system is in the subset, the satellite is not chosen
  pub not_chosen : (i n : ℕ) (x : Subset) → subset_of m.subset s.id ≡ some x → get_or x.chosen n false ≡ false
      → (octets_at 6 1 (system_record m p s) ≡ x.multiplier ∷ []) × (octets_at 14 2 (satellite_record m p s i n) ≡ 128 ∷ 0 ∷ [])
  -- no code block: code; no phase block: phase and discontinuity
  pub code : (i g n : ℕ) → m.codes ≡ none → octets_at 4 2 (cell_record m p i g n) ≡ 128 ∷ 0 ∷ []
  pub phase : (i g n : ℕ) → m.phases ≡ none → octets_at 6 3 (cell_record m p i g n) ≡ 128 ∷ 0 ∷ 255 ∷ []
