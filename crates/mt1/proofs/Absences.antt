-- Where a value is absent, the records hold what document 01 says.
-- The octets before it are two for each value, absent or not; behind them the record's own definition gives the absent value.
use mathlib.Core.Bool.{false}
use mathlib.Core.List.{List, [], ◌∷◌, ◌++◌}
use mathlib.Core.Option.{Option, none, some}
use mathlib.Core.Path.{◌≡◌, refl, ap, ◌∙◌}
use Prim.Native.Nat.{ℕ}
use lib.ListN.{get_or, take, drop}
use Rattle.mt1.specs.Message.{System, Orbit, Subset, Message}
use Rattle.mt1.specs.Records.{iod_or, signed_or, part, body, of_system, subset_of, subset_clock, header_record, system_record, satellite_record, cell_record}
use Rattle.mt1.specs.Absent.{octets_at, Absent}

-- a satellite's octets behind its orbit, and a cell's behind its code, whatever stands before them
clock-octets : (o : Option Orbit) (c u : Option ℕ) →
    let l = iod_or (part (λ x. x.iod) o) ++ (signed_or 4096 (part (λ x. x.radial) o) ++ (signed_or 2048 (part (λ x. x.in_track) o)
    ++ (signed_or 2048 (part (λ x. x.cross_track) o) ++ (signed_or 4096 c ++ signed_or 4096 u)))) in
    (octets_at 8 2 l ≡ signed_or 4096 c) × (octets_at 10 2 l ≡ signed_or 4096 u)
unfolding signed_or
clock-octets none none none = (refl, refl)
clock-octets none none (some u) = (refl, refl)
clock-octets none (some c) none = (refl, refl)
clock-octets none (some c) (some u) = (refl, refl)
clock-octets (some o) none none = (refl, refl)
clock-octets (some o) none (some u) = (refl, refl)
clock-octets (some o) (some c) none = (refl, refl)
clock-octets (some o) (some c) (some u) = (refl, refl)

past-code : (c : Option ℕ) (l : List ℕ) → drop 2 (signed_or 1024 c ++ l) ≡ l
unfolding signed_or
past-code none l = refl
past-code (some c) l = refl

module _ (m : Message) (p : ℕ) (s : System) where
  clock-at : (i n : ℕ) → octets_at 12 2 (satellite_record m p s i n) ≡ signed_or 4096 (of_system (body (λ c. c.clocks) m.clocks) p n)
  unfolding satellite_record
  clock-at i n = (clock-octets (of_system m.orbits p n) (of_system (body (λ c. c.clocks) m.clocks) p n) (subset_clock (subset_of m.subset s.id) n)).0

  subset-clock-at : (i n : ℕ) → octets_at 14 2 (satellite_record m p s i n) ≡ signed_or 4096 (subset_clock (subset_of m.subset s.id) n)
  unfolding satellite_record
  subset-clock-at i n = (clock-octets (of_system m.orbits p n) (of_system (body (λ c. c.clocks) m.clocks) p n) (subset_clock (subset_of m.subset s.id) n)).1

  no-clock : (n : ℕ) → m.clocks ≡ none → signed_or 4096 (of_system (body (λ c. c.clocks) m.clocks) p n) ≡ 128 ∷ 0 ∷ []
  unfolding of_system signed_or
  no-clock n e = rw e

  no-subset-clock : (n : ℕ) (x : Option Subset) → subset_of m.subset s.id ≡ x → subset_clock x n ≡ none
      → signed_or 4096 (subset_clock (subset_of m.subset s.id) n) ≡ 128 ∷ 0 ∷ []
  unfolding signed_or
  no-subset-clock n x e f = rw (e, f)

  not-chosen-clock : (n : ℕ) (x : Subset) → get_or x.chosen n false ≡ false → subset_clock (some x) n ≡ none
  unfolding subset_clock
  not-chosen-clock n x f = rw f

  pub absent : Absent m p s
  unfolding header_record system_record satellite_record cell_record signed_or of_system subset_clock
  absent = record {
    interval-orbit = λ e. rw e;
    interval-clock = λ e. rw e;
    interval-subset = λ e. rw e;
    interval-code = λ e. rw e;
    interval-phase = λ e. rw e;
    orbit = λ i n e. rw e;
    multiplier = λ e. rw e;
    clock = λ i n e. clock-at i n ∙ no-clock n e;
    subset-multiplier = λ e. rw e;
    subset-clock = λ i n e. subset-clock-at i n ∙ no-subset-clock n none e refl;
    not_chosen = λ i n x e f. (rw e, subset-clock-at i n ∙ no-subset-clock n (some x) e (not-chosen-clock n x f));
    code = λ i g n e. rw e;
    phase = λ i g n e. ap (take 3) (past-code (of_system m.codes p n) _) ∙ rw e;
  }
