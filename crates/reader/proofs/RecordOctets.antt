-- The octets of a record, from the values that were read.
-- A value of 16 bits is two octets, and the record is its octets one behind another.
use Prim.Native.Nat.{ℕ, ◌/◌, ◌%◌, ◌^◌}
use mathlib.Core.List.{List, [], ◌∷◌, ◌++◌}
use mathlib.Core.Option.{Option}
use mathlib.Core.Bool.{Bool}
use mathlib.Core.Path.{◌≡◌, refl, ◌∙◌}
use native.Mathlib.Omega.{arith}
use lib.ListN.{length, get_or}
use Rattle.bits.specs.Bits.{bits, value, octets_of}
use Rattle.mt1.specs.Message.{System, Message}
use Rattle.mt1.specs.Records.{two, part, body, octet_or, iod_or, signed_or, interval_of, multiplier_of, of_system, subset_of, subset_clock, header_record, system_record, satellite_record, cell_record}
use Rattle.reader.specs.Steps.{Place, Stands}
use Rattle.reader.specs.Recording.{Below}
use Rattle.reader.proofs.RowValues.{Value}

-- a list of two
pub pair-of : (r : List ℕ) → length r ≡ 2 → get_or r 0 0 ∷ get_or r 1 0 ∷ [] ≡ r
pair-of [] l = absurd (let z : ⊥ = omega arith in z)
pair-of (a ∷ []) l = absurd (let z : ⊥ = omega arith in z)
pair-of (a ∷ b ∷ []) l = refl
pair-of (a ∷ b ∷ c ∷ r) l = absurd (let z : ⊥ = omega arith in z)

-- ---- a value that is read where it stands, as what is recorded of it
module _ (bs : List Bool) (n : ℕ) (v : Option ℕ) {q place : Place} (here : q ≡ place) (x : Value bs place n v) where
  pub one-octet : {r : ℕ} → ((u : Option ℕ) → Stands bs q (bits n) u → Below (2 ^ n) u → r ≡ octet_or u) → r ≡ octet_or v
  one-octet f = f v (rw here x.0) x.1

  pub two-octets : (recorded : Option ℕ → List ℕ) {r : List ℕ} → length r ≡ 2 → ((u : Option ℕ) → Stands bs q (bits n) u → Below (2 ^ n) u → r ≡ recorded u)
      → get_or r 0 0 ∷ get_or r 1 0 ∷ [] ≡ recorded v
  two-octets recorded {r} l f = pair-of r l ∙ f v (rw here x.0) x.1

-- ---- the records
pub header-octets : (m : Message) {flags id set orbit clock subset code phase : ℕ} {time : List ℕ}
    → flags ≡ value m.header.flags → id ≡ m.header.mask_id → set ≡ m.header.iod_set → length time ≡ 2 → time ≡ two m.header.time
    → orbit ≡ interval_of m.orbits → clock ≡ interval_of m.clocks → subset ≡ interval_of m.subset → code ≡ interval_of m.codes → phase ≡ interval_of m.phases
    → 1 ∷ flags ∷ id ∷ set ∷ get_or time 0 0 ∷ get_or time 1 0 ∷ orbit ∷ clock ∷ subset ∷ code ∷ phase ∷ 0 ∷ 0 ∷ 0 ∷ 0 ∷ 0 ∷ [] ≡ header_record m
unfolding header_record
header-octets m {time = time} a b c l d g h i j k =
    let t = pair-of time l ∙ d in
    let t0 : get_or time 0 0 ≡ m.header.time / 256 = cc in
    let t1 : get_or time 1 0 ≡ m.header.time % 256 = cc in
    rw (a, b, c, t0, t1, g, h, i, j, k)

pub system-octets : (m : Message) (p : ℕ) (s : System) {id flag navigation multiplier subset : ℕ} {satellites signals : List ℕ}
    → id ≡ s.id → flag ≡ s.cell_flag → navigation ≡ s.navigation
    → multiplier ≡ octet_or (multiplier_of m.clocks p) → subset ≡ octet_or (part (λ x. x.multiplier) (subset_of m.subset s.id))
    → satellites ≡ octets_of s.satellites → signals ≡ octets_of s.signals
    → 2 ∷ p ∷ id ∷ flag ∷ navigation ∷ multiplier ∷ subset ∷ satellites ++ (signals ++ (0 ∷ 0 ∷ [])) ≡ system_record m p s
unfolding system_record
system-octets m p s a b c d e f g = rw (a, b, c, d, e, f, g)

pub satellite-octets : (m : Message) (p : ℕ) (s : System) (i n : ℕ) {iod radial in-track cross-track clock subset : List ℕ}
    → iod ≡ iod_or (part (λ x. x.iod) (of_system m.orbits p n)) → radial ≡ signed_or 4096 (part (λ x. x.radial) (of_system m.orbits p n))
    → in-track ≡ signed_or 2048 (part (λ x. x.in_track) (of_system m.orbits p n)) → cross-track ≡ signed_or 2048 (part (λ x. x.cross_track) (of_system m.orbits p n))
    → clock ≡ signed_or 4096 (of_system (body (λ c. c.clocks) m.clocks) p n) → subset ≡ signed_or 4096 (subset_clock (subset_of m.subset s.id) n)
    → 3 ∷ p ∷ i ∷ 0 ∷ iod ++ (radial ++ (in-track ++ (cross-track ++ (clock ++ subset)))) ≡ satellite_record m p s i n
unfolding satellite_record
satellite-octets m p s i n a b c d e f = rw (a, b, c, d, e, f)

pub cell-octets : (m : Message) (p i g n : ℕ) {code bias : List ℕ} {discontinuity : ℕ} → code ≡ signed_or 1024 (of_system m.codes p n)
    → bias ≡ signed_or 1024 (part (λ x. x.bias) (of_system m.phases p n)) → discontinuity ≡ octet_or (part (λ x. x.discontinuity) (of_system m.phases p n))
    → 4 ∷ p ∷ i ∷ g ∷ code ++ (bias ++ (discontinuity ∷ 0 ∷ 0 ∷ 0 ∷ 0 ∷ 0 ∷ 0 ∷ 0 ∷ [])) ≡ cell_record m p i g n
unfolding cell_record
cell-octets m p i g n a b c = rw (a, b, c)
