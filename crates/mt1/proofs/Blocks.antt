-- The five blocks behind the mask are read exactly where their bits stand.
-- Field by field and row by row, by the laws of the parsers that they are made of.
use Prim.Native.Nat.{ℕ, ◌<◌, ◌≤◌, ◌^◌}
use native.Mathlib.Omega.{arith}
use mathlib.Core.Bool.{Bool}
use mathlib.Core.List.{List, [], ◌∷◌, ◌++◌}
use mathlib.Core.Path.{◌≡◌, refl}
use lib.Dec.{eqb, ltb}
use lib.ListN.{length}
use borrow.Author.Tests.{ltb-true, lt-ltb}
use Rattle.bits.specs.Bits.{bits}
use Rattle.lists.specs.Lists.{Every}
use Rattle.lists.proofs.Tests.{cond-holds}
use Rattle.refusal.specs.declared.Refusal.TheVariants as refusal
use Rattle.mt1.specs.Parse.{Parser}
use Rattle.mt1.specs.Message.{System, count, cells_of}
use Rattle.mt1.specs.Mt1.{known, block, iod_bits, orbit, orbits, clocks, satellites_of, subset_system, ids, subset, codes, phase, phases}
use Rattle.mt1.specs.Encode.{each, block_bits, orbit_bits, orbits_bits, clocks_bits, subset_bits, subsets_bits, codes_bits, phase_bits, phases_bits}
use Rattle.mt1.specs.Valid.{IdsOk, SystemOk, OrbitOk, OrbitsOk, ClocksOk, SubsetOk, SubsetsOk, CodesOk, PhaseOk, PhasesOk, BlockOk}
use Rattle.mt1.proofs.Combinators.{Reads, then, last, reads_ok, raw-reads, field-reads, tested}
use Rattle.mt1.proofs.Several.{times-reads, for_each-reads, for_each-same, memb-every, systems-reads}
use Rattle.mt1.proofs.Masks.{counted-reads, known_small}

pub block_reads : {A : Type 0} {p : Parser A} {Ok : A → Type 0} {enc : A → List Bool} → Reads p Ok enc → Reads (block p) (BlockOk Ok) (block_bits enc)
unfolding block block_bits
block_reads P = reads_ok (λ b o. record { interval = o.0; body = o.1.0 }) (λ b o. (o.interval, (o.body, refl)))
    (then (λ b. b.interval) (λ a b o. cc) (tested 4 (λ v. ltb v 15) refusal.Validity (λ v. ltb-true v 15) (λ v o. (omega arith, lt-ltb v 15 o))) λ i _.
    last (λ b. b.body) (λ a. refl) P)

-- ---- orbits
pub iod-le : (id : ℕ) → iod_bits id ≤ 10
iod-le id = cond-holds (λ (n : ℕ). n ≤ 10) (eqb id 0) (omega arith) (omega arith)

orbit-reads : (id : ℕ) → Reads (orbit id) (OrbitOk id) (orbit_bits id)
unfolding orbit orbit_bits
orbit-reads id = reads_ok
    (λ x o. record { iod = o.0; radial = o.1.0; in_track = o.1.1.0; cross_track = o.1.1.1.0 })
    (λ x o. (o.iod, (o.radial, (o.in_track, (o.cross_track, refl)))))
    (then (λ x. x.iod) (λ a x o. cc) (field-reads (iod_bits id)) λ iod _.
    then (λ x. x.radial) (λ a x o. cc) (field-reads 13) λ radial _.
    then (λ x. x.in_track) (λ a x o. cc) (field-reads 12) λ in_track _.
    last (λ x. x.cross_track) (λ a. refl) (field-reads 12))

pub orbits-reads : (ss : List System) → Reads (orbits ss) (OrbitsOk ss) (orbits_bits ss)
unfolding orbits orbits_bits
orbits-reads ss = for_each-reads ss (λ s. times-reads (count s.satellites) (orbit-reads s.id))

-- ---- clocks
pub clocks-reads : (ss : List System) → Reads (clocks ss) (ClocksOk ss) clocks_bits
unfolding clocks clocks_bits
clocks-reads ss = reads_ok (λ c o. record { multipliers = o.0; clocks = o.1.0 }) (λ c o. (o.multipliers, (o.clocks, refl)))
    (then (λ c. c.multipliers) (λ a c o. cc) (times-reads (length ss) (field-reads 2)) λ ms _.
    last (λ c. c.clocks) (λ a. refl) (for_each-same ss (λ s. times-reads (count s.satellites) (field-reads 13))))

-- ---- clocks of a subset
-- a system behind its GNSS ID
pub subset-system-reads : (ss : List System) (id : ℕ)
    → Reads (subset_system ss id) (λ s. (s.id ≡ id) × SubsetOk ss s) (λ s. bits 2 s.multiplier ++ (s.chosen ++ each (bits 13) s.clocks))
unfolding subset_system
subset-system-reads ss id = reads_ok
    (λ s o. let e : s.id ≡ id = cc in (e, record { multiplier = o.0; chosen = rw e o.1.0; clocks = o.1.1.0 }))
    (λ s o. (o.1.multiplier, (rw o.0 at o.1.chosen, (o.1.clocks, rw (← o.0)))))
    (then (λ s. s.multiplier) (λ a s o. cc) (field-reads 2) λ m _.
    then (λ s. s.chosen) (λ a s o. cc) (raw-reads (count (satellites_of ss id))) λ chosen _.
    last (λ s. s.clocks) (λ a. refl) (times-reads (count chosen) (field-reads 13)))

-- the systems of a mask, or none
pub record Masked (ss : List System) : Type 0 where
  pub few : length ss ≤ 2
  pub ids : IdsOk known [] (ids ss)
  pub systems : Every SystemOk ss

pub ids-small : (came : List ℕ) (l : List ℕ) → IdsOk known came l → Every (λ i. i < 2 ^ 4) l
ids-small came [] o = tt
ids-small came (i ∷ l) o = (memb-every (λ i. i < 2 ^ 4) known i known_small o.0, ids-small (i ∷ came) l o.2)

pub subset-reads : (ss : List System) → Masked ss → Reads (subset ss) (SubsetsOk ss) subsets_bits
unfolding subset subsets_bits subset_bits
subset-reads ss k = reads_ok
    (λ l o. record { some = o.0.0; few = o.0.1; chosen_ids = o.1.1; each = o.1.2 })
    (λ l o. ((o.some, o.few), (refl, o.chosen_ids, o.each)))
    (then length (λ n l o. o.0) (counted-reads (length ss) (omega (arith, k.few))) λ n _.
    systems-reads _ (λ s. s.id) [] n (ids-small [] (ids ss) k.ids) (subset-system-reads ss))

-- ---- codes and phases
pub codes-reads : (ss : List System) → Reads (codes ss) (CodesOk ss) codes_bits
unfolding codes codes_bits
codes-reads ss = for_each-same ss (λ s. times-reads (count (cells_of s)) (field-reads 11))

phase-reads : Reads phase PhaseOk phase_bits
unfolding phase phase_bits
phase-reads = reads_ok (λ p o. record { bias = o.0; discontinuity = o.1.0 }) (λ p o. (o.bias, (o.discontinuity, refl)))
    (then (λ p. p.bias) (λ a p o. cc) (field-reads 11) λ b _.
    last (λ p. p.discontinuity) (λ a. refl) (field-reads 2))

pub phases-reads : (ss : List System) → Reads (phases ss) (PhasesOk ss) phases_bits
unfolding phases phases_bits
phases-reads ss = for_each-same ss (λ s. times-reads (count (cells_of s)) phase-reads)
