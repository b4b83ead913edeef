-- The records of a valid message are rendered as its bits, reserved bits 0 and the subset's systems in mask order.
-- Header, mask and each block are what the records say of them; in a block the systems come one behind another, each from its own records.
use Prim.Native.Nat.{ℕ, ◌^◌, ◌<◌}
use mathlib.Core.List.{List, ◌++◌}
use mathlib.Core.Option.{Option, none, some}
use mathlib.Core.Path.{◌≡◌, refl, ap₂, ◌∙◌}
use Rattle.bits.specs.Bits.{bits}
use Rattle.mt1.specs.Message.{System, Mask, Subset, Block, Message, count, cells_of}
use Rattle.mt1.specs.Encode.{each, if_there, block_bits, orbit_bits, orbits_bits, clocks_bits, subsets_bits, codes_bits, phase_bits, phases_bits, encode}
use Rattle.mt1.specs.Valid.{Row, OrbitOk, OrbitsOk, ClocksOk, SubsetsOk, CodesOk, PhaseOk, PhasesOk, Ok}
use Rattle.mt1.specs.Records.{part, header_record, records}
use Rattle.mt1.proofs.Blocks.{Masked}
use Rattle.writer.specs.declared.part.Part.TheVariants as the-part
use Rattle.writer.specs.Rendering.{both, clocks_part, subsets_part, rendered_of, rendered}
use Rattle.writer.proofs.Canonical.{ordered, canonical_subset, canonical}
use Rattle.writer.proofs.Cutting.{first, second, rendered-cut}
use Rattle.writer.proofs.SatelliteParts.{orbit-part}
use Rattle.writer.proofs.CellParts.{code-part, phase-part}
use Rattle.writer.proofs.BySystem.{both-rows, both-same}
use Rattle.writer.proofs.Headed.{header-part, block-part, mask-part}
use Rattle.writer.proofs.ClockBlocks.{subsets-part, clocks-part}

subset-ordered : (ss : List System) (b : Option (Block (List Subset)))
    → if_there (block_bits (λ l. subsets_bits (ordered ss l))) b ≡ if_there (block_bits subsets_bits) (part (canonical_subset ss) b)
unfolding block_bits
subset-ordered ss none = refl
subset-ordered ss (some b) = refl

pub rendered-records : (lent : Option Mask) (ss : List System) (m : Message) → Ok lent ss m → Masked ss → rendered (records ss m) ≡ encode ss (canonical ss m)
unfolding rendered_of encode records header_record orbits_bits codes_bits phases_bits
rendered-records lent ss m o k =
    let a : List ℕ = first m ss in
    let b : List ℕ = second m ss in
    rendered-cut m ss k.systems
    ∙ ap₂ ◌++◌ (header-part m ss o.header)
    (ap₂ ◌++◌ (mask-part m ss k lent o.header o.mask o.used)
    (ap₂ ◌++◌ (block-part m ss o.header (OrbitsOk ss) 1 m.orbits (orbits_bits ss) (both the-part.Orbit a b) refl o.orbits (λ x q w.
    both-rows m ss k the-part.Orbit (λ s row. Row (count s.satellites) (OrbitOk s.id) row) (λ s. each (orbit_bits s.id)) x.body w (λ p s ok r. orbit-part m p s ok x q r)))
    (ap₂ ◌++◌ (block-part m ss o.header (ClocksOk ss) 2 m.clocks clocks_bits (clocks_part a b) refl o.clocks (clocks-part m ss k))
    (ap₂ ◌++◌ (block-part m ss o.header (SubsetsOk ss) 3 m.subset (λ l. subsets_bits (ordered ss l)) (subsets_part a b) refl o.subset (subsets-part m ss k) ∙ subset-ordered ss m.subset)
    (ap₂ ◌++◌ (block-part m ss o.header (CodesOk ss) 4 m.codes codes_bits (both the-part.Code a b) refl o.codes (λ x q w.
    both-same m ss k the-part.Code (λ s row. Row (count (cells_of s)) (λ v. v < 2 ^ 11) row) (each (bits 11)) x.body w (λ p s ok r. code-part m p s ok x q r)))
    (block-part m ss o.header (PhasesOk ss) 5 m.phases phases_bits (both the-part.Phase a b) refl o.phases (λ x q w.
    both-same m ss k the-part.Phase (λ s row. Row (count (cells_of s)) PhaseOk row) (each phase_bits) x.body w (λ p s ok r. phase-part m p s ok x q r))))))))
