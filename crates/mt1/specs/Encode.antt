-- The bits of a message of type 1, field behind field: 01, Message type 1; ICD 5.
-- Leans on the message as a value, and on the parser for which widths there are.
use Rattle.std.specs.Prelude.{ℕ, Bool, List, [], ◌∷◌, ◌++◌, length}
use Rattle.std.proofs.Math.Option.{Option, none, some}
use Rattle.bits.specs.Bits.{bits}
use Rattle.mt1.specs.Message.{Header, System, Mask, Orbit, Clocks, Subset, Phase, Block, Message}
use Rattle.mt1.specs.Mt1.{iod_bits}

-- the bits of each, one behind another
unfoldable pub each : {A : Type 0} → (A → List Bool) → List A → List Bool
each f [] = []
each f (x ∷ xs) = f x ++ each f xs

-- the same, beside a list of as many
unfoldable pub each_of : {S A : Type 0} → (S → A → List Bool) → List S → List A → List Bool
each_of f [] xs = []
each_of f (s ∷ ss) [] = []
each_of f (s ∷ ss) (x ∷ xs) = f s x ++ each_of f ss xs

-- what is there, if it is
abbrev pub if_there : {A : Type 0} → (A → List Bool) → Option A → List Bool
if_there f none = []
if_there f (some x) = f x

unfoldable pub header_bits : Header → List Bool
unfolding bits
header_bits h = bits 12 h.time ++ (h.flags ++ (bits 4 h.reserved ++ (bits 5 h.mask_id ++ bits 5 h.iod_set)))

unfoldable pub system_bits : System → List Bool
unfolding bits
system_bits s = bits 4 s.id ++ (s.satellites ++ (s.signals ++ (bits 1 s.cell_flag ++ (s.cells ++ bits 3 s.navigation))))

unfoldable pub mask_bits : Mask → List Bool
unfolding bits each system_bits
mask_bits m = bits 4 (length m.systems) ++ (each system_bits m.systems ++ bits 6 m.reserved)

unfoldable pub block_bits : {A : Type 0} → (A → List Bool) → Block A → List Bool
unfolding bits
block_bits f b = bits 4 b.interval ++ f b.body

unfoldable pub orbit_bits : ℕ → Orbit → List Bool
unfolding bits
orbit_bits id o = bits (iod_bits id) o.iod ++ (bits 13 o.radial ++ (bits 12 o.in_track ++ bits 12 o.cross_track))

unfoldable pub orbits_bits : List System → List (List Orbit) → List Bool
unfolding each each_of orbit_bits
orbits_bits ss rows = each_of (λ s. each (orbit_bits s.id)) ss rows

unfoldable pub clocks_bits : Clocks → List Bool
unfolding bits each
clocks_bits c = each (bits 2) c.multipliers ++ each (each (bits 13)) c.clocks

unfoldable pub subset_bits : Subset → List Bool
unfolding bits each
subset_bits s = bits 4 s.id ++ (bits 2 s.multiplier ++ (s.chosen ++ each (bits 13) s.clocks))

unfoldable pub subsets_bits : List Subset → List Bool
unfolding bits each subset_bits
subsets_bits ss = bits 4 (length ss) ++ each subset_bits ss

unfoldable pub codes_bits : List (List ℕ) → List Bool
unfolding bits each
codes_bits rows = each (each (bits 11)) rows

unfoldable pub phase_bits : Phase → List Bool
unfolding bits
phase_bits p = bits 11 p.bias ++ bits 2 p.discontinuity

unfoldable pub phases_bits : List (List Phase) → List Bool
unfolding each phase_bits
phases_bits rows = each (each phase_bits) rows

-- the bits of a message whose mask in use has these systems
unfoldable pub encode : List System → Message → List Bool
unfolding header_bits mask_bits block_bits orbits_bits clocks_bits subsets_bits codes_bits phases_bits
encode ss m =
    header_bits m.header
    ++ (if_there mask_bits m.mask
    ++ (if_there (block_bits (orbits_bits ss)) m.orbits
    ++ (if_there (block_bits clocks_bits) m.clocks
    ++ (if_there (block_bits subsets_bits) m.subset
    ++ (if_there (block_bits codes_bits) m.codes
    ++ if_there (block_bits phases_bits) m.phases)))))
