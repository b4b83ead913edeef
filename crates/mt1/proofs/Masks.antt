-- The header, a system and the mask are read exactly where their bits stand.
-- Field by field, by the laws of the parsers that they are made of.
use Prim.Native.Nat.{ℕ, ◌<◌, ◌≤◌, ◌^◌}
use native.Mathlib.Omega.{arith}
use mathlib.Core.Bool.{◌&&◌}
use mathlib.Core.List.{[], ◌++◌}
use mathlib.Core.Path.{◌≡◌, refl, ap₂}
use lib.Dec.{eqb, leb, ltb}
use lib.ListN.{length}
use borrow.Author.Tests.{ltb-true, lt-ltb, leb-true, le-leb, eqb-true, eq-eqb}
use Rattle.bits.specs.Bits.{bits}
use Rattle.lists.specs.Lists.{Every}
use Rattle.lists.proofs.Tests.{and_left, and_right}
use Rattle.refusal.specs.declared.Refusal.TheVariants as refusal
use Rattle.mt1.specs.Mt1.{header, system, known, counted, mask}
use Rattle.mt1.specs.Encode.{header_bits, system_bits, mask_bits}
use Rattle.mt1.specs.Valid.{HeaderOk, SystemOk, MaskOk}
use Rattle.mt1.proofs.Combinators.{Reads, then, last, reads_ok, raw-reads, field-reads, tested}
use Rattle.mt1.proofs.Several.{systems-reads}

pub header-reads : Reads header HeaderOk header_bits
unfolding header header_bits
header-reads = reads_ok
    (λ h o. record { time = o.0; flags = o.1.0; reserved = o.1.1.0; mask_id = o.1.1.1.0; iod_set = o.1.1.1.1.0 })
    (λ h o. (o.time, (o.flags, (o.reserved, (o.mask_id, (o.iod_set, refl))))))
    (then (λ h. h.time) (λ a h o. cc) (tested 12 (λ v. ltb v 3600) refusal.Toh (λ v. ltb-true v 3600) (λ v o. (omega arith, lt-ltb v 3600 o))) λ time _.
    then (λ h. h.flags) (λ a h o. cc) (raw-reads 6) λ flags _.
    then (λ h. h.reserved) (λ a h o. cc) (field-reads 4) λ reserved _.
    then (λ h. h.mask_id) (λ a h o. cc) (field-reads 5) λ mask_id _.
    last (λ h. h.iod_set) (λ a. refl) (field-reads 5))

-- a system behind its GNSS ID
pub system-reads : (id : ℕ)
    → Reads (system id) (λ s. (s.id ≡ id) × SystemOk s) (λ s. s.satellites ++ (s.signals ++ (bits 1 s.cell_flag ++ (s.cells ++ bits 3 s.navigation))))
unfolding system
system-reads id = reads_ok
    (λ s o. ((cc), record { satellites = o.0; signals = o.1.0; cell_flag = o.1.1.0; cells = o.1.1.1.0; navigation = o.1.1.1.1.0 }))
    (λ s o. (o.1.satellites, (o.1.signals, (o.1.cell_flag, (o.1.cells, (o.1.navigation, rw (← o.0)))))))
    (then (λ s. s.satellites) (λ a s o. cc) (raw-reads 40) λ satellites _.
    then (λ s. s.signals) (λ a s o. cc) (raw-reads 16) λ signals _.
    then (λ s. s.cell_flag) (λ a s o. cc) (field-reads 1) λ cell_flag _.
    then (λ s. s.cells) (λ a s o. cc) (raw-reads _) λ cells _.
    last (λ s. s.navigation) (λ a. refl) (tested 3 (λ v. eqb v 0) refusal.NavMsg (λ v. eqb-true v 0) (λ v o. (omega arith, eq-eqb v 0 o))))

pub counted-reads : (most : ℕ) → most < 2 ^ 4 → Reads (counted most) (λ n. (1 ≤ n) × (n ≤ most)) (bits 4)
unfolding counted
counted-reads most h = tested 4 (λ n. leb 1 n && leb n most) refusal.Count
    (λ n e. (leb-true 1 n (and_left (leb 1 n) (leb n most) e), leb-true n most (and_right (leb 1 n) (leb n most) e)))
    (λ n o. (omega (arith, o.1), ap₂ ◌&&◌ (le-leb 1 n o.0) (le-leb n most o.1)))

pub known_small : Every (λ i. i < 2 ^ 4) known
known_small = (omega arith, (omega arith, tt))

pub mask-reads : Reads mask MaskOk mask_bits
unfolding mask mask_bits system_bits
mask-reads = reads_ok
    (λ m o. record { some = o.0.0; few = o.0.1; ids = o.1.0.1; systems = o.1.0.2; reserved = o.1.1.0 })
    (λ m o. ((o.some, o.few), ((refl, o.ids, o.systems), (o.reserved, refl))))
    (then (λ m. length m.systems) (λ n m o. o.0.0) (counted-reads 2 (omega arith)) λ n _.
    then (λ m. m.systems) (λ a m o. cc) (systems-reads known (λ s. s.id) [] n known_small system-reads) λ ss _.
    last (λ m. m.reserved) (λ a. refl) (field-reads 6))
