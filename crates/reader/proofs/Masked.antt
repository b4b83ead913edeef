-- The bits of a system's mask, and of a part of the subset, where they stand.
-- A bit of bits that stand at a place is the bit of the string so much behind the place; a mask's parts have known lengths.
use Prim.Native.Nat.{ℕ, ◌+◌, ◌<◌}
use native.Mathlib.Omega.{arith}
use mathlib.Core.Bool.{Bool, true, false, cond}
use mathlib.Core.List.{List, ◌++◌}
use mathlib.Core.Option.{Option, none, some}
use mathlib.Core.Path.{◌≡◌, refl, sym, ap, ◌∙◌}
use lib.Dec.{eqb}
use lib.ListN.{length, get_or, replicate, get_or-replicate}
use Rattle.bits.specs.Bits.{num, bits}
use Rattle.bits.proofs.Values.{length-bits}
use Rattle.mt1.specs.Message.{System, Subset, count_before, cell_bits, cells_of}
use Rattle.mt1.proofs.Spans.{Span, span-split}
use Rattle.reader.specs.declared.mask.SystemPlan.{SystemPlan}
use Rattle.std.specs.Prelude.{Some, None}
use Rattle.reader.specs.Steps.{Place, Stands, body_bits, part_bits}
use Rattle.reader.specs.Recording.{SystemStands, SubsetFits, chosen_before}
use Rattle.reader.proofs.Fields.{before-next}
use Rattle.reader.proofs.RowValues.{nowhere, stands-there, bit-read}
use Rattle.reader.proofs.FixedFields.{split}

-- ---- of a system
module _ {bs : List Bool} {plan : SystemPlan} (s : System) (stands : SystemStands bs s plan) where
  signals-on : Span bs (plan.place + 40) (s.signals ++ (bits 1 s.cell_flag ++ (s.cells ++ bits 3 s.navigation))) stands.bits.0
  unfolding body_bits
  signals-on = (split s.satellites _ 40 stands.ok.satellites stands.bits.1).1

  pub satellite-bit : (i : ℕ) → i < 40 → get_or bs (plan.place + i) false ≡ get_or s.satellites i false
  unfolding body_bits
  satellite-bit i h = bit-read s.satellites i (omega (arith, stands.ok.satellites)) (span-split s.satellites _ stands.bits.1).0

  pub signal-bit : (g : ℕ) → g < 16 → get_or bs (plan.place + 40 + g) false ≡ get_or s.signals g false
  signal-bit g h = bit-read s.signals g (omega (arith, stands.ok.signals)) (span-split s.signals _ signals-on).0

  -- a cell: as the cell mask says, if there is one
  pub cell-bit : (k : ℕ) → plan.flag ≡ true → k < cell_bits s.satellites s.signals → get_or bs (plan.place + 57 + k) false ≡ get_or (cells_of s) k false
  unfolding cells_of
  cell-bit k e h =
      let f : eqb s.cell_flag 1 ≡ true = ap (λ (p : SystemPlan). p.flag) (sym stands.planned) ∙ e in
      let l : length s.cells ≡ cell_bits s.satellites s.signals = rw f at stands.ok.cells in
      let t = (split (bits 1 s.cell_flag) _ 1 (length-bits 1 s.cell_flag) (split s.signals _ 16 stands.ok.signals signals-on).1).1 in
      let place : plan.place + 57 + k ≡ plan.place + 40 + 16 + 1 + k = omega arith in
      ap (λ (n : ℕ). get_or bs n false) place
      ∙ bit-read s.cells k (omega (arith, l)) (span-split s.cells _ t).0
      ∙ ap (λ (b : Bool). get_or (cond b s.cells (replicate (cell_bits s.satellites s.signals) true)) k false) (sym f)

  pub cell-all : (k : ℕ) → plan.flag ≡ false → k < cell_bits s.satellites s.signals → true ≡ get_or (cells_of s) k false
  unfolding cells_of
  cell-all k e h =
      let f : eqb s.cell_flag 1 ≡ false = ap (λ (p : SystemPlan). p.flag) (sym stands.planned) ∙ e in
      sym (get_or-replicate (cell_bits s.satellites s.signals) k true false h)
      ∙ ap (λ (b : Bool). get_or (cond b s.cells (replicate (cell_bits s.satellites s.signals) true)) k false) (sym f)

-- ---- of a part of the subset: one satellite on, it has its bit more
pub chosen_none : (bs : List Bool) (n satellites : ℕ) (s : Option Subset) → Stands bs None part_bits s → SubsetFits satellites s → n < satellites
    → chosen_before s n + 0 ≡ chosen_before s (n + 1)
unfolding chosen_before
chosen_none bs n satellites none st o h = refl
chosen_none bs n satellites (some s) st o h = absurd (nowhere st.1)

pub chosen-next : (bs : List Bool) (place : Place) (part n satellites : ℕ) (s : Option Subset) (b : Bool) → place ≡ Some part → b ≡ get_or bs (part + 2 + n) false
    → Stands bs place part_bits s → SubsetFits satellites s → n < satellites → chosen_before s n + num b ≡ chosen_before s (n + 1)
unfolding chosen_before part_bits
chosen-next bs place part n satellites none b p e st o h = absurd (nowhere (sym st ∙ p))
chosen-next bs place part n satellites (some s) b p e st o h =
    let t = (split (bits 2 s.multiplier) _ 2 (length-bits 2 s.multiplier) (stands-there part_bits s p st).1).1 in
    ap (λ (x : Bool). count_before s.chosen n + num x) (e ∙ bit-read s.chosen n (omega (arith, o.chosen)) (span-split s.chosen _ t).0)
    ∙ sym (before-next s.chosen n)
