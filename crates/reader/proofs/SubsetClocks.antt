-- Where a subset clock stands, and the subset's multiplier.
-- A system's part has the multiplier, a bit for each satellite and a clock for each that is chosen: before it are as many as are chosen before it.
use Prim.Native.Nat.{ℕ, ◌+◌, ◌*◌, ◌^◌, ◌<◌}
use native.Mathlib.Omega.{arith}
use mathlib.Core.Bool.{Bool, true, false}
use mathlib.Core.List.{List, ◌++◌}
use mathlib.Core.Option.{Option, none, some}
use mathlib.Core.Path.{◌≡◌, refl, sym, ◌∙◌}
use lib.ListN.{length, get_or}
use Rattle.lists.proofs.Tests.{on_bool}
use Rattle.bits.specs.Bits.{bits}
use Rattle.bits.proofs.Values.{length-bits}
use Rattle.mt1.specs.Message.{Subset, count_before}
use Rattle.mt1.specs.Encode.{each}
use Rattle.mt1.specs.Records.{part, subset_clock}
use Rattle.mt1.proofs.Spans.{Span, span-split, span-each}
use Rattle.mt1.proofs.Elements.{at-is}
use Rattle.mt1.proofs.Counts.{before-lt}
use Rattle.std.specs.Prelude.{Some, None}
use Rattle.reader.specs.Steps.{Place, Stands, part_bits}
use Rattle.reader.specs.Recording.{Below, PartOk, SubsetFits, chosen_before}
use Rattle.reader.proofs.InMask.{at_every}
use Rattle.reader.proofs.RowValues.{Value, nowhere, stands-there, bit-read, first}

pub multiplier-here : (bs : List Bool) (place : Place) (k : ℕ) (o : Option Subset) → SubsetFits k o → Stands bs place part_bits o → Value bs place 2 (part (λ x. x.multiplier) o)
unfolding part_bits
multiplier-here bs place k o h s = (first bs (PartOk k) (λ x. x.multiplier) 2 (λ x p. p.multiplier) place (λ x. x.chosen ++ each (bits 13) x.clocks) o h s).0

pub clock-below : (k n : ℕ) (o : Option Subset) → SubsetFits k o → Below (2 ^ 13) (subset_clock o n)
unfolding subset_clock
clock-below k n none h = tt
clock-below k n (some s) h =
    on_bool (get_or s.chosen n false)
    (λ e. rw e (at_every (λ v. v < 2 ^ 13) s.clocks (count_before s.chosen n) h.clocks.1))
    (λ e. rw e tt)

-- the three ways of the code: no part, a satellite that is chosen, one that is not
pub no_part : (bs : List Bool) (n : ℕ) (o : Option Subset) → o ≡ none → Stands bs None (bits 13) (subset_clock o n)
unfolding subset_clock
no_part bs n o e = rw e

module _ (bs : List Bool) (place satellites n : ℕ) (h : n < satellites) where
  module _ (s : Subset) (k : PartOk satellites s) {end : ℕ} (t : Span bs place (part_bits s) end) where
    behind-two : Span bs (place + 2) (s.chosen ++ each (bits 13) s.clocks) end
    unfolding part_bits
    behind-two = rw (length-bits 2 s.multiplier) at (span-split (bits 2 s.multiplier) (s.chosen ++ each (bits 13) s.clocks) t).1

    is-chosen : get_or bs (place + 2 + n) false ≡ get_or s.chosen n false
    is-chosen = bit-read s.chosen n (omega (arith, k.chosen)) (span-split s.chosen (each (bits 13) s.clocks) behind-two).0

    clocks-span : Span bs (place + 2 + satellites) (each (bits 13) s.clocks) end
    clocks-span = rw k.chosen at (span-split s.chosen (each (bits 13) s.clocks) behind-two).1

  pub chosen-clock : {part : Place} (o : Option Subset) (k : ℕ) → part ≡ Some place → get_or bs (place + 2 + n) false ≡ true
      → Stands bs part part_bits o → SubsetFits satellites o → k ≡ chosen_before o n → Stands bs (Some (place + 2 + satellites + 13 * k)) (bits 13) (subset_clock o n)
  unfolding subset_clock chosen_before
  chosen-clock none k d b s f e = absurd (nowhere (sym s ∙ d))
  chosen-clock (some x) k d b s f e =
      let t = stands-there part_bits x d s in
      let g : get_or x.chosen n false ≡ true = sym (is-chosen x f t.1) ∙ b in
      let i : k < length x.clocks = omega (arith, e, before-lt x.chosen n g, f.clocks.0) in
      rw (g, ← e, at-is 0 x.clocks k i) (place + 2 + satellites + 13 * k, refl, (_, span-each (bits 13) 0 x.clocks k (clocks-span x f t.1) (length-bits 13) i))

  pub other-clock : {part : Place} (o : Option Subset) → part ≡ Some place → get_or bs (place + 2 + n) false ≡ false → Stands bs part part_bits o → SubsetFits satellites o
      → Stands bs None (bits 13) (subset_clock o n)
  unfolding subset_clock
  other-clock none d b s f = refl
  other-clock (some x) d b s f =
      let t = stands-there part_bits x d s in
      let g : get_or x.chosen n false ≡ false = sym (is-chosen x f t.1) ∙ b in
      rw g
