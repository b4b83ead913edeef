-- Each join of two tests is their `or`, by cases of how it came; the flags are the header's bits, in its order.
use mathlib.Core.Bool.{false, ◌||◌}
use mathlib.Core.Path.{◌≡◌, refl, ◌∙◌}
use lib.ListN.{get_or}
use Rattle.bits.specs.Bits.{bits_of}
use Rattle.reader.proofs.Planning.{or-first, or-second, needs-mask}
use Rattle.reader.proofs.plan.needs_mask.Goals as goal
use Rattle.reader.proofs.plan.needs_mask.Goals.{then-bit_at, else-bit_at, then-bit_at-2, else-bit_at-2, then-bit_at-3, else-bit_at-3}
use Rattle.reader.proofs.plan.needs_mask.Goals.{Joined-bit_at, Joined-bit_at-2, Joined-bit_at-3, Start}

two : (c : Joined-bit_at) → c.if-bit_at.value ≡ (get_or (bits_of c.args.octets.now) 13 false || get_or (bits_of c.args.octets.now) 14 false)
two c =
    elim c.if-bit_at.branch [
      | then-bit_at w ↦ or-first (get_or (bits_of c.args.octets.now) 14 false) w.if-bit_at.true w.value-is c.bit_at.ensures
      | else-bit_at w ↦ or-second w.if-bit_at.false w.value-is c.bit_at.ensures w.bit_at-else-bit_at.ensures
    ]

three : (c : Joined-bit_at-2) → c.if-bit_at.value ≡ (get_or (bits_of c.args.octets.now) 13 false || get_or (bits_of c.args.octets.now) 14 false)
    → c.if-bit_at-2.value ≡ (get_or (bits_of c.args.octets.now) 13 false || get_or (bits_of c.args.octets.now) 14 false || get_or (bits_of c.args.octets.now) 15 false)
three c e =
    elim c.if-bit_at-2.branch [
      | then-bit_at-2 w ↦ or-first (get_or (bits_of c.args.octets.now) 15 false) w.if-bit_at-2.true w.value-is e
      | else-bit_at-2 w ↦ or-second w.if-bit_at-2.false w.value-is e w.bit_at-else-bit_at-2.ensures
    ]

four : (c : Joined-bit_at-3)
    → c.if-bit_at-2.value ≡ (get_or (bits_of c.args.octets.now) 13 false || get_or (bits_of c.args.octets.now) 14 false || get_or (bits_of c.args.octets.now) 15 false)
    → c.if-bit_at-3.value ≡ (get_or (bits_of c.args.octets.now) 13 false || get_or (bits_of c.args.octets.now) 14 false || get_or (bits_of c.args.octets.now) 15 false || get_or (bits_of c.args.octets.now) 16 false)
four c e =
    elim c.if-bit_at-3.branch [
      | then-bit_at-3 w ↦ or-first (get_or (bits_of c.args.octets.now) 16 false) w.if-bit_at-3.true w.value-is e
      | else-bit_at-3 w ↦ or-second w.if-bit_at-3.false w.value-is e w.bit_at-else-bit_at-3.ensures
    ]

pub returns-then-bit_at-4 : goal.returns-then-bit_at-4
returns-then-bit_at-4 c =
    let at = goal.at.returns-then-bit_at-4 c in
    let e = four at.Joined-bit_at-3 (three at.Joined-bit_at-2 (two at.Joined-bit_at)) in
    λ h q. or-first (get_or (bits_of c.args.octets.now) 17 false) c.if-bit_at-4.true refl e ∙ needs-mask h (bits_of c.args.octets.now) q

pub returns-else-bit_at-4 : goal.returns-else-bit_at-4
returns-else-bit_at-4 c =
    let at = goal.at.returns-else-bit_at-4 c in
    let e = four at.Joined-bit_at-3 (three at.Joined-bit_at-2 (two at.Joined-bit_at)) in
    λ h q. or-second c.if-bit_at-4.false refl e c.bit_at-else-bit_at-4.ensures ∙ needs-mask h (bits_of c.args.octets.now) q
