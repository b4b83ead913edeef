-- Where the bit is what it is to be, nothing is done; where it is not, its weight is added or taken away.
-- A bit weighs 2 ^ its place from the end, and at most seven places lose nothing of it.
use mathlib.Core.Bool.{Bool, true, false, not, beq}
use mathlib.Core.Path.{◌≡◌, refl, sym, ap, ◌∙◌}
use Prim.Native.Nat.{ℕ, ◌+◌, ◌*◌, ◌%◌, ◌^◌, ◌-◌, ◌≤◌, ◌<◌}
use native.Mathlib.Nat.{one-mul, mod-eq_of_lt}
use native.Mathlib.Omega.{arith}
use lib.ListN.{set}
use lib.Pow.{pow-lt}
use Rattle.bits.specs.Bits.{bits}
use Rattle.bits.proofs.Setting.{bit-same, bit_up, bit-down}
use Rattle.bits.proofs.with_bit.Goals as goal
use Rattle.bits.proofs.with_bit.Goals.{Then-b, Else-b}

same : (u b : Bool) → beq u b ≡ true → u ≡ b
same true true e = refl
same true false e = sym e
same false true e = e
same false false e = refl

other : (u b : Bool) → beq u b ≡ false → u ≡ not b
other true true e = e
other true false e = refl
other false true e = refl
other false false e = sym e

weight : (k : ℕ) → 1 * 2 ^ (7 - k) % 2 ^ 8 ≡ 2 ^ (7 - k)
weight k = let few : 7 - k < 8 = omega arith in rw one-mul (mod-eq_of_lt (pow-lt few))

pub returns-then-bit-b : goal.returns-then-bit-b
returns-then-bit-b c = bit-same c.args.x c.args.k c.ranges.x.fits c.requires c.args.b (sym c.bit.ensures ∙ same c.bit.result c.args.b c.if-bit-b.true)

up : (c : Then-b) → (c.args.x + 1 * 2 ^ (7 - c.args.k) % 2 ^ 8 < 256) × (bits 8 (c.args.x + 1 * 2 ^ (7 - c.args.k) % 2 ^ 8) ≡ set (bits 8 c.args.x) c.args.k true)
up c = bit_up c.args.x c.args.k c.ranges.x.fits c.requires _ (weight c.args.k) (sym c.bit.ensures ∙ other c.bit.result c.args.b c.if-bit-b.false ∙ ap not c.if-b.true)

down : (c : Else-b) → (1 * 2 ^ (7 - c.args.k) % 2 ^ 8 ≤ c.args.x) × (bits 8 (c.args.x - 1 * 2 ^ (7 - c.args.k) % 2 ^ 8) ≡ set (bits 8 c.args.x) c.args.k false)
down c = bit-down c.args.x c.args.k c.ranges.x.fits c.requires _ (weight c.args.k) (sym c.bit.ensures ∙ other c.bit.result c.args.b c.if-bit-b.false ∙ ap not c.if-b.false)

pub overflow_add-result : goal.overflow_add-result
overflow_add-result c = record { fits = (up c).0 }

pub overflow_sub-result : goal.overflow_sub-result
overflow_sub-result c = (down c).0

pub returns-then-b : goal.returns-then-b
returns-then-b c = (up c).1 ∙ ap (set (bits 8 c.args.x) c.args.k) (sym c.if-b.true)

pub returns-else-b : goal.returns-else-b
returns-else-b c = (down c).1 ∙ ap (set (bits 8 c.args.x) c.args.k) (sym c.if-b.false)
