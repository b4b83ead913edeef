-- A record's two octets mean what the field meant that was read: "not available" and "do not use" are kept as read.
-- The upper half of the field's values goes to the upper end of the sixteen bits, as far below 65536 as it was below the field's own.
use mathlib.Core.Path.{◌≡◌, refl, ap, subst}
use Prim.Native.Nat.{ℕ, suc, ◌+◌, ◌*◌, ◌-◌, ◌≤◌, ◌<◌}
use native.Mathlib.Omega.{arith}
use native.Mathlib.Decide.{dec_lt}
use lib.IntN.{pos, negsuc}
use borrow.Author.Tests.{lt-ltb, le-ltb}
use Rattle.mt1.specs.Records.{widened}
use Rattle.mt1.specs.Signed.{signed}

-- the lower half is kept, the upper goes up
pub widened-low : (half v : ℕ) → v < half → v ≡ widened half v
unfolding widened
widened-low half v h = rw (lt-ltb v half h)

pub widened-high : (half v : ℕ) → half ≤ v → v + (65536 - 2 * half) ≡ widened half v
unfolding widened
widened-high half v h = rw (le-ltb v half h)

pub widened-cases : (P : ℕ → Type 0) (half v : ℕ) → (v < half → P v) → (half ≤ v → P (v + (65536 - 2 * half))) → P (widened half v)
widened-cases P half v f g = go (dec_lt v half)
  where
    go : Dec (v < half) → P (widened half v)
    go (yes a) = subst P (widened-low half v a) (f a)
    go (no a) = let h : half ≤ v = omega arith in subst P (widened-high half v h) (g h)

pub signed-widened : (half v : ℕ) → half ≤ 32768 → v < 2 * half → signed 32768 (widened half v) ≡ signed half v
unfolding signed
signed-widened half v h l = widened-cases (λ (w : ℕ). signed 32768 w ≡ signed half v) half v
    (λ a. simp (lt-ltb v half a, lt-ltb v 32768 (omega arith)))
    (λ a.
    let e : 65536 - suc (v + (65536 - 2 * half)) ≡ 2 * half - suc v = omega arith in
    simp (le-ltb v half a, le-ltb (v + (65536 - 2 * half)) 32768 (omega arith), lt-ltb (v + (65536 - 2 * half)) 65536 (omega arith), lt-ltb v (2 * half) l) (ap negsuc e))

-- "Reading the 13-bit 4096 as positive" is a slip: it is -4096, not available; and 4095, do not use, is 4095
pub least-clock : signed 4096 4096 ≡ negsuc 4095
unfolding signed
least-clock = refl

pub most-clock : signed 4096 4095 ≡ pos 4095
unfolding signed
most-clock = refl
