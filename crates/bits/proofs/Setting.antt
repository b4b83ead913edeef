-- One bit of an octet made another.
-- A bit weighs 2 ^ its place from the end: that is what the octet grows or shrinks by where the bit changes.
use mathlib.Core.Path.{◌≡◌, sym, ap, ◌∙◌}
use mathlib.Core.Bool.{Bool, true, false}
use mathlib.Core.List.{List, [], ◌∷◌}
use Prim.Native.Nat.{ℕ, zero, suc, ◌+◌, ◌*◌, ◌/◌, ◌^◌, ◌-◌, ◌≤◌, ◌<◌}
use native.Mathlib.Nat.{mod-eq_of_lt}
use native.Mathlib.Omega.{arith}
use lib.ListN.{length, get_or, set, length-set}
use Rattle.bits.specs.Bits.{num, odd, bits, value}
use Rattle.bits.proofs.Values.{length-bits, bits_at, value-lt, value-bits, bits-value}

value_set : (bs : List Bool) (k : ℕ) (b d : Bool) → k < length bs
    → value (set bs k b) + num (get_or bs k d) * 2 ^ (length bs - 1 - k) ≡ value bs + num b * 2 ^ (length bs - 1 - k)
unfolding value
value_set [] k b d h = absurd (let z : ⊥ = omega arith in z)
value_set (c ∷ bs) zero b d h =
    let e : suc (length bs) - 1 - 0 ≡ length bs = omega arith in
    rw e (omega arith)
value_set (c ∷ bs) (suc k) b d h =
    let e : suc (length bs) - 1 - suc k ≡ length bs - 1 - k = omega arith in
    rw e (ap (λ (n : ℕ). num c * 2 ^ n + value (set bs k b) + num (get_or bs k d) * 2 ^ (length bs - 1 - k)) (length-set bs k b)
    ∙ omega (arith, value_set bs k b d (omega arith)))

-- ---- an octet
-- x with one of its eight bits, u, made w
module _ (x k : ℕ) (hx : x < 256) (hk : k < 8) where
  one_bit : (u w : Bool) → odd (x / 2 ^ (7 - k)) ≡ u → value (set (bits 8 x) k w) + num u * 2 ^ (7 - k) ≡ x + num w * 2 ^ (7 - k)
  one_bit u w e =
      let l = length-bits 8 x in
      let g : get_or (bits 8 x) k false ≡ u = bits_at 8 x k hk ∙ e in
      let v : value (bits 8 x) ≡ x = value-bits 8 x ∙ mod-eq_of_lt hx in
      rw (l, g, v) at (value_set (bits 8 x) k w false (omega arith))

  set-length : (w : Bool) → length (set (bits 8 x) k w) ≡ 8
  set-length w = length-set (bits 8 x) k w ∙ length-bits 8 x

  -- a number that is x with that bit made w has x's bits with that one set
  bits-set : (y : ℕ) (w : Bool) → value (set (bits 8 x) k w) ≡ y → bits 8 y ≡ set (bits 8 x) k w
  bits-set y w e = ap (bits 8) (sym e) ∙ bits-value 8 (set (bits 8 x) k w) (set-length w)

  set-lt : (w : Bool) → value (set (bits 8 x) k w) < 256
  set-lt w = rw (set-length w) at (value-lt (set (bits 8 x) k w))

  -- the octet that such a bit leaves: u is the bit that was, p its weight
  pub bit-same : (u : Bool) → odd (x / 2 ^ (7 - k)) ≡ u → bits 8 x ≡ set (bits 8 x) k u
  bit-same u e = bits-set x u (omega (arith, one_bit u u e))

  pub bit_up : (p : ℕ) → p ≡ 2 ^ (7 - k) → odd (x / 2 ^ (7 - k)) ≡ false → (x + p < 256) × (bits 8 (x + p) ≡ set (bits 8 x) k true)
  bit_up p ep e = (omega (arith, one_bit false true e, set-lt true), bits-set (x + p) true (omega (arith, one_bit false true e)))

  pub bit-down : (p : ℕ) → p ≡ 2 ^ (7 - k) → odd (x / 2 ^ (7 - k)) ≡ true → (p ≤ x) × (bits 8 (x - p) ≡ set (bits 8 x) k false)
  bit-down p ep e = (omega (arith, one_bit true false e), bits-set (x - p) false (omega (arith, one_bit true false e)))
