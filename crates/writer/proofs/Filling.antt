-- Bits in turn: how many there are, and what one more is.
-- By induction on their number; two bits in turn are followed by the same bit again.
use Prim.Native.Nat.{ℕ, zero, suc, ◌+◌, ◌%◌}
use native.Mathlib.Omega.{arith}
use mathlib.Core.Bool.{Bool, true, false, not}
use mathlib.Core.List.{List, ◌∷◌, ◌++◌}
use mathlib.Core.Path.{◌≡◌, refl, ap}
use lib.ListN.{length}
use Rattle.bits.specs.Bits.{bits}
use Rattle.writer.specs.Writer.{turns}

pub length-turns : (b : Bool) (n : ℕ) → length (turns b n) ≡ n
unfolding turns
length-turns b zero = refl
length-turns b (suc n) = ap suc (length-turns (not b) n)

pub turns_next : (k : ℕ) → turns false (k + 1) ≡ turns false k ++ bits 1 (k % 2)
unfolding turns bits
turns_next zero = refl
turns_next (suc zero) = refl
turns_next (suc (suc k)) =
    let e : suc (suc k) % 2 ≡ k % 2 = omega arith in
    let f : suc (suc k) + 1 ≡ suc (suc (k + 1)) = omega arith in
    rw (e, f) (ap (λ (l : List Bool). false ∷ (true ∷ l)) (turns_next k))
