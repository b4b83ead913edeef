-- A list to a part of which another is added, and what is behind it.
-- The part is what the sum's first places are.
use mathlib.Core.Path.{◌≡◌, refl, ap₂}
use mathlib.Core.List.{List, [], ◌∷◌, ◌++◌}
use Prim.Native.Nat.{ℕ, ◌≤◌}
use native.Mathlib.Omega.{arith}
use lib.ListN.{length, take, drop}
use Rattle.pagecode.specs.Code.{plus}
use Rattle.pagecode.proofs.Linear.{⊕-comm}

pub plus-front : (u w : List ℕ) → length u ≤ length w → plus (take (length u) w) u ++ drop (length u) w ≡ plus u w
unfolding plus
plus-front [] w h = refl
plus-front (x ∷ u) [] h = absurd (omega arith)
plus-front (x ∷ u) (y ∷ w) h = ap₂ (λ (a : ℕ) (l : List ℕ). a ∷ l) (⊕-comm y x) (plus-front u w (omega arith))
