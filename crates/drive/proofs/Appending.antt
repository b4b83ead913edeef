-- The log grows: two octets are laid, and one piece behind another is both laid at once.
-- By the laws of `laid`.
use mathlib.Core.List.{List, [], ◌∷◌, ◌++◌}
use mathlib.Core.Path.{◌≡◌, refl, ap, ap₂, ◌∙◌}
use Prim.Native.Nat.{ℕ, ◌+◌, ◌≤◌}
use native.Mathlib.Omega.{arith}
use lib.ListN.{length, set, length-append, length-set}
use Rattle.lists.specs.Lists.{laid}
use Rattle.lists.proofs.Laid.{laid_one, laid-laid, laid-length}
use Rattle.drive.specs.Steps.{Appends}

-- what is lent keeps its length
pub appends-long : {d l m : List ℕ} {at end : ℕ} → at + length l ≤ length d → Appends d at l m end → length m ≡ length d
appends-long {d} {l} {at = at} room a = ap length a.log ∙ laid-length d at l room

-- the second piece is laid where the first one ends
pub appends-both : {d m n l k : List ℕ} {at end far : ℕ} → at + (length l + length k) ≤ length d → Appends d at l m end → Appends m end k n far → Appends d at (l ++ k) n far
appends-both {d} {l = l} {k = k} {at = at} room a b =
    record {
      log = b.log ∙ ap₂ (λ (x : List ℕ) (y : ℕ). laid x y k) a.log a.ends ∙ laid-laid d at l k room;
      ends = omega (arith, a.ends, b.ends, length-append l k);
    }

one-appends : (d : List ℕ) (at x : ℕ) → at + 1 ≤ length d → Appends d at (x ∷ []) (set d at x) (at + 1)
one-appends d at x room = record { log = laid_one d at x (omega (arith, room)); ends = refl }

pub pair-appends : (d : List ℕ) (at x y : ℕ) → at + 2 ≤ length d → Appends d at (x ∷ y ∷ []) (set (set d at x) (at + 1) y) (at + 2)
pair-appends d at x y room =
    let b = appends-both {l = x ∷ []} {k = y ∷ []} (omega (arith, room)) (one-appends d at x (omega (arith, room))) (one-appends (set d at x) (at + 1) y (omega (arith, room, length-set d at x))) in
    record { log = b.log; ends = refl }
