-- Octets laid one behind another, and the place that octets are read at.
-- What is laid where the last ended is laid with it at once.
use mathlib.Core.Path.{◌≡◌, ap, ◌∙◌}
use mathlib.Core.List.{List, [], ◌∷◌, ◌++◌}
use Prim.Native.Nat.{ℕ, ◌+◌, ◌≤◌, ◌<◌}
use native.Mathlib.Omega.{arith}
use lib.ListN.{length, set}
use Rattle.lists.specs.Lists.{laid}
use Rattle.lists.proofs.Laid.{laid_one, laid-laid, laid-length}

-- a list laid behind another
pub laid_on : (d : List ℕ) (at n : ℕ) (l m : List ℕ) → n ≡ at + length l → n + length m ≤ length d → laid (laid d at l) n m ≡ laid d at (l ++ m)
laid_on d at n l m e h = ap (λ (k : ℕ). laid (laid d at l) k m) e ∙ laid-laid d at l m (omega arith)

-- one octet behind it
pub set_on : (d : List ℕ) (at n : ℕ) (l : List ℕ) (x : ℕ) → n ≡ at + length l → n < length d → set (laid d at l) n x ≡ laid d at (l ++ (x ∷ []))
set_on d at n l x e h = laid_one (laid d at l) n x (omega (arith, laid-length d at l (omega arith))) ∙ laid_on d at n l (x ∷ []) e (omega arith)
