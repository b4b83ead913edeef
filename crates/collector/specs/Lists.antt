-- Lists as the collector speaks of them: no element twice, the different numbers of a list in order of arrival.
-- Leans on whether a number is in a list.
use Rattle.std.specs.Prelude.{ℕ, cond}
use mathlib.Core.List.{List, [], ◌∷◌, ◌++◌, Memᴰ}
use Rattle.lists.specs.Lists.{memb}

abbrev pub Nodup : {A : Type 0} → List A → Type 0
Nodup [] = Unit {0}
Nodup (x ∷ xs) = (Memᴰ x xs → ⊥) × Nodup xs

-- one number more, if it is new
unfoldable pub add : ℕ → List ℕ → List ℕ
add n s = cond (memb n s) s (s ++ (n ∷ []))

abbrev pub gather : List ℕ → List ℕ → List ℕ
gather s [] = s
gather s (n ∷ ns) = gather (add n s) ns

abbrev pub different : List ℕ → List ℕ
different ns = gather [] ns
