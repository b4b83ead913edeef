-- A loop that walks a list from the front tests what is left of it.
-- The list from a place on is the element there and the list behind it.
use mathlib.Core.Path.{◌≡◌, sym, ap, ◌∙◌}
use mathlib.Core.List.{List, ◌∷◌}
use Prim.Native.Nat.{ℕ, ◌+◌, ◌<◌}
use native.Mathlib.Numerals.{add-one}
use lib.ListN.{length, get_or, drop}
use lib.Seq.{drop-cons}

pub front : (l : List ℕ) (i : ℕ) → i < length l → drop i l ≡ get_or l i 0 ∷ drop (i + 1) l
front l i h = drop-cons l i 0 h ∙ ap (λ (n : ℕ). get_or l i 0 ∷ drop n l) (sym (add-one i))
