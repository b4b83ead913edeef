-- The 53 octets that belong to one page of a message, or to one row of right sides.
-- They are a part of the list, known by length and place.
use mathlib.Core.Path.{◌≡◌, ◌∙◌}
use mathlib.Core.List.{List}
use Prim.Native.Nat.{ℕ, ◌+◌, ◌*◌, ◌≤◌, ◌<◌}
use native.Mathlib.Omega.{arith}
use lib.ListN.{length, get_or, take, drop, length-take, length-drop}
use lib.Seq.{get_or-take, get_or-drop}

abbrev pub piece : List ℕ → ℕ → List ℕ
piece m i = take 53 (drop (i * 53) m)

pub piece-length : (m : List ℕ) (i : ℕ) → i * 53 + 53 ≤ length m → length (piece m i) ≡ 53
piece-length m i h = omega (arith, length-take 53 (drop (i * 53) m), length-drop (i * 53) m)

pub piece-get : (m : List ℕ) (i j : ℕ) → j < 53 → get_or (piece m i) j 0 ≡ get_or m (i * 53 + j) 0
piece-get m i j h = get_or-take 53 (drop (i * 53) m) j 0 h ∙ get_or-drop (i * 53) m j 0
