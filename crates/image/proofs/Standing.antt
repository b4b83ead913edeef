-- What the code reads of a place is what stands in front of the octets from there on.
-- A part that is read to the end is those octets.
use mathlib.Core.Path.{◌≡◌, refl, ap, ◌∙◌}
use mathlib.Core.Bool.{true, false}
use mathlib.Core.List.{List}
use Prim.Native.Nat.{ℕ, zero, suc, ◌+◌, ◌-◌, ◌*◌, ◌<◌}
use native.Mathlib.Omega.{arith}
use lib.Dec.{eqb}
use lib.ListN.{length, get_or, take, drop, length-drop}
use lib.Seq.{drop-drop, take_all}
use Rattle.collector.specs.declared.state.Key.{Key}
use Rattle.collector.specs.declared.state.PlaceState.TheVariants.{Free, Open, Done}
use Rattle.collector.specs.declared.state.Place.{Place}
use Rattle.image.specs.Reading.{word_at, key_at, state_at, place_at, places_at}

-- a part that is read to the end is what is behind its place
pub behind : (n : ℕ) (s : List ℕ) → take (length s - n) (drop n s) ≡ drop n s
behind n s = take_all (length s - n) (drop n s) (omega (arith, length-drop n s))

pub behind-head : (n : ℕ) (s : List ℕ) → length s ≡ 336 → take (336 - n) (drop n s) ≡ drop n s
behind-head n s long = take_all (336 - n) (drop n s) (omega (arith, long, length-drop n s))

-- ---- the state, by its first octet
module _ (s : List ℕ) (k : Key) (first : ℕ) (is : k ≡ key_at s) (then : first ≡ word_at (take (length s - 4) (drop 4 s))) where
  pub open_at : eqb (get_or s 0 0) 1 ≡ true → Open k first (get_or s 8 0) ≡ state_at s
  unfolding state_at
  open_at e = rw (is, then, behind 4 s, e) refl

  pub done_at : eqb (get_or s 0 0) 1 ≡ false → eqb (get_or s 0 0) 2 ≡ true → Done k first ≡ state_at s
  unfolding state_at
  done_at e f = rw (is, then, behind 4 s, e, f) refl

pub free-at : (s : List ℕ) → eqb (get_or s 0 0) 1 ≡ false → eqb (get_or s 0 0) 2 ≡ false → Free ≡ state_at s
unfolding state_at
free-at s e f = rw (e, f) refl

-- ---- a place among places
pub place_at_lem : (n : ℕ) (s : List ℕ) (i : ℕ) (z : Place) → i < n → get_or (places_at n s) i z ≡ place_at (drop (41 * i) s)
unfolding places_at
place_at_lem zero s i z h = absurd (omega arith)
place_at_lem (suc n) s zero z h = refl
place_at_lem (suc n) s (suc i) z h =
    let far : 41 + 41 * i ≡ 41 * suc i = omega arith in
    place_at_lem n (drop 41 s) i z (omega arith) ∙ ap place_at (drop-drop (41 * i) 41 s ∙ ap (λ (k : ℕ). drop k s) far)

pub places-length : (n : ℕ) (s : List ℕ) → length (places_at n s) ≡ n
unfolding places_at
places-length zero s = refl
places-length (suc n) s = ap suc (places-length n (drop 41 s))
