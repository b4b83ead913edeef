-- A head as the code reads it of octets, whatever they are. Only private contracts cite this file.
-- Leans on the octets of a collector.
use Rattle.std.specs.Prelude.{ℕ, zero, suc, ◌+◌, ◌*◌, ◌≡◌, cond, List, [], ◌∷◌, eqb, get_or, take, drop}
use Rattle.collector.specs.declared.state.Key.{Key}
use Rattle.collector.specs.declared.state.PlaceState.{PlaceState}
use Rattle.collector.specs.declared.state.PlaceState.TheVariants.{Free, Open, Done}
use Rattle.collector.specs.declared.state.Place.{Place}
use Rattle.collector.specs.declared.state.Head.{Head}
use Rattle.collector.specs.Image.{Made}
use Rattle.image.specs.Octets.{head_octets, Image}

unfoldable pub word_at : List ℕ → ℕ
word_at s = get_or s 0 0 * 16777216 + get_or s 1 0 * 65536 + get_or s 2 0 * 256 + get_or s 3 0

abbrev pub key_at : List ℕ → Key
key_at s = record { status = get_or s 1 0; number = get_or s 2 0; size = get_or s 3 0 }

-- a state octet over 2 is read as free
unfoldable pub state_at : List ℕ → PlaceState
state_at s = cond (eqb (get_or s 0 0) 1) (Open (key_at s) (word_at (drop 4 s)) (get_or s 8 0)) (cond (eqb (get_or s 0 0) 2) (Done (key_at s) (word_at (drop 4 s))) Free)

abbrev pub place_at : List ℕ → Place
place_at s = record { state = state_at s; numbers = take 32 (drop 9 s) }

unfoldable pub places_at : ℕ → List ℕ → List Place
places_at zero s = []
places_at (suc n) s = place_at s ∷ places_at n (drop 41 s)

abbrev pub head_at : List ℕ → Head
head_at s = record { timeout = word_at s; last = word_at (drop 4 s); places = places_at 8 (drop 8 s) }

-- octets that are those of a head and of a store which our calls made
abbrev pub Holds : Head → Image → Type 0
Holds h i = (i.head ≡ head_octets h) × Made (record { head = h; store = i.store })
