-- A collector as octets, the same on every machine: a head of 336 octets, and a store of 13,568.
-- Leans on how the code holds a collector.
use Rattle.std.specs.Prelude.{ℕ, ◌/◌, ◌%◌, List, [], ◌∷◌, ◌++◌, replicate}
use Rattle.collector.specs.declared.state.PlaceState.{PlaceState}
use Rattle.collector.specs.declared.state.PlaceState.TheVariants.{Free, Open, Done}
use Rattle.collector.specs.declared.state.Place.{Place as PlaceImage}
use Rattle.collector.specs.declared.state.Head.{Head}
use Rattle.collector.specs.Feed.{Collector}
use Rattle.collector.specs.Image.{head_image, store_image}

-- a number in four octets, the highest first. A number without room is cut; of a collector that our calls made none is (proofs/RoundTrip).
abbrev pub word : ℕ → List ℕ
word n = (n / 16777216 % 256) ∷ (n / 65536 % 256) ∷ (n / 256 % 256) ∷ (n % 256) ∷ []

-- nine octets of a place's state: 0 free, 1 open, 2 done; status, number, size; the second of the first page; how many pages are held. What is not in use is 0.
abbrev pub state_octets : PlaceState → List ℕ
state_octets Free = replicate 9 0
state_octets (Open k first count) = 1 ∷ k.status ∷ k.number ∷ k.size ∷ (word first ++ (count % 256 ∷ []))
state_octets (Done k first) = 2 ∷ k.status ∷ k.number ∷ k.size ∷ (word first ++ (0 ∷ []))

-- a place: its state, and its 32 page numbers
unfoldable pub place_octets : PlaceImage → List ℕ
place_octets p = state_octets p.state ++ p.numbers

unfoldable pub places_octets : List PlaceImage → List ℕ
places_octets [] = []
places_octets (p ∷ ps) = place_octets p ++ places_octets ps

-- the time-out, the last second, the places
unfoldable pub head_octets : Head → List ℕ
head_octets h = word h.timeout ++ (word h.last ++ places_octets h.places)

pub record Image : Type 0 where
  pub head : List ℕ
  pub store : List ℕ

abbrev pub image_of : Collector → Image
image_of c = record { head = head_octets (head_image c); store = store_image c.places }
