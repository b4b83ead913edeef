-- How the code holds a collector: 01, The form for each place. A place's state is an enum in a struct beside its page numbers; the contents of its pages
-- stand in its 1,696 octets of one store. What is not in use is 0, so a collector has one image only.
-- Leans on the collector, and on the structs of the source.
use Rattle.std.specs.Prelude.{ℕ, ◌-◌, Bool, true, false, ◌≡◌, List, [], ◌∷◌, ◌++◌, map, length, replicate, Result, Ok, Err}
use Rattle.collector.specs.declared.state.Key.{Key as KeyImage}
use Rattle.collector.specs.declared.state.PlaceState.{PlaceState}
use Rattle.collector.specs.declared.state.PlaceState.TheVariants.{Free, Open, Done}
use Rattle.collector.specs.declared.state.Place.{Place as PlaceImage}
use Rattle.collector.specs.declared.state.Head.{Head}
use Rattle.collector.specs.declared.state.Collector.{Collector as CollectorImage}
use Rattle.collector.specs.declared.state.Fed.{Fed}
use Rattle.collector.specs.declared.state.Fed.TheVariants.{Kept, Ready}
use Rattle.refusal.specs.declared.Refusal.{Refusal}
use Rattle.collector.specs.Place.{Key, Place, free, waiting, done, pages_in, numbers, contents}
use Rattle.collector.specs.Feed.{Collector, Answer, kept, ready, refused, written, Call, Step, feed}
use Rattle.collector.specs.Valid.{Valid}

-- l, and zeros behind it up to n
unfoldable pub padded : ℕ → List ℕ → List ℕ
padded n l = l ++ replicate (n - length l) 0

abbrev pub key_image : Key → KeyImage
key_image k = record { status = k.status; number = k.number; size = k.size }

abbrev pub state_image : Place → PlaceState
state_image free = Free
state_image (waiting k first pages) = Open (key_image k) first (length pages)
state_image (done k first) = Done (key_image k) first

abbrev pub place_image : Place → PlaceImage
place_image p = record { state = state_image p; numbers = padded 32 (numbers (pages_in p)) }

-- each place's contents in its 1,696 octets
abbrev pub store_image : List Place → List ℕ
store_image [] = []
store_image (p ∷ ps) = padded 1696 (contents (pages_in p)) ++ store_image ps

abbrev pub head_image : Collector → Head
head_image c = record { timeout = c.timeout; last = c.last; places = map place_image c.places }

abbrev pub collector_image : Collector → CollectorImage
collector_image c = record { head = head_image c; store = store_image c.places }

-- a collector that our calls made
abbrev pub Made : CollectorImage → Type 0
Made image = (c : Collector) × Valid c × (image ≡ collector_image c)

-- the answer of a test whether P holds
abbrev pub Decides : Bool → Type 0 → Type 0
Decides true P = P
Decides false P = P → ⊥

-- the answer as the code gives it: the octets of READY are in the buffer
abbrev pub answer_image : Answer → Result Fed Refusal
answer_image (kept n) = Ok (Kept n)
answer_image (ready k octets) = Ok (Ready k)
answer_image (refused r) = Err r

-- a step, as `feed` takes it: its answer, the collector after it, and the buffer, which held `before` and then holds `after`
pub record Did (s : Step) (before : List ℕ) (a : Result Fed Refusal) (image : CollectorImage) (after : List ℕ) : Type 0 where
  pub answer : a ≡ answer_image s.answer
  pub collector : image ≡ collector_image s.after
  pub buffer : after ≡ written s.answer before

-- the contract of `feed`: of whatever collector is held, the step is a feed
pub record Feeds (held : CollectorImage) (call : Call) (before : List ℕ) (a : Result Fed Refusal) (image : CollectorImage) (after : List ℕ) : Type 0 where
  pub did : (c : Collector) → Valid c → held ≡ collector_image c → Did (feed c call) before a image after
  pub made : Made image
