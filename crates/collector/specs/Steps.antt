-- What the steps of the code do, on what the code holds: for private contracts alone. No public contract and no theorem of demand 3 cites it.
-- Leans on the images.
use Rattle.std.specs.Prelude.{ℕ, ◌<◌, Bool, true, false, ◌&&◌, ◌≡◌, List, [], ◌∷◌, ◌++◌, map, eqb, length, get_or, set, Result, Ok, Err}
use Rattle.collector.specs.declared.state.Key.{Key as KeyImage}
use Rattle.collector.specs.declared.state.PlaceState.{PlaceState}
use Rattle.collector.specs.declared.state.PlaceState.TheVariants.{Free, Open, Done}
use Rattle.collector.specs.declared.state.Place.{Place as PlaceImage}
use Rattle.collector.specs.declared.state.Head.{Head}
use Rattle.collector.specs.declared.state.Fed.{Fed}
use Rattle.collector.specs.declared.header.Judged.{Judged as JudgedImage}
use Rattle.collector.specs.declared.header.Judged.TheVariants.{Stop, Hold as HoldPage}
use Rattle.collector.specs.declared.keeping.Waiting.{Waiting}
use Rattle.refusal.specs.declared.Refusal.{Refusal}
use Rattle.lists.specs.Lists.{Every}
use Rattle.collector.specs.Lists.{Nodup}
use Rattle.collector.specs.Place.{Key, Held, Place, free, waiting, over, expire, pages_in, numbers}
use Rattle.collector.specs.Feed.{Collector, Step, Settled, Judged, bad, stop, good, written, held_of}
use Rattle.collector.specs.Valid.{Valid, KeyOk, PageOk, PlaceOk}
use Rattle.collector.specs.Image.{padded, key_image, place_image, store_image, head_image, answer_image}

abbrev pub state_free : PlaceState → Bool
state_free Free = true
state_free (Open k first n) = false
state_free (Done k first) = false

abbrev pub same_key_image : KeyImage → KeyImage → Bool
same_key_image a b = eqb a.status b.status && (eqb a.number b.number && eqb a.size b.size)

abbrev pub state_has_key : KeyImage → PlaceState → Bool
state_has_key k Free = false
state_has_key k (Open j first n) = same_key_image k j
state_has_key k (Done j first) = same_key_image k j

abbrev pub state_over : ℕ → ℕ → PlaceState → Bool
state_over timeout t Free = false
state_over timeout t (Open k first n) = over timeout t first
state_over timeout t (Done k first) = over timeout t first

abbrev pub judged_image : Judged → Result JudgedImage Refusal
judged_image (bad r) = Err r
judged_image stop = Ok Stop
judged_image (good k p) = Ok (HoldPage (key_image k))

-- ---- places and a store that hold ps
pub record Hold (ps : List Place) (images : List PlaceImage) (octets : List ℕ) : Type 0 where
  pub eight : length ps ≡ 8
  pub each : Every PlaceOk ps
  pub places : images ≡ map place_image ps
  pub store : octets ≡ store_image ps

abbrev pub Holding : List PlaceImage → List ℕ → Type 0
Holding places store = (ps : List Place) × Hold ps places store

-- place i expired
abbrev pub expire_at : ℕ → ℕ → ℕ → List Place → List Place
expire_at timeout t i ps = set ps i (expire timeout t (get_or ps i free))

-- ---- a head and a store that hold c
pub record State (c : Collector) (image : Head) (octets : List ℕ) : Type 0 where
  pub valid : Valid c
  pub head : image ≡ head_image c
  pub store : octets ≡ store_image c.places

abbrev pub MadeOf : Head → List ℕ → Type 0
MadeOf head store = (c : Collector) × State c head store

-- a step, as the code takes it on head and store
pub record Does (s : Step) (before : List ℕ) (a : Result Fed Refusal) (image : Head) (octets after : List ℕ) : Type 0 where
  pub answer : a ≡ answer_image s.answer
  pub head : image ≡ head_image s.after
  pub store : octets ≡ store_image s.after.places
  pub buffer : after ≡ written s.answer before

-- what is settled at place i
abbrev pub settled_at : Collector → ℕ → Settled → Step
settled_at c i s = record { answer = s.answer; after = record { timeout = c.timeout; last = c.last; places = set c.places i s.place } }

-- pages that can stand together in a place of key k
pub record Together (k : Key) (pages : List Held) : Type 0 where
  pub key : KeyOk k
  pub differ : Nodup (numbers pages)
  pub each : Every (PageOk k) pages

-- place i of c holds these pages of key k, which are those that the code holds, and one more page joins them
pub record Keeping (c : Collector) (k : Key) (pages : List Held) (image : Head) (octets : List ℕ) (i : ℕ) (w : Waiting) (page : List ℕ) : Type 0 where
  pub state : State c image octets
  pub at : i < 8
  pub held : pages_in (get_or c.places i free) ≡ pages
  pub key : w.key ≡ key_image k
  pub count : w.count ≡ length pages
  pub few : length pages < k.size
  pub numbers : w.numbers ≡ padded 32 (numbers pages)
  pub together : Together k (pages ++ (held_of page ∷ []))

-- all pages of the key have come: the store and the numbers hold them at place i, the head does not yet
pub record Finishing (c : Collector) (k : Key) (pages : List Held) (image : Head) (octets : List ℕ) (i : ℕ) (w : Waiting) : Type 0 where
  pub valid : Valid c
  pub head : image ≡ head_image c
  pub store : octets ≡ store_image (set c.places i (waiting k w.first pages))
  pub at : i < 8
  pub key : w.key ≡ key_image k
  pub all : length pages ≡ k.size
  pub numbers : w.numbers ≡ padded 32 (numbers pages)
  pub together : Together k pages
