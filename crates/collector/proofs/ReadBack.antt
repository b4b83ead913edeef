-- The collector that a head and a store would be of, and that a valid collector is read back from its image.
-- The numbers say how many pages there are, and each page has 53 octets, so nothing is lost.
use mathlib.Core.List.{List, [], ◌∷◌, ◌++◌, map, append_assoc}
use mathlib.Core.Path.{◌≡◌, refl, sym, ap, ap₂, ◌∙◌}
use Prim.Native.Nat.{ℕ, suc, ◌+◌, ◌-◌, ◌*◌}
use native.Mathlib.Omega.{arith}
use lib.ListN.{length, take, drop, replicate}
use lib.Seq.{take-add, take_at, drop_at}
use Rattle.collector.specs.declared.state.Key.{Key as KeyImage}
use Rattle.collector.specs.declared.state.PlaceState.{PlaceState}
use Rattle.collector.specs.declared.state.PlaceState.TheVariants.{Free, Open, Done}
use Rattle.collector.specs.declared.state.Place.{Place as PlaceImage}
use Rattle.collector.specs.declared.state.Head.{Head}
use Rattle.collector.specs.declared.state.Collector.{Collector as CollectorImage}
use Rattle.lists.specs.Lists.{Every}
use Rattle.collector.specs.Place.{Key, Held, Place, free, waiting, done, numbers, contents}
use Rattle.collector.specs.Feed.{Collector}
use Rattle.collector.specs.Valid.{PlaceOk, Valid}
use Rattle.collector.specs.Image.{padded, place_image, store_image, head_image, collector_image}
use Rattle.collector.proofs.PageCode.{Long, long-pages}
use Rattle.collector.proofs.Images.{numbers-front, part, part_length, roomy-place}

-- pages of these numbers, whose contents stand one after another
abbrev pub pages_from : List ℕ → List ℕ → List Held
pages_from [] octets = []
pages_from (n ∷ ns) octets = record { number = n; content = take 53 octets } ∷ pages_from ns (drop 53 octets)

abbrev pub key_from : KeyImage → Key
key_from k = record { status = k.status; number = k.number; size = k.size }

abbrev pub state_from : PlaceState → List ℕ → List ℕ → Place
state_from Free ns octets = free
state_from (Open k first n) ns octets = waiting (key_from k) first (pages_from (take n ns) octets)
state_from (Done k first) ns octets = done (key_from k) first

abbrev pub places_from : List PlaceImage → List ℕ → List Place
places_from [] store = []
places_from (p ∷ ps) store = state_from p.state p.numbers (take 1696 store) ∷ places_from ps (drop 1696 store)

abbrev pub collector_of : Head → List ℕ → Collector
collector_of h store = record { timeout = h.timeout; last = h.last; places = places_from h.places store }

-- ---- the numbers and the contents of these pages
pub numbers-from : (ns octets : List ℕ) → numbers (pages_from ns octets) ≡ ns
numbers-from [] octets = refl
numbers-from (n ∷ ns) octets = ap (λ (r : List ℕ). n ∷ r) (numbers-from ns (drop 53 octets))

pub contents-from : (ns octets : List ℕ) → contents (pages_from ns octets) ≡ take (length ns * 53) octets
contents-from [] octets = refl
contents-from (n ∷ ns) octets =
    let on : 53 + length ns * 53 ≡ suc (length ns) * 53 = omega arith in
    ap (λ (r : List ℕ). take 53 octets ++ r) (contents-from ns (drop 53 octets)) ∙ sym (take-add 53 (length ns * 53) octets) ∙ ap (λ (k : ℕ). take k octets) on

-- ---- what was written is read back
back-pages : (pages : List Held) (z : List ℕ) → Every Long pages → pages_from (numbers pages) (contents pages ++ z) ≡ pages
back-pages [] z e = refl
back-pages (p ∷ ps) z e =
    ap (pages_from (p.number ∷ numbers ps)) (append_assoc p.content (contents ps) z)
    ∙ ap₂ (λ (c : List ℕ) (r : List Held). record { number = p.number; content = c } ∷ r) (take_at p.content (contents ps ++ z) 53 e.0)
    (ap (pages_from (numbers ps)) (drop_at p.content (contents ps ++ z) 53 e.0) ∙ back-pages ps z e.1)

back-place : (p : Place) → PlaceOk p → state_from (place_image p).state (place_image p).numbers (part p) ≡ p
unfolding padded
back-place free o = refl
back-place (waiting k first pages) o =
    ap (λ (ns : List ℕ). waiting k first (pages_from ns (padded 1696 (contents pages)))) (numbers-front 32 pages)
    ∙ ap (waiting k first) (back-pages pages (replicate (1696 - length (contents pages)) 0) (long-pages k pages o.each))
back-place (done k first) o = refl

back-places : (ps : List Place) → Every PlaceOk ps → places_from (map place_image ps) (store_image ps) ≡ ps
back-places [] o = refl
back-places (p ∷ ps) o =
    let long = part_length p (roomy-place p o.0) in
    ap₂ (λ (a b : List ℕ). state_from (place_image p).state (place_image p).numbers a ∷ places_from (map place_image ps) b)
    (take_at (part p) (store_image ps) 1696 long) (drop_at (part p) (store_image ps) 1696 long)
    ∙ ap₂ (λ (q : Place) (qs : List Place). q ∷ qs) (back-place p o.0) (back-places ps o.1)

back : (c : Collector) → Valid c → collector_of (head_image c) (store_image c.places) ≡ c
back c v = ap (λ (ps : List Place). record { timeout = c.timeout; last = c.last; places = ps }) (back-places c.places v.each)

-- an image is that of one valid collector
pub one-collector : (c d : Collector) → Valid c → Valid d → collector_image c ≡ collector_image d → c ≡ d
one-collector c d v w e = sym (back c v) ∙ ap (λ (i : CollectorImage). collector_of i.head i.store) e ∙ back d w
