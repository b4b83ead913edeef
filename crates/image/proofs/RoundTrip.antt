-- The octets of a head read back to the head, for every collector that our calls made.
-- Each number has the room that it needs: seconds are below 2^32, counts below 256, and each place has 32 numbers.
use mathlib.Core.Path.{◌≡◌, refl, sym, ap, ap₂, ◌∙◌}
use mathlib.Core.List.{List, [], ◌∷◌, ◌++◌, map, append_assoc, append-nil}
use Prim.Native.Nat.{ℕ, ◌+◌, ◌*◌, ◌/◌, ◌%◌, ◌≤◌, ◌<◌}
use native.Mathlib.Omega.{arith}
use lib.ListN.{length, take, drop, length-append, length-map}
use lib.Seq.{take_at, drop_at}
use Rattle.lists.specs.Lists.{Every}
use Rattle.collector.specs.declared.state.PlaceState.{PlaceState}
use Rattle.collector.specs.declared.state.PlaceState.TheVariants.{Free, Open, Done}
use Rattle.collector.specs.declared.state.Place.{Place as PlaceImage}
use Rattle.collector.specs.declared.state.Head.{Head}
use Rattle.collector.specs.Place.{Place, free, waiting, done, FirstIs}
use Rattle.collector.specs.Feed.{Collector}
use Rattle.collector.specs.Valid.{PlaceOk, Valid}
use Rattle.collector.specs.Image.{place_image, head_image}
use Rattle.collector.proofs.Places.{numbers-length}
use Rattle.collector.proofs.Images.{padded-length, store-whole}
use Rattle.image.specs.Octets.{word, state_octets, place_octets, places_octets, head_octets, image_of}
use Rattle.image.specs.Reading.{word_at, state_at, place_at, places_at, head_at}
use Rattle.image.proofs.Parts.{state-length, place-length}

-- ---- numbers that have room
abbrev Fits : PlaceState → Type 0
Fits Free = Unit {0}
Fits (Open k first count) = (first < 4294967296) × (count < 256)
Fits (Done k first) = first < 4294967296

record Fit (p : PlaceImage) : Type 0 where
  pub state : Fits p.state
  pub numbers : length p.numbers ≡ 32

-- ---- a word, a state, a place
word_read : (n : ℕ) (s : List ℕ) → n < 4294967296 → word_at (word n ++ s) ≡ n
unfolding word_at
word_read n s h =
    let top : n / 16777216 % 256 ≡ n / 16777216 = omega arith in
    let middle : n / 65536 % 256 + n / 16777216 * 256 ≡ n / 65536 = omega arith in
    let low : n / 256 % 256 + n / 65536 * 256 ≡ n / 256 = omega arith in
    omega (arith, top, middle, low)

state-read : (p : PlaceState) (s : List ℕ) → Fits p → state_at (state_octets p ++ s) ≡ p
unfolding state_at
state-read Free s h = refl
state-read (Open k first count) s h =
    let rest : count % 256 ≡ count = omega arith in
    ap₂ (Open k) (word_read first (count % 256 ∷ s) h.0) rest
state-read (Done k first) s h = ap (Done k) (word_read first (0 ∷ s) h)

module _ (p : PlaceImage) (s : List ℕ) (fit : Fit p) where
  place_read : place_at (place_octets p ++ s) ≡ p
  unfolding place_octets
  place_read =
      ap place_at (append_assoc (state_octets p.state) p.numbers s)
      ∙ ap₂ (λ (q : PlaceState) (n : List ℕ). record { state = q; numbers = n }) (state-read p.state (p.numbers ++ s) fit.state) numbers
    where
      numbers : take 32 (drop 9 (state_octets p.state ++ (p.numbers ++ s))) ≡ p.numbers
      numbers = ap (take 32) (drop_at (state_octets p.state) (p.numbers ++ s) 9 (state-length p.state)) ∙ take_at p.numbers s 32 fit.numbers

  behind : drop 41 (place_octets p ++ s) ≡ s
  behind = drop_at (place_octets p) s 41 (place-length p fit.numbers)

-- ---- places and a head
places-read : (ps : List PlaceImage) (s : List ℕ) → Every Fit ps → places_at (length ps) (places_octets ps ++ s) ≡ ps
unfolding places_at places_octets
places-read [] s f = refl
places-read (p ∷ ps) s f =
    let turn = append_assoc (place_octets p) (places_octets ps) s in
    ap₂ (λ (q : PlaceImage) (qs : List PlaceImage). q ∷ qs)
    (ap place_at turn ∙ place_read p (places_octets ps ++ s) f.0)
    (ap (λ (l : List ℕ). places_at (length ps) (drop 41 l)) turn ∙ ap (places_at (length ps)) (behind p (places_octets ps ++ s) f.0) ∙ places-read ps s f.1)

places-many : (ps : List PlaceImage) → Every Fit ps → length (places_octets ps) ≡ 41 * length ps
unfolding places_octets
places-many [] f = refl
places-many (p ∷ ps) f = length-append (place_octets p) (places_octets ps) ∙ omega (arith, places-many ps f.1, place-length p f.0.numbers)

module _ (h : Head) (eight : length h.places ≡ 8) (fit : Every Fit h.places) where
  head_read : h.timeout < 4294967296 → h.last < 4294967296 → head_at (head_octets h) ≡ h
  unfolding head_octets
  head_read t l =
      rw (word_read h.timeout (word h.last ++ places_octets h.places) t, word_read h.last (places_octets h.places) l, places) refl
    where
      places : places_at 8 (places_octets h.places) ≡ h.places
      places =
          ap (places_at 8) (sym (append-nil (places_octets h.places))) ∙ ap (λ (n : ℕ). places_at n (places_octets h.places ++ [])) (sym eight) ∙ places-read h.places [] fit

  head-long : length (head_octets h) ≡ 336
  unfolding head_octets
  head-long = omega (arith, places-many h.places fit, eight)

-- ---- a collector that our calls made
fit-place : (last : ℕ) (p : Place) → last ≤ 2477260799 → PlaceOk p → FirstIs (λ first. first ≤ last) p → Fit (place_image p)
fit-place last free h o f = record { state = tt; numbers = padded-length 32 [] (omega arith) }
fit-place last (waiting k first pages) h o f =
    let few = o.few in
    let most = o.key.few in
    record { state = (omega arith, omega arith); numbers = padded-length 32 _ (omega (arith, numbers-length pages)) }
fit-place last (done k first) h o f = record { state = omega arith; numbers = padded-length 32 [] (omega arith) }

fit-places : (last : ℕ) (ps : List Place) → last ≤ 2477260799 → Every PlaceOk ps → Every (FirstIs (λ first. first ≤ last)) ps → Every Fit (map place_image ps)
fit-places last [] h o f = tt
fit-places last (p ∷ ps) h o f = (fit-place last p h o.0 f.0, fit-places last ps h o.1 f.1)

module _ (c : Collector) (v : Valid c) where
  fit : Every Fit (head_image c).places
  fit = fit-places c.last c.places v.range v.each v.past

  eight : length (head_image c).places ≡ 8
  eight = length-map c.places place_image ∙ v.eight

  pub round_trip : head_at (head_octets (head_image c)) ≡ head_image c
  round_trip = head_read (head_image c) eight fit (omega (arith, v.most)) (omega (arith, v.range))

  pub long-image : (length (image_of c).head ≡ 336) × (length (image_of c).store ≡ 13568)
  long-image = (head-long (head_image c) eight fit, store-whole c.places v.eight v.each)
