-- The test of a head and a store decides whether they are those of a collector that our calls made.
-- A test that passes holds of every place and of its part of the store, so the collector that is read back is valid and has this image; the image of a valid one passes.
use mathlib.Core.Bool.{Bool, true, false, not}
use mathlib.Core.List.{List, [], ◌∷◌, ◌++◌, map}
use mathlib.Core.Path.{◌≡◌, refl, sym, ap, ap₂, ◌∙◌}
use Prim.Native.Nat.{ℕ, ◌*◌, ◌≤◌}
use native.Mathlib.Omega.{arith}
use lib.Dec.{leb, eqb}
use lib.ListN.{length, take, drop, length-map, length-drop, take-append-drop}
use lib.Seq.{length-take-le, take_at, drop_at}
use borrow.Author.Tests.{leb-true, le-leb, eqb-true, eq-eqb, not-true}
use Rattle.pagecode.specs.Field.{Octets}
use Rattle.collector.specs.declared.state.Place.{Place as PlaceImage}
use Rattle.collector.specs.declared.state.Head.{Head}
use Rattle.collector.specs.declared.state.Collector.{Collector as CollectorImage}
use Rattle.lists.specs.Lists.{Every}
use Rattle.collector.specs.Place.{Key, Place, free, waiting, done, has_key, find, FirstIs}
use Rattle.collector.specs.Feed.{Collector, startable}
use Rattle.collector.specs.Valid.{PlaceOk, Apart, Valid}
use Rattle.collector.specs.Image.{key_image, place_image, store_image, head_image, collector_image, Made, Decides}
use Rattle.collector.specs.Checks.{is_place, are_places, are_eight, any_has, is_again, are_apart, is_made}
use Rattle.lists.proofs.Tests.{on_bool, clash, and_left, and_right}
use Rattle.collector.proofs.Places.{same_true, same_refl, absent}
use Rattle.collector.proofs.Keeps.{drop-octets}
use Rattle.collector.proofs.Images.{part, part_length, roomy-place, store-whole}
use Rattle.collector.proofs.Meeting.{key-image}
use Rattle.collector.proofs.Starts.{in-range}
use Rattle.collector.proofs.ReadBack.{places_from, collector_of}
use Rattle.collector.proofs.Checks.{take-octets, passes, place-passes}

-- ---- the keys of the places
find-any : (k : Key) (ps : List Place) → find k ps ≡ free → any_has (key_image k) (map place_image ps) ≡ false
find-any k [] e = refl
find-any k (p ∷ ps) e = let g = absent k p ps e in rw (key-image k p, g.0, find-any k ps g.1)

any-find : (k : Key) (ps : List Place) → any_has (key_image k) (map place_image ps) ≡ false → find k ps ≡ free
any-find k [] = λ e. refl
any-find k (p ∷ ps) = on_bool (has_key k p) (λ h. rw (key-image k p, h) (λ e. clash refl e)) (λ h. rw (key-image k p, h) (λ e. any-find k ps e))

again-key : (k : Key) (p : Place) (l : List PlaceImage) → has_key k p ≡ true → is_again (place_image p).state l ≡ any_has (key_image k) l
again-key k free l h = clash h refl
again-key k (waiting j first pages) l h = ap (λ (x : Key). any_has (key_image x) l) (sym (same_true k j h))
again-key k (done j first) l h = ap (λ (x : Key). any_has (key_image x) l) (sym (same_true k j h))

apart-sound : (ps : List Place) → are_apart (map place_image ps) ≡ true → Apart ps
apart-sound [] e = tt
apart-sound (p ∷ ps) e =
    let alone = and_left (not (is_again (place_image p).state (map place_image ps))) _ e in (
      (λ k h. any-find k ps (sym (again-key k p (map place_image ps) h) ∙ not-true _ alone)),
      apart-sound ps (and_right (not (is_again (place_image p).state (map place_image ps))) _ e),
    )

again-none : (p : Place) (ps : List Place) → ((k : Key) → has_key k p ≡ true → find k ps ≡ free) → is_again (place_image p).state (map place_image ps) ≡ false
again-none free ps a = refl
again-none (waiting k first pages) ps a = find-any k ps (a k (same_refl k))
again-none (done k first) ps a = find-any k ps (a k (same_refl k))

apart-complete : (ps : List Place) → Apart ps → are_apart (map place_image ps) ≡ true
apart-complete [] a = refl
apart-complete (p ∷ ps) a = rw (again-none p ps a.0, apart-complete ps a.1)

-- ---- the places and the store
record AllPass (last : ℕ) (ps : List PlaceImage) (store : List ℕ) : Type 0 where
  each : Every PlaceOk (places_from ps store)
  past : Every (FirstIs (λ first. first ≤ last)) (places_from ps store)
  places : ps ≡ map place_image (places_from ps store)
  whole : store ≡ store_image (places_from ps store)

places-sound : (last : ℕ) (ps : List PlaceImage) (store : List ℕ) → are_places last ps store ≡ true → length store ≡ length ps * 1696 → Octets store → AllPass last ps store
unfolding is_place
places-sound last [] [] e l o = record { each = tt; past = tt; places = refl; whole = refl }
places-sound last [] (x ∷ store) e l o = absurd (omega arith)
places-sound last (p ∷ ps) store e l o =
    let this = and_left (is_place last p (take 1696 store)) _ e in
    let long = eqb-true (length p.numbers) 32 (and_left (eqb (length p.numbers) 32) _ this) in
    let h = passes last p.numbers (take 1696 store) long (length-take-le 1696 store (omega arith)) p.state (and_right (eqb (length p.numbers) 32) _ this) (take-octets 1696 store o) in
    let t = places-sound last ps (drop 1696 store) (and_right (is_place last p (take 1696 store)) _ e) (omega (arith, length-drop 1696 store)) (drop-octets 1696 store o) in
    record {
      each = (h.ok, t.each);
      past = (h.past, t.past);
      places = ap₂ (λ (q : PlaceImage) (qs : List PlaceImage). q ∷ qs) h.image t.places;
      whole = sym (take-append-drop 1696 store) ∙ ap₂ (λ (a b : List ℕ). a ++ b) h.whole t.whole;
    }

places-complete : (last : ℕ) (ps : List Place) → Every PlaceOk ps → Every (FirstIs (λ first. first ≤ last)) ps → are_places last (map place_image ps) (store_image ps) ≡ true
places-complete last [] o h = refl
places-complete last (p ∷ ps) o h =
    let long = part_length p (roomy-place p o.0) in
    rw (
      take_at (part p) (store_image ps) 1696 long,
      drop_at (part p) (store_image ps) 1696 long,
      place-passes last p o.0 h.0,
      places-complete last ps o.1 h.1,
    )

-- ---- the whole
sound : (h : Head) (store : List ℕ) → is_made h store ≡ true → Octets store
    → Valid (collector_of h store) × (record { head = h; store = store } ≡ collector_image (collector_of h store))
unfolding are_eight
sound h store e o =
    let e₁ = and_right (eqb (length store) 13568) _ e in
    let e₂ = and_right (startable h.timeout) _ e₁ in
    let e₃ = and_right (leb h.last 2477260799) _ e₂ in
    let e₄ = and_right (are_apart h.places) _ e₃ in
    let range = in-range h.timeout (and_left (startable h.timeout) _ e₁) in
    let eight = eqb-true (length h.places) 8 (and_left (eqb (length h.places) 8) _ e₄) in
    let whole = eqb-true (length store) 13568 (and_left (eqb (length store) 13568) _ e) in
    let a = places-sound h.last h.places store (and_right (eqb (length h.places) 8) _ e₄) (omega (arith, eight, whole)) o in (
      record {
        least = range.0;
        most = range.1;
        range = leb-true h.last 2477260799 (and_left (leb h.last 2477260799) _ e₂);
        eight = sym (length-map (places_from h.places store) place_image) ∙ ap length (sym a.places) ∙ eight;
        apart = apart-sound (places_from h.places store) (ap are_apart (sym a.places) ∙ and_left (are_apart h.places) _ e₃);
        past = a.past;
        each = a.each;
      },
      ap₂ (λ (ps : List PlaceImage) (s : List ℕ). record { head = record { timeout = h.timeout; last = h.last; places = ps }; store = s }) a.places a.whole,
    )

complete : (c : Collector) → Valid c → is_made (head_image c) (store_image c.places) ≡ true
unfolding are_eight startable
complete c v =
    rw (
      eq-eqb (length (store_image c.places)) 13568 (store-whole c.places v.eight v.each),
      le-leb 1 c.timeout v.least,
      le-leb c.timeout 600 v.most,
      le-leb c.last 2477260799 v.range,
      apart-complete c.places v.apart,
      eq-eqb (length (map place_image c.places)) 8 (length-map c.places place_image ∙ v.eight),
      places-complete c.last c.places v.each v.past,
    )

-- what the test answers
pub refuted : (h : Head) (store : List ℕ) → is_made h store ≡ false → Made (record { head = h; store = store }) → ⊥
refuted h store e (c, v, i) = clash (ap (λ (x : CollectorImage). is_made x.head x.store) i ∙ complete c v) e

pub decided : (h : Head) (store : List ℕ) → Octets store → (b : Bool) → b ≡ is_made h store → Decides b (Made (record { head = h; store = store }))
decided h store o true e = let s = sound h store (sym e) o in (collector_of h store, s.0, s.1)
decided h store o false e = refuted h store (sym e)
