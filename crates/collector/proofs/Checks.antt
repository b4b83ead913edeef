-- The tests of keys, numbers and places: one that passes says that a place and its octets are the image of a place that is in order, and such an image passes.
-- Each test says what `PlaceOk` says of the place that is read; what is not in use is 0, so the place has this image.
use mathlib.Core.Bool.{Bool, true, false, ◌&&◌, ◌||◌, false≢true}
use mathlib.Core.List.Memᴰ
use mathlib.Core.List.{List, [], ◌∷◌, ◌++◌, append_assoc, append-nil, Memᴰ}
use mathlib.Core.Path.{◌≡◌, refl, sym, ap, ap₂, ◌∙◌, subst}
use Prim.Native.Nat.{ℕ, zero, suc, ◌-◌, ◌*◌, ◌≤◌, ◌<◌}
use native.Mathlib.Omega.{arith}
use lib.Dec.{leb, ltb, eqb}
use lib.ListN.{length, take, drop, replicate, length-drop, take-append-drop}
use lib.Seq.{length-take-le, drop-append_seam}
use borrow.Author.Tests.{leb-true, le-leb, ltb-true, lt-ltb, eqb-true, eq-eqb, not-true}
use Rattle.std.specs.List.{list_any}
use Rattle.pagecode.specs.Field.{Octets}
use Rattle.pagecode.specs.Page.{legal}
use Rattle.collector.specs.declared.state.Key.{Key as KeyImage}
use Rattle.collector.specs.declared.state.PlaceState.{PlaceState}
use Rattle.collector.specs.declared.state.PlaceState.TheVariants.{Free, Open, Done}
use Rattle.lists.specs.Lists.{Every}
use Rattle.collector.specs.Lists.{Nodup}
use Rattle.collector.specs.Place.{Key, Held, Place, free, waiting, done, pages_in, numbers, contents, FirstIs}
use Rattle.collector.specs.Valid.{KeyOk, PageOk, PlaceOk}
use Rattle.collector.specs.Image.{padded, key_image, place_image}
use Rattle.collector.specs.Checks.{noughts, is_key, is_new, are_numbers, is_rest, is_kept, is_open, is_state, is_place}
use Rattle.lists.proofs.Tests.{on_bool, clash, and_left, and_right}
use Rattle.collector.proofs.Lists.{nodup-snoc}
use Rattle.collector.proofs.Places.{numbers-length}
use Rattle.collector.proofs.Keeps.{drop-octets}
use Rattle.collector.proofs.PageCode.{contents-length, long-pages}
use Rattle.collector.proofs.Images.{padded-length, numbers-front, part}
use Rattle.collector.proofs.ReadBack.{pages_from, key_from, state_from, numbers-from, contents-from}

-- ---- zeros behind a list
noughts-zeros : (l : List ℕ) → noughts l ≡ true → l ≡ replicate (length l) 0
noughts-zeros [] e = refl
noughts-zeros (x ∷ xs) e = ap₂ (λ (y : ℕ) (ys : List ℕ). y ∷ ys) (eqb-true x 0 (and_left (eqb x 0) (noughts xs) e)) (noughts-zeros xs (and_right (eqb x 0) (noughts xs) e))

zeros-noughts : (n : ℕ) → noughts (replicate n 0) ≡ true
zeros-noughts zero = refl
zeros-noughts (suc n) = zeros-noughts n

rest-padded : (m n : ℕ) (l : List ℕ) → length l ≡ m → n ≤ m → noughts (drop n l) ≡ true → l ≡ padded m (take n l)
unfolding padded
rest-padded m n l e h z =
    let many : length (drop n l) ≡ m - length (take n l) = omega (arith, length-drop n l, length-take-le n l (omega arith)) in
    sym (take-append-drop n l) ∙ ap (λ (r : List ℕ). take n l ++ r) (noughts-zeros (drop n l) z ∙ ap (λ (k : ℕ). replicate k 0) many)

padded-rest : (m n : ℕ) (l : List ℕ) → length l ≡ n → noughts (drop n (padded m l)) ≡ true
unfolding padded
padded-rest m n l e =
    ap (λ (k : ℕ). noughts (drop k (padded m l))) (sym e) ∙ ap noughts (drop-append_seam l (replicate (m - length l) 0)) ∙ zeros-noughts (m - length l)

-- ---- the key
module _ (k : KeyImage) where
  key-ok : is_key k ≡ true → KeyOk (key_from k)
  key-ok e =
      let f = and_right (leb k.status 1) _ e in
      let g = and_right (leb k.number 31) _ f in
      record {
        status = leb-true _ _ (and_left (leb k.status 1) _ e);
        number = leb-true _ _ (and_left (leb k.number 31) _ f);
        some = leb-true _ _ (and_left (leb 1 k.size) _ g);
        few = leb-true _ _ (and_right (leb 1 k.size) _ g);
      }

  module _ (last first : ℕ) (e : is_kept last k first ≡ true) where
    pub kept-key : KeyOk (key_from k)
    kept-key = key-ok (and_left (is_key k) (leb first last) e)

    kept-first : first ≤ last
    kept-first = leb-true first last (and_right (is_key k) (leb first last) e)

ok-kept : (last : ℕ) (k : Key) (first : ℕ) → KeyOk k → first ≤ last → is_kept last (key_image k) first ≡ true
ok-kept last k first o h = rw (le-leb _ _ o.status, le-leb _ _ o.number, le-leb _ _ o.some, le-leb _ _ o.few, le-leb _ _ h)

-- ---- numbers
or_right : (a b : Bool) → (a || b) ≡ false → b ≡ false
or_right true b e = absurd (false≢true (sym e))
or_right false b e = e

new-absent : (n : ℕ) (l : List ℕ) → list_any (λ m. eqb m n) l ≡ false → Memᴰ n l → ⊥
new-absent n [] e m = Memᴰ.not-nil m
new-absent n (x ∷ xs) e (Memᴰ.head q) = clash (rw (eq-eqb x n (sym q)) refl) e
new-absent n (x ∷ xs) e (Memᴰ.tail m) = new-absent n xs (or_right (eqb x n) _ e) m

absent-new : (n : ℕ) (l : List ℕ) → (Memᴰ n l → ⊥) → list_any (λ m. eqb m n) l ≡ false
absent-new n [] a = refl
absent-new n (x ∷ xs) a = on_bool (eqb x n) (λ q. absurd (a (Memᴰ.head (sym (eqb-true x n q))))) (λ q. rw q (absent-new n xs (λ m. a (Memᴰ.tail m))))

nodup-apart : (xs : List ℕ) (a : ℕ) (ys : List ℕ) → Nodup (xs ++ (a ∷ ys)) → Memᴰ a xs → ⊥
nodup-apart [] a ys d x' = elim x' [ ]
nodup-apart (x ∷ xs) a ys d (Memᴰ.head e) = d.0 (Memᴰ.append_right xs (Memᴰ.head (sym e)))
nodup-apart (x ∷ xs) a ys d (Memᴰ.tail m) = nodup-apart xs a ys d.1 m

module _ (size : ℕ) where
  abbrev Legal : ℕ → Type 0
  Legal n = legal size n ≡ true

  numbers-sound : (before ns : List ℕ) → are_numbers size before ns ≡ true → Nodup before → Nodup (before ++ ns) × Every Legal ns
  numbers-sound before [] e d = (subst Nodup (sym (append-nil before)) d, tt)
  numbers-sound before (n ∷ ns) e d =
      let f = and_right (legal size n) _ e in
      let new = not-true _ (and_left (is_new n before) _ f) in
      let ih = numbers-sound (before ++ (n ∷ [])) ns (and_right (is_new n before) _ f) (nodup-snoc before n d (new-absent n before new)) in
      (subst Nodup (append_assoc before (n ∷ []) ns) ih.0, (and_left (legal size n) _ e, ih.1))

  numbers-complete : (before ns : List ℕ) → Nodup (before ++ ns) → Every Legal ns → are_numbers size before ns ≡ true
  numbers-complete before [] d h = refl
  numbers-complete before (n ∷ ns) d h =
      let ih = numbers-complete (before ++ (n ∷ [])) ns (subst Nodup (sym (append_assoc before (n ∷ []) ns)) d) h.1 in
      rw (h.0, absent-new n before (nodup-apart before n ns d), ih)

-- ---- pages
pub take-octets : (n : ℕ) (l : List ℕ) → Octets l → Octets (take n l)
take-octets zero l o i = omega arith
take-octets (suc n) [] o i = o i
take-octets (suc n) (x ∷ xs) o zero = o zero
take-octets (suc n) (x ∷ xs) o (suc i) = take-octets n xs (λ j. o (suc j)) i

pages-ok : (k : Key) (ns octets : List ℕ) → Every (Legal k.size) ns → Octets octets → length ns * 53 ≤ length octets → Every (PageOk k) (pages_from ns octets)
pages-ok k [] octets h o l = tt
pages-ok k (n ∷ ns) octets h o l = (
  record { legal-number = h.0; long = length-take-le 53 octets (omega arith); octets = take-octets 53 octets o },
  pages-ok k ns (drop 53 octets) h.1 (drop-octets 53 octets o) (omega (arith, length-drop 53 octets)),
)

legal-pages : (k : Key) (pages : List Held) → Every (PageOk k) pages → Every (Legal k.size) (numbers pages)
legal-pages k [] e = tt
legal-pages k (p ∷ ps) e = (e.0.legal-number, legal-pages k ps e.1)

-- ---- a place that passes
pub record Passes (last : ℕ) (s : PlaceState) (ns octets : List ℕ) : Type 0 where
  pub ok : PlaceOk (state_from s ns octets)
  pub past : FirstIs (λ first. first ≤ last) (state_from s ns octets)
  pub image : record { state = s; numbers = ns } ≡ place_image (state_from s ns octets)
  pub whole : octets ≡ part (state_from s ns octets)

module _ (last : ℕ) (ns octets : List ℕ) (long : length ns ≡ 32) (whole : length octets ≡ 1696) where
  rest-numbers : (n : ℕ) → n ≤ 32 → is_rest n ns octets ≡ true → ns ≡ padded 32 (take n ns)
  rest-numbers n h e = rest-padded 32 n ns long h (and_left (noughts (drop n ns)) _ e)

  rest-octets : (n : ℕ) → n ≤ 32 → is_rest n ns octets ≡ true → octets ≡ padded 1696 (take (n * 53) octets)
  rest-octets n h e = rest-padded 1696 (n * 53) octets whole (omega arith) (and_right (noughts (drop n ns)) _ e)

  module _ (k : KeyImage) (first n : ℕ) (e : is_open last k first n ns octets ≡ true) (o : Octets octets) where
    kept : is_kept last k first ≡ true
    kept = and_left (is_kept last k first) _ e

    counted : (leb 1 n && (ltb n k.size && (are_numbers k.size [] (take n ns) && is_rest n ns octets))) ≡ true
    counted = and_right (is_kept last k first) _ e

    fewer : (ltb n k.size && (are_numbers k.size [] (take n ns) && is_rest n ns octets)) ≡ true
    fewer = and_right (leb 1 n) _ counted

    few : n < k.size
    few = ltb-true n k.size (and_left (ltb n k.size) _ fewer)

    under : n < 32
    under = omega (arith, few, (kept-key k last first kept).few)

    numbered : (are_numbers k.size [] (take n ns) && is_rest n ns octets) ≡ true
    numbered = and_right (ltb n k.size) _ fewer

    rest : is_rest n ns octets ≡ true
    rest = and_right (are_numbers k.size [] (take n ns)) _ numbered

    apart : Nodup (take n ns) × Every (Legal k.size) (take n ns)
    apart = numbers-sound k.size [] (take n ns) (and_left (are_numbers k.size [] (take n ns)) _ numbered) tt

    count : length (take n ns) ≡ n
    count = length-take-le n ns (omega (arith, under))

    abbrev pages : List Held
    pages = pages_from (take n ns) octets

    many : length pages ≡ n
    many = sym (numbers-length pages) ∙ ap length (numbers-from (take n ns) octets) ∙ count

    open-passes : Passes last (Open k first n) ns octets
    open-passes =
        record {
          ok =
              record {
                key = kept-key k last first kept;
                some = omega (arith, many, leb-true 1 n (and_left (leb 1 n) _ counted));
                few = omega (arith, many, few);
                differ = subst Nodup (sym (numbers-from (take n ns) octets)) apart.0;
                each = pages-ok (key_from k) (take n ns) octets apart.1 o (omega (arith, count, under));
              };
          past = kept-first k last first kept;
          image =
              ap₂ (λ (m : ℕ) (l : List ℕ). record { state = Open k first m; numbers = l }) (sym many)
              (rest-numbers n (omega (arith, under)) rest ∙ ap (padded 32) (sym (numbers-from (take n ns) octets)));
          whole =
              rest-octets n (omega (arith, under)) rest
              ∙ ap (padded 1696) (ap (λ (m : ℕ). take (m * 53) octets) (sym count) ∙ sym (contents-from (take n ns) octets));
        }

  pub passes : (s : PlaceState) → is_state last s ns octets ≡ true → Octets octets → Passes last s ns octets
  passes Free e o =
      record {
        ok = tt;
        past = tt;
        image = ap (λ (l : List ℕ). record { state = Free; numbers = l }) (rest-numbers 0 (omega arith) e);
        whole = rest-octets 0 (omega arith) e;
      }
  passes (Open k first n) e o = open-passes k first n e o
  passes (Done k first) e o =
      let kept = and_left (is_kept last k first) _ e in
      let rest = and_right (is_kept last k first) _ e in
      record {
        ok = kept-key k last first kept;
        past = kept-first k last first kept;
        image = ap (λ (l : List ℕ). record { state = Done k first; numbers = l }) (rest-numbers 0 (omega arith) rest);
        whole = rest-octets 0 (omega arith) rest;
      }

-- ---- the image of a place passes
padded-passes : (n : ℕ) (pages : List Held) (k : Key) → length pages ≡ n → Every (PageOk k) pages → is_rest n (padded 32 (numbers pages)) (padded 1696 (contents pages)) ≡ true
padded-passes n pages k e h =
    rw (
      padded-rest 32 n (numbers pages) (numbers-length pages ∙ e),
      padded-rest 1696 (n * 53) (contents pages) (contents-length pages (long-pages k pages h) ∙ ap (λ (m : ℕ). m * 53) e),
    )

none_passes : is_rest 0 (padded 32 []) (padded 1696 []) ≡ true
none_passes = rw (padded-rest 32 0 [] refl, padded-rest 1696 0 [] refl)

state-passes : (last : ℕ) (p : Place) → PlaceOk p → FirstIs (λ first. first ≤ last) p → is_state last (place_image p).state (place_image p).numbers (part p) ≡ true
state-passes last free o h = none_passes
state-passes last (waiting k first pages) o h =
    let legal-numbers : are_numbers k.size [] (take (length pages) (padded 32 (numbers pages))) ≡ true =
    ap (are_numbers k.size []) (numbers-front 32 pages) ∙ numbers-complete k.size [] (numbers pages) o.differ (legal-pages k pages o.each) in
    rw (
      ok-kept last k first o.key h,
      le-leb 1 (length pages) o.some,
      lt-ltb (length pages) k.size o.few,
      legal-numbers,
      padded-passes (length pages) pages k refl o.each,
    )
state-passes last (done k first) o h = rw (ok-kept last k first o h, none_passes)

few-numbers : (p : Place) → PlaceOk p → length (numbers (pages_in p)) ≤ 32
few-numbers free o = omega arith
few-numbers (waiting k first pages) o = omega (arith, numbers-length pages, o.few, o.key.few)
few-numbers (done k first) o = omega arith

pub place-passes : (last : ℕ) (p : Place) → PlaceOk p → FirstIs (λ first. first ≤ last) p → is_place last (place_image p) (part p) ≡ true
unfolding is_place
place-passes last p o h =
    rw (eq-eqb (length (padded 32 (numbers (pages_in p)))) 32 (padded-length 32 (numbers (pages_in p)) (few-numbers p o)), state-passes last p o h)
