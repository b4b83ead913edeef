-- Where a page comes to: the first place that has its key, else the lowest free one; and what the code sees of that place.
-- An index found by a search is the one at which `find` reads and `replace` writes, and a place's image tells its case.
use mathlib.Core.Bool.{Bool, true, false, not, cond}
use mathlib.Core.List.Memᴰ
use mathlib.Core.List.{List, [], ◌∷◌, ◌++◌, map}
use mathlib.Core.Option.{none, some}
use mathlib.Core.Path.{◌≡◌, refl, sym, ap, ap₂, ◌∙◌, subst}
use Prim.Native.Nat.{ℕ, ◌+◌, ◌*◌, ◌≤◌, ◌<◌}
use native.Mathlib.Omega.{arith}
use lib.Dec.{eqb, ltb}
use lib.ListN.{length, get_or, set, take, drop, length-map}
use lib.Seq.{set-get_or}
use Rattle.std.specs.Prelude.{Result, Err, Some, None}
use Rattle.std.specs.List.{position, position_or_len}
use Rattle.refusal.specs.declared.Refusal.{Refusal}
use Rattle.refusal.specs.declared.Refusal.TheVariants.{Done, Repeat, Conflict, Full}
use Rattle.pagecode.specs.Field.{Octets}
use Rattle.collector.specs.declared.state.Key.{Key as KeyImage}
use Rattle.collector.specs.declared.state.PlaceState.TheVariants as state
use Rattle.collector.specs.declared.state.Place.{Place as PlaceImage}
use Rattle.collector.specs.declared.state.Head.{Head}
use Rattle.collector.specs.declared.state.Fed.{Fed}
use Rattle.collector.specs.Lists.{Nodup}
use Rattle.collector.specs.Place.{Key, Held, Place, free, waiting, done, same_key, has_key, is_free, find, any_free, replace, pages_in, lookup, numbers}
use Rattle.collector.specs.Feed.{Collector, Step, refused, Settled, key_of, held_of, judge, good, same_octets, grow, again, arrive, hold}
use Rattle.collector.specs.Valid.{KeyOk, PageOk, OpenOk, PlaceOk}
use Rattle.collector.specs.Image.{padded, key_image, state_image, place_image}
use Rattle.collector.specs.Steps.{state_free, state_has_key, State, Does, settled_at, Keeping}
use Rattle.lists.proofs.Tests.{on_bool}
use Rattle.collector.proofs.Lists.{nodup-snoc, every-snoc, map_get, every_get}
use Rattle.collector.proofs.Places.{same_true, keyed-free, is_free_lem, numbers-snoc, numbers-length}
use Rattle.collector.proofs.Keeps.{JudgedOk, judge-ok, absent-number, hold-full}
use Rattle.collector.proofs.PageCode.{long-pages}
use Rattle.collector.proofs.Headers.{page-is}
use Rattle.collector.proofs.Images.{padded-length, numbers-front, store-whole, store-page, roomy-places}
use Rattle.collector.proofs.Search.{first_index, at-some, at-none}

-- ---- the first element of which a test holds
module _ {A : Type 0} (is : A → Bool) where
  first-is : (l : List A) (z : A) → first_index is l < length l → is (get_or l (first_index is l) z) ≡ true
  first-is [] z = λ h. absurd (omega arith)
  first-is (x ∷ xs) z = on_bool (is x) (λ e. rw e (λ h. e)) (λ e. rw e (λ h. first-is xs z (omega arith)))

  found-is : (l : List A) (z : A) (i : ℕ) → Some i ≡ position is l → is (get_or l i z) ≡ true
  found-is l z i e =
      let (f, h) = at-some is l i e in
      ap (λ (n : ℕ). is (get_or l n z)) f ∙ first-is l z (omega arith)

  -- seen through an image on which another test says the same
  first-map : {B : Type 0} (f : A → B) (was : B → Bool) → ((a : A) → was (f a) ≡ is a) → (l : List A) → position_or_len was (map f l) ≡ position_or_len is l
  first-map f was s [] = refl
  first-map f was s (x ∷ xs) = ap₂ (λ (b : Bool) (n : ℕ). cond (not b) (1 + n) 0) (s x) (first-map f was s xs)

  position-map : {B : Type 0} (f : A → B) (was : B → Bool) → ((a : A) → was (f a) ≡ is a) → (l : List A) → position was (map f l) ≡ position is l
  position-map f was s l = ap₂ (λ (m k : ℕ). cond (ltb m k) (Some m) None) (first-map f was s l) (length-map l f)

-- ---- places: `find`, `replace` and `any_free` by the index
find_first : (k : Key) (ps : List Place) → find k ps ≡ get_or ps (first_index (has_key k) ps) free
find_first k [] = refl
find_first k (p ∷ ps) = on_bool (has_key k p) (λ e. rw e) (λ e. rw e (find_first k ps))

replace-first : (is : Place → Bool) (q : Place) (ps : List Place) → replace is q ps ≡ set ps (first_index is ps) q
replace-first is q [] = refl
replace-first is q (p ∷ ps) = on_bool (is p) (λ e. rw e) (λ e. rw e (ap (λ (l : List Place). p ∷ l) (replace-first is q ps)))

find_none : (k : Key) (ps : List Place) → first_index (has_key k) ps ≡ length ps → find k ps ≡ free
find_none k [] = λ h. refl
find_none k (p ∷ ps) = on_bool (has_key k p) (λ e. rw e (λ h. absurd (omega arith))) (λ e. rw e (λ h. find_none k ps (omega arith)))

any_none : (ps : List Place) → first_index is_free ps ≡ length ps → any_free ps ≡ false
any_none [] = λ h. refl
any_none (p ∷ ps) = on_bool (is_free p) (λ e. rw e (λ h. absurd (omega arith))) (λ e. rw e (λ h. any_none ps (omega arith)))

any_some : (ps : List Place) → first_index is_free ps < length ps → any_free ps ≡ true
any_some [] = λ h. absurd (omega arith)
any_some (p ∷ ps) = on_bool (is_free p) (λ e. rw e (λ h. refl)) (λ e. rw e (λ h. any_some ps (omega arith)))

-- ---- a number among pages
lookup-none : (n : ℕ) (pages : List Held) → first_index (eqb n) (numbers pages) ≡ length pages → lookup n pages ≡ none
lookup-none n [] = λ h. refl
lookup-none n (p ∷ ps) = on_bool (eqb n p.number) (λ e. rw e (λ h. absurd (omega arith))) (λ e. rw e (λ h. lookup-none n ps (omega arith)))

lookup-some : (n : ℕ) (pages : List Held) (z : Held) → first_index (eqb n) (numbers pages) < length pages → lookup n pages ≡ some (get_or pages (first_index (eqb n) (numbers pages)) z).content
lookup-some n [] z = λ h. absurd (omega arith)
lookup-some n (p ∷ ps) z = on_bool (eqb n p.number) (λ e. rw e (λ h. refl)) (λ e. rw e (λ h. lookup-some n ps z (omega arith)))

-- ---- `hold` by the index
pub met : (k : Key) (ps : List Place) (i : ℕ) → Some i ≡ position (has_key k) ps → has_key k (get_or ps i free) ≡ true
met k ps i e = found-is (has_key k) ps free i e

module _ (c : Collector) (t : ℕ) (k : Key) (p : Held) where
  pub hold-met : (i : ℕ) → Some i ≡ position (has_key k) c.places → hold c t k p ≡ settled_at c i (arrive (get_or c.places i free) k t p)
  unfolding hold
  hold-met i e =
      let at = at-some (has_key k) c.places i e in
      let f : find k c.places ≡ get_or c.places i free = find_first k c.places ∙ ap (λ (n : ℕ). get_or c.places n free) (sym at.0) in
      let s : is_free (get_or c.places i free) ≡ false = keyed-free k (get_or c.places i free) (met k c.places i e) in
      rw (f, s, replace-first (has_key k) (arrive (get_or c.places i free) k t p).place c.places, sym at.0)

  module _ (n : None ≡ position (has_key k) c.places) where
    pub hold-new : (i : ℕ) → Some i ≡ position is_free c.places → hold c t k p ≡ settled_at c i (grow k t (p ∷ []))
    unfolding hold arrive
    hold-new i e =
        let at = at-some is_free c.places i e in
        rw (find_none k c.places (at-none (has_key k) c.places n), any_some c.places (omega (arith, at.0, at.1)), replace-first is_free (grow k t (p ∷ [])).place c.places, sym at.0)

    pub hold-none : None ≡ position is_free c.places → hold c t k p ≡ record { answer = refused Full; after = c }
    hold-none m = hold-full c t k p (ap is_free (find_none k c.places (at-none (has_key k) c.places n))) (any_none c.places (at-none is_free c.places m))

-- ---- what the code sees of a place
pub key-image : (k : Key) (p : Place) → state_has_key (key_image k) (place_image p).state ≡ has_key k p
unfolding same_key
key-image k free = refl
key-image k (waiting j first pages) = refl
key-image k (done j first) = refl

free-image : (p : Place) → state_free (place_image p).state ≡ is_free p
free-image free = refl
free-image (waiting j first pages) = refl
free-image (done j first) = refl

-- what the code reads past the last place
abbrev pub beyond : PlaceImage
beyond = record { state = state.Free; numbers = [] }

-- a place whose image is done, or open
image-done : (p : Place) (j : KeyImage) (first : ℕ) → state_image p ≡ state.Done j first → (k : Key) × (p ≡ done k first)
image-done free j first e = let z : ◌≡◌ {A = ℕ} 0 1 = cc in absurd (omega arith)
image-done (waiting k f pages) j first e = let z : ◌≡◌ {A = ℕ} 0 1 = cc in absurd (omega arith)
image-done (done k f) j first e = (k, cc)

pub record Seen (p : Place) (j : KeyImage) (first n : ℕ) (ns : List ℕ) : Type 0 where
  pub of : Key
  pub pages : List Held
  pub place : p ≡ waiting of first pages
  pub key : j ≡ key_image of
  pub count : n ≡ length pages
  pub numbers : ns ≡ padded 32 (numbers pages)
  pub ok : OpenOk of pages

pub seen_few : {p : Place} {j : KeyImage} {first n : ℕ} {ns : List ℕ} → Seen p j first n ns → n < 32
seen_few w = omega (arith, w.count, w.ok.few, w.ok.key.few)

-- so many numbers are there
pub seen_there : {p : Place} {j : KeyImage} {first n : ℕ} {ns : List ℕ} → Seen p j first n ns → n ≤ length ns
seen_there w =
    let few = seen_few w in
    let many = numbers-length w.pages in
    omega (arith, few, ap length w.numbers ∙ padded-length 32 (numbers w.pages) (omega (arith, few, many, w.count)))

image-open : (p : Place) (j : KeyImage) (first n : ℕ) → PlaceOk p → state_image p ≡ state.Open j first n → Seen p j first n (padded 32 (numbers (pages_in p)))
image-open free j first n o e = let z : ◌≡◌ {A = ℕ} 0 1 = cc in absurd (omega arith)
image-open (waiting k f pages) j first n o e = record { of = k; pages = pages; place = cc; key = cc; count = cc; numbers = refl; ok = o }
image-open (done k f) j first n o e = let z : ◌≡◌ {A = ℕ} 0 1 = cc in absurd (omega arith)

-- ---- a head and a store that hold c
pub does_as : {x y : Step} {before : List ℕ} {a : Result Fed Refusal} {head : Head} {octets after : List ℕ} → x ≡ y → Does y before a head octets after → Does x before a head octets after
does_as {before} {a} {head} {octets} {after} e d = subst (λ (z : Step). Does z before a head octets after) (sym e) d

module _ {c : Collector} {head : Head} {octets : List ℕ} (s : State c head octets) where
  places-are : head.places ≡ map place_image c.places
  places-are = ap (λ (h : Head). h.places) s.head

  pub store_long : length octets ≡ 13568
  store_long = ap length s.store ∙ store-whole c.places s.valid.eight s.valid.each

  -- the searches of the code
  pub key-first : (j : KeyImage) (k : Key) → j ≡ key_image k → position (λ (p : PlaceImage). state_has_key j p.state) head.places ≡ position (has_key k) c.places
  key-first j k e =
      ap₂ (λ (x : KeyImage) (l : List PlaceImage). position (λ (p : PlaceImage). state_has_key x p.state) l) e places-are
      ∙ position-map (has_key k) place_image (λ (p : PlaceImage). state_has_key (key_image k) p.state) (key-image k) c.places

  pub free-first : position (λ (p : PlaceImage). state_free p.state) head.places ≡ position is_free c.places
  free-first =
      ap (position (λ (p : PlaceImage). state_free p.state)) places-are
      ∙ position-map is_free place_image (λ (p : PlaceImage). state_free p.state) free-image c.places

  -- place i
  module _ (i : ℕ) (h : i < 8) where
    at : get_or head.places i beyond ≡ place_image (get_or c.places i free)
    at = ap (λ (l : List PlaceImage). get_or l i beyond) places-are ∙ map_get place_image c.places i free beyond (omega (arith, s.valid.eight))

    pub key-at : (k : Key) → has_key k (get_or c.places i free) ≡ state_has_key (key_image k) (get_or head.places i beyond).state
    key-at k = sym (ap (λ (p : PlaceImage). state_has_key (key_image k) p.state) at ∙ key-image k (get_or c.places i free))

    pub done_at : {j : KeyImage} {first : ℕ} → (get_or head.places i beyond).state ≡ state.Done j first → (k : Key) × (get_or c.places i free ≡ done k first)
    done_at {j} {first} e = image-done (get_or c.places i free) j first (sym (ap (λ (p : PlaceImage). p.state) at) ∙ e)

    pub open_at : {j : KeyImage} {first n : ℕ} → (get_or head.places i beyond).state ≡ state.Open j first n
        → Seen (get_or c.places i free) j first n (get_or head.places i beyond).numbers
    open_at {j} {first} {n} e =
        subst (λ (ns : List ℕ). Seen (get_or c.places i free) j first n ns) (sym (ap (λ (p : PlaceImage). p.numbers) at))
        (image-open (get_or c.places i free) j first n (every_get PlaceOk c.places i free s.valid.each tt) (sym (ap (λ (p : PlaceImage). p.state) at) ∙ e))

  -- a refusal that changes nothing
  module _ (why : Refusal) (out : List ℕ) where
    pub refuses : Does (record { answer = refused why; after = c }) out (Err why) head octets out
    refuses = record { answer = refl; head = s.head; store = s.store; buffer = refl }

    pub refuses-at : (i : ℕ) (a : Settled) → a ≡ record { answer = refused why; place = get_or c.places i free } → Does (settled_at c i a) out (Err why) head octets out
    refuses-at i a q =
        subst (λ (x : Step). Does x out (Err why) head octets out)
        (sym (ap (settled_at c i) q ∙ ap (λ (ps : List Place). record { answer = refused why; after = record { timeout = c.timeout; last = c.last; places = ps } }) (set-get_or c.places i free)))
        refuses

-- two collectors that are held alike have a key at the same place
pub same_key_lem : {c c' : Collector} {head : Head} {octets : List ℕ} (s : State c head octets) (s' : State c' head octets) (i : ℕ) → i < 8 → (k : Key)
    → has_key k (get_or c.places i free) ≡ true → has_key k (get_or c'.places i free) ≡ true
same_key_lem s s' i h k e = key-at s' i h k ∙ sym (key-at s i h k) ∙ e

-- ---- a done place stays
pub arrive-done : (p : Place) (k : Key) (t : ℕ) (q : Held) {j : Key} {first : ℕ} → p ≡ done j first → arrive p k t q ≡ record { answer = refused Done; place = p }
unfolding arrive
arrive-done p k t q e = rw e

-- ---- a page that is judged good
module _ (page : List ℕ) (o : Octets page) (long : length page ≡ 56) (g : judge page ≡ good (key_of page) (held_of page)) where
  sound : KeyOk (key_of page) × PageOk (key_of page) (held_of page)
  sound = subst JudgedOk g (judge-ok page o long)

  -- it opens a free place
  module _ {c : Collector} {head : Head} {octets : List ℕ} (s : State c head octets) where
    pub opening : (i : ℕ) (j : KeyImage) (t : ℕ) (ns : List ℕ) → Some i ≡ position is_free c.places → j ≡ key_image (key_of page) → ns ≡ padded 32 []
        → Keeping c (key_of page) [] head octets i (record { key = j; first = t; count = 0; numbers = ns }) page
    opening i j t ns e k n =
        record {
          state = s;
          at = omega (arith, (at-some is_free c.places i e).1, s.valid.eight);
          held = ap pages_in (is_free_lem (get_or c.places i free) (found-is is_free c.places free i e));
          key = k;
          count = refl;
          few = sound.0.some;
          numbers = n;
          together = record { key = sound.0; differ = ((λ m. Memᴰ.not-nil m), tt); each = (sound.1, tt) };
        }

  -- it comes to an open place that has its key
  module _ {c : Collector} {head : Head} {octets : List ℕ} (s : State c head octets) (i : ℕ) (h : i < 8) (same : has_key (key_of page) (get_or c.places i free) ≡ true)
      {j : KeyImage} {first n : ℕ} {ns : List ℕ} (w : Seen (get_or c.places i free) j first n ns) where
    looked : position (eqb (get_or page 2 0)) (take n ns) ≡ position (eqb (held_of page).number) (numbers w.pages)
    looked = ap₂ (λ (x : ℕ) (l : List ℕ). position (eqb x) l) (sym (page-is page o)) (ap₂ (λ (x : ℕ) (l : List ℕ). take x l) w.count w.numbers ∙ numbers-front 32 w.pages)

    new : None ≡ position (eqb (get_or page 2 0)) (take n ns) → lookup (held_of page).number w.pages ≡ none
    new e = lookup-none (held_of page).number w.pages (at-none (eqb (held_of page).number) (numbers w.pages) (e ∙ looked) ∙ numbers-length w.pages)

    module _ (m : ℕ) (e : Some m ≡ position (eqb (get_or page 2 0)) (take n ns)) where
      at-number : (m ≡ first_index (eqb (held_of page).number) (numbers w.pages)) × (m < length (numbers w.pages))
      at-number = at-some (eqb (held_of page).number) (numbers w.pages) m (e ∙ looked)

      pub found_lt : m < n
      found_lt = omega (arith, at-number.1, numbers-length w.pages, w.count)

      old : lookup (held_of page).number w.pages ≡ some (take 53 (drop (i * 1696 + m * 53) octets))
      old =
          let lt : m < length w.pages = omega (arith, found_lt, w.count) in
          lookup-some (held_of page).number w.pages (held_of page) (omega (arith, lt, at-number.0))
          ∙ ap (λ (x : ℕ). some (get_or w.pages x (held_of page)).content) (sym at-number.0)
          ∙ ap some (sym (
          ap (λ (l : List ℕ). take 53 (drop (i * 1696 + m * 53) l)) s.store
          ∙ store-page c.places i w.pages (roomy-places c.places s.valid.each) (omega (arith, s.valid.eight)) (ap pages_in w.place) (long-pages w.of w.pages w.ok.each) m (held_of page) lt
          ))

    page-ok : PageOk w.of (held_of page)
    page-ok = subst (λ (k : Key). PageOk k (held_of page)) (same_true (key_of page) w.of (sym (ap (has_key (key_of page)) w.place) ∙ same)) sound.1

    pub joining : None ≡ position (eqb (get_or page 2 0)) (take n ns) → Keeping c w.of w.pages head octets i (record { key = j; first = first; count = n; numbers = ns }) page
    joining e =
        record {
          state = s;
          at = h;
          held = ap pages_in w.place;
          key = w.key;
          count = w.count;
          few = w.ok.few;
          numbers = w.numbers;
          together =
              record {
                key = w.ok.key;
                differ =
                    subst Nodup (sym (numbers-snoc w.pages (held_of page)))
                    (nodup-snoc (numbers w.pages) (held_of page).number w.ok.differ (absent-number (held_of page).number w.pages (new e)));
                each = every-snoc (PageOk w.of) w.pages (held_of page) w.ok.each page-ok;
              };
        }

    pub arrive-new : (t : ℕ) → None ≡ position (eqb (get_or page 2 0)) (take n ns)
        → arrive (get_or c.places i free) (key_of page) t (held_of page) ≡ grow w.of first (w.pages ++ (held_of page ∷ []))
    unfolding arrive again
    arrive-new t e = rw (w.place, new e)

    pub arrive-again : (t m : ℕ) (b : Bool) → Some m ≡ position (eqb (get_or page 2 0)) (take n ns) → b ≡ same_octets (take 53 (drop (i * 1696 + m * 53) octets)) (drop 3 page)
        → arrive (get_or c.places i free) (key_of page) t (held_of page) ≡ record { answer = refused (cond b Repeat Conflict); place = get_or c.places i free }
    unfolding arrive again
    arrive-again t m b e q = rw (w.place, old m e, sym q)
