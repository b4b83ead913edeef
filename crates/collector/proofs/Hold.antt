-- What a legal page does to the places, where the answer is not FULL: its own key's place goes as `arrive` says, every other key's stays.
-- The place that it leaves has the page's key, so that only this key's place is another.
use mathlib.Core.Bool.{Bool, true, false}
use mathlib.Core.List.{List, [], ◌∷◌, ◌++◌, map}
use mathlib.Core.Logic.{◌⊎◌, inl, inr}
use mathlib.Core.Option.{Option, none, some}
use mathlib.Core.Path.{◌≡◌, refl, sym, ap, ◌∙◌, subst}
use Prim.Native.Nat.{ℕ, zero, suc}
use lib.ListN.{length, replicate}
use lib.Dec.{eqb}
use Rattle.lists.specs.Lists.{Every}
use Rattle.collector.specs.Place.{Key, Held, Place, free, waiting, done, same_key, has_key, is_free, find, any_free, replace, expire, lookup, FirstIs}
use Rattle.collector.specs.Feed.{Collector, Step, grow, again, arrive, hold}
use Rattle.collector.specs.Valid.{Apart}
use Rattle.lists.proofs.Tests.{on_bool, clash}
use Rattle.collector.proofs.Places.{expired, Keyed, keyed-of, keyed_self, keyed-other, key-hit, free-hit, is_free_lem, found, find-replace-other, find-replace-key, find-replace-free, apart-replace-key, apart-replace-free}

-- ---- one fact at every place
every-replace : (Q : Place → Type 0) (is : Place → Bool) (new : Place) → Q new → (ps : List Place) → Every Q ps → Every Q (replace is new ps)
every-replace Q is new q [] h = tt
every-replace Q is new q (p ∷ ps) h =
    on_bool (is p) (λ e. rw e (q, h.1)) (λ e. rw e (h.0, every-replace Q is new q ps h.1))

pub every-find : (Q : Place → Type 0) → Q free → (k : Key) (ps : List Place) → Every Q ps → Q (find k ps)
every-find Q q k [] h = q
every-find Q q k (p ∷ ps) h = on_bool (has_key k p) (λ e. rw e h.0) (λ e. rw e (every-find Q q k ps h.1))

length-replace : (is : Place → Bool) (new : Place) (ps : List Place) → length (replace is new ps) ≡ length ps
length-replace is new [] = refl
length-replace is new (p ∷ ps) = on_bool (is p) (λ e. rw e) (λ e. rw e (ap suc (length-replace is new ps)))

pub every-none : (Q : Place → Type 0) → Q free → (n : ℕ) → Every Q (replicate n free)
every-none Q q zero = tt
every-none Q q (suc n) = (q, every-none Q q n)

pub every-expire : (Q : Place → Type 0) → Q free → (T t : ℕ) (ps : List Place) → Every Q ps → Every Q (map (expire T t) ps)
every-expire Q q T t [] h = tt
every-expire Q q T t (p ∷ ps) h = (go (expired T t p), every-expire Q q T t ps h.1)
  where
    go : (expire T t p ≡ p) ⊎ (expire T t p ≡ free) → Q (expire T t p)
    go (inl e) = subst Q (sym e) h.0
    go (inr e) = subst Q (sym e) q

-- a weaker fact of every first second
pub every_mono : (P Q : ℕ → Type 0) → ((f : ℕ) → P f → Q f) → (ps : List Place) → Every (FirstIs P) ps → Every (FirstIs Q) ps
every_mono P Q w [] h = tt
every_mono P Q w (free ∷ ps) h = (tt, every_mono P Q w ps h.1)
every_mono P Q w (waiting k f g ∷ ps) h = (w f h.0, every_mono P Q w ps h.1)
every_mono P Q w (done k f ∷ ps) h = (w f h.0, every_mono P Q w ps h.1)

-- ---- the place that a page leaves has the page's key, and a first second of its own or this one
grow-keyed : (k : Key) (first : ℕ) (pages : List Held) → Keyed k (grow k first pages).place
unfolding grow
grow-keyed k first pages j = on_bool (eqb (length pages) k.size) (λ e. rw e) (λ e. rw e)

again-keyed : (o : Option (List ℕ)) (k : Key) (first : ℕ) (pages : List Held) (p : Held) → Keyed k (again o k first pages p).place
unfolding again
again-keyed none k first pages p j = grow-keyed k first (pages ++ (p ∷ [])) j
again-keyed (some x) k first pages p j = refl

arrive-keyed : (q : Place) (k : Key) (t : ℕ) (p : Held) → (is_free q ≡ true) ⊎ (has_key k q ≡ true) → Keyed k (arrive q k t p).place
unfolding arrive
arrive-keyed free k t p h = grow-keyed k t (p ∷ [])
arrive-keyed (waiting k' first pages) k t p (inl e) = clash e refl
arrive-keyed (waiting k' first pages) k t p (inr e) = λ j.
    again-keyed (lookup p.number pages) k' first pages p j ∙ keyed-of k (waiting k' first pages) e j
arrive-keyed (done k' first) k t p (inl e) = clash e refl
arrive-keyed (done k' first) k t p (inr e) = keyed-of k (done k' first) e

grow_first : (P : ℕ → Type 0) (k : Key) (first : ℕ) (pages : List Held) → P first → FirstIs P (grow k first pages).place
unfolding grow
grow_first P k first pages h = on_bool (eqb (length pages) k.size) (λ e. rw e h) (λ e. rw e h)

again-first : (P : ℕ → Type 0) (o : Option (List ℕ)) (k : Key) (first : ℕ) (pages : List Held) (p : Held) → P first → FirstIs P (again o k first pages p).place
unfolding again
again-first P none k first pages p h = grow_first P k first (pages ++ (p ∷ [])) h
again-first P (some x) k first pages p h = h

pub arrive-first : (P : ℕ → Type 0) (q : Place) (k : Key) (t : ℕ) (p : Held) → P t → FirstIs P q → FirstIs P (arrive q k t p).place
unfolding arrive
arrive-first P free k t p ht hq = grow_first P k t (p ∷ []) ht
arrive-first P (waiting k' first pages) k t p ht hq = again-first P (lookup p.number pages) k' first pages p hq
arrive-first P (done k' first) k t p ht hq = hq

-- ---- the law of `hold`, where it does not say FULL
pub record Holds (c : Collector) (t : ℕ) (k : Key) (p : Held) (r : Step) : Type 1 where
  pub answer : r.answer ≡ (arrive (find k c.places) k t p).answer
  pub own : find k r.after.places ≡ (arrive (find k c.places) k t p).place
  pub other : (j : Key) → same_key j k ≡ false → find j r.after.places ≡ find j c.places
  pub apart : Apart r.after.places
  pub many : length r.after.places ≡ length c.places
  pub every : (Q : Place → Type 0) → Q (arrive (find k c.places) k t p).place → Every Q c.places → Every Q r.after.places
  pub last : r.after.last ≡ c.last
  pub timeout : r.after.timeout ≡ c.timeout

pub hold-law : (c : Collector) (t : ℕ) (k : Key) (p : Held) → Apart c.places
    → (is_free (find k c.places) ≡ true → any_free c.places ≡ true) → Holds c t k p (hold c t k p)
unfolding hold
hold-law c t k p a room =
    on_bool (is_free (find k c.places))
    (λ e.
    let q = is_free_lem (find k c.places) e in
    let new = (arrive (find k c.places) k t p).place in
    let kd = arrive-keyed (find k c.places) k t p (inl e) in
    rw (e, room e) record {
      answer = refl;
      own = find-replace-free k new (keyed_self k new kd) c.places q (room e);
      other = λ j n. find-replace-other j is_free new (free-hit j) (keyed-other j k new kd n) c.places;
      apart = apart-replace-free k new kd c.places q a;
      many = length-replace is_free new c.places;
      every = λ Q h hs. every-replace Q is_free new h c.places hs;
      last = refl;
      timeout = refl;
    })
    (λ e.
    let new = (arrive (find k c.places) k t p).place in
    let kd = arrive-keyed (find k c.places) k t p (inr (found k c.places e)) in
    rw e record {
      answer = refl;
      own = find-replace-key k new (keyed_self k new kd) c.places e;
      other = λ j n. find-replace-other j (has_key k) new (key-hit j k n) (keyed-other j k new kd n) c.places;
      apart = apart-replace-key k new kd c.places a;
      many = length-replace (has_key k) new c.places;
      every = λ Q h hs. every-replace Q (has_key k) new h c.places hs;
      last = refl;
      timeout = refl;
    })
