-- A feed on a head and a store: what its checks, the clock and a STOP leave there, and the step that each of them is.
-- A refusal leaves head, store and buffer as they are, so each law is an equation of the step and of the head.
use mathlib.Core.Path.{◌≡◌, refl, sym, ap, ap₂, ◌∙◌, subst}
use mathlib.Core.List.{List, [], ◌++◌, map}
use Prim.Native.Nat.{ℕ, zero, suc, ◌+◌, ◌*◌, ◌≤◌, ◌<◌}
use native.Mathlib.Omega.{arith}
use borrow.Author.Tests.{lt-ltb, le-ltb, eq-eqb, ne_eqb}
use lib.Dec.{eqb}
use lib.ListN.{length, replicate, replicate-append-replicate}
use Rattle.std.specs.Prelude.{Result, Ok, Err}
use Rattle.refusal.specs.declared.Refusal.{Refusal}
use Rattle.refusal.specs.declared.Refusal.TheVariants.{Length, Out, Second, Clock, Stop as Stopped}
use Rattle.pagecode.specs.Field.{Octets}
use Rattle.pagecode.specs.Page.{legal, header_of, is_dummy}
use Rattle.collector.specs.declared.state.Key.{Key as KeyImage}
use Rattle.collector.specs.declared.state.Place.{Place as PlaceImage}
use Rattle.collector.specs.declared.state.Head.{Head}
use Rattle.collector.specs.declared.state.Collector.{Collector as CollectorImage}
use Rattle.collector.specs.declared.state.Fed.{Fed}
use Rattle.collector.specs.declared.header.Judged.TheVariants.{Stop, Hold as HoldPage}
use Rattle.collector.specs.Place.{Place, free, expire}
use Rattle.collector.specs.Feed.{Collector, refused, Call, Step, tick, key_of, held_of, Judged, bad, stop, good, judge, hold, received, feed}
use Rattle.collector.specs.Valid.{Valid}
use Rattle.collector.specs.Image.{padded, key_image, place_image, store_image, head_image, collector_image, Made, Did, Feeds}
use Rattle.collector.specs.Steps.{judged_image, Hold, State, Does}
use Rattle.lists.proofs.Tests.{on_bool}
use Rattle.collector.proofs.Keeps.{valid-tick, valid-feed}
use Rattle.collector.proofs.Images.{padded-none}

-- ---- a head and a store that hold a collector
pub state-last : (c : Collector) (head : Head) (store : List ℕ) → State c head store → head.last ≡ c.last
state-last c head store s = ap (λ (h : Head). h.last) s.head

pub state-holds : (c : Collector) (head : Head) (store : List ℕ) → State c head store → Hold c.places head.places store
state-holds c head store s = record { eight = s.valid.eight; each = s.valid.each; places = ap (λ (h : Head). h.places) s.head; store = s.store }

pub state-made : (c : Collector) (image : CollectorImage) → Valid c → image ≡ collector_image c → State c image.head image.store
state-made c image v e = record { valid = v; head = ap (λ (i : CollectorImage). i.head) e; store = ap (λ (i : CollectorImage). i.store) e }

-- a feed of octets on the head and the store of a collector
pub fed : (image : CollectorImage) (f : Call) (buffer : List ℕ) (a : Result Fed Refusal) (head : Head) (store after : List ℕ)
    → ((c : Collector) → State c image.head image.store → Does (feed c f) buffer a head store after) → Made image → Octets f.page
    → Feeds image f buffer a (record { head = head; store = store }) after
fed image f buffer a head store after does (c, v, e) o = record { did = did; made = ((feed c f).after, valid-feed c f v o, (did c v e).collector) }
  where
    did : (c : Collector) → Valid c → image ≡ collector_image c → Did (feed c f) buffer a (record { head = head; store = store }) after
    did c v e =
        let d = does c (state-made c image v e) in
        record {
          answer = d.answer;
          collector = ap₂ (λ (h : Head) (o : List ℕ). record { head = h; store = o }) d.head d.store;
          buffer = d.buffer;
        }

-- ---- a refusal, by its equation
pub refuses : (s : Step) (w : Refusal) (c : Collector) (head : Head) (store buffer : List ℕ) → s ≡ record { answer = refused w; after = c }
    → head ≡ head_image c → store ≡ store_image c.places → Does s buffer (Err w) head store buffer
refuses s w c head store buffer e h o =
    subst (λ (x : Step). Does x buffer (Err w) head store buffer) (sym e) (record { answer = refl; head = h; store = o; buffer = refl })

-- a buffer that is left as it was
pub left_as : {s : Step} {before x y : List ℕ} {a : Result Fed Refusal} {head : Head} {store : List ℕ} → y ≡ x → Does s before a head store x → Does s before a head store y
left_as {s} {before} {a = a} {head} {store} e d = subst (λ (o : List ℕ). Does s before a head store o) (sym e) d

-- ---- the head with another last second and other places
pub next-head : (c : Collector) (head next : Head) (t u : ℕ) (images : List PlaceImage) (ps : List Place) → head ≡ head_image c → t ≡ u → images ≡ map place_image ps
    → next ≡ record { timeout = head.timeout; last = t; places = images } → next ≡ head_image (record { timeout = c.timeout; last = u; places = ps })
next-head c head next t u images ps h e p n =
    n ∙ ap₂ (λ (x : Head) (i : List PlaceImage). record { timeout = x.timeout; last = t; places = i }) h p
    ∙ ap (λ (l : ℕ). record { timeout = c.timeout; last = l; places = map place_image ps }) e

-- the clock
pub ticked : (c : Collector) (head next : Head) (store after : List ℕ) (t : ℕ) (images : List PlaceImage) → State c head store → head.last ≤ t → t ≤ 2477260799
    → ((ps : List Place) → Hold ps head.places store → Hold (map (expire head.timeout t) ps) images after)
    → next ≡ record { timeout = head.timeout; last = t; places = images } → State (tick t c) next after
unfolding tick
ticked c head next store after t images s lo hi f n =
    let old : head.timeout ≡ c.timeout = ap (λ (h : Head). h.timeout) s.head in
    let last = state-last c head store s in
    let ps = map (expire c.timeout t) c.places in
    let h : Hold ps images after =
    subst (λ (n : ℕ). Hold (map (expire n t) c.places) images after) old (f c.places (state-holds c head store s)) in
    record { valid = valid-tick c t s.valid (omega arith) hi; head = next-head c head next t t images ps s.head refl h.places n; store = h.store }

-- ---- a store without pages
no-pages : (w n m : ℕ) (a b : List ℕ) → a ≡ replicate w 0 → b ≡ replicate n 0 → w + n ≡ m → a ++ b ≡ replicate m 0
no-pages w n m a b e f g = ap₂ (λ (x y : List ℕ). x ++ y) e f ∙ replicate-append-replicate w n 0 ∙ ap (λ (k : ℕ). replicate k 0) g

pub store-none : (n m : ℕ) → n * 1696 ≡ m → store_image (replicate n free) ≡ replicate m 0
store-none zero m e = ap (λ (k : ℕ). replicate k 0) e
store-none (suc n) m e =
    no-pages 1696 (n * 1696) m (padded 1696 []) (store_image (replicate n free)) (padded-none 1696) (store-none n (n * 1696) refl) (omega arith)

-- ---- check 3: what is received, by what the code judges
bad-of : (j : Judged) (w : Refusal) → judged_image j ≡ Err w → j ≡ bad w
bad-of (bad r) w e = cc
bad-of stop w e = cc
bad-of (good k p) w e = cc

stop-of : (j : Judged) → judged_image j ≡ Ok Stop → j ≡ stop
stop-of (bad r) e = cc
stop-of stop e = refl
stop-of (good k p) e = cc

module _ (page : List ℕ) {key : KeyImage} where
  pub good_of : judged_image (judge page) ≡ Ok (HoldPage key) → judge page ≡ good (key_of page) (held_of page)
  unfolding judge
  good_of =
      on_bool (is_dummy page) (λ e₀. rw e₀ (λ e. cc))
      (λ e₀. on_bool (eqb (header_of page).status 3) (λ e₁. rw (e₀, e₁) (λ e. cc))
      (λ e₁. on_bool (eqb (header_of page).status 2) (λ e₂. rw (e₀, e₁, e₂) (λ e. cc))
      (λ e₂. on_bool (eqb (header_of page).kind 1)
      (λ e₃. on_bool (legal (header_of page).size (header_of page).page) (λ e₄. rw (e₀, e₁, e₂, e₃, e₄) (λ e. refl)) (λ e₄. rw (e₀, e₁, e₂, e₃, e₄) (λ e. cc)))
      (λ e₃. rw (e₀, e₁, e₂, e₃) (λ e. cc)))))

  pub key-of : judged_image (judge page) ≡ Ok (HoldPage key) → key ≡ key_image (key_of page)
  key-of e = let g = sym e ∙ ap judged_image (good_of e) in cc

module _ (c : Collector) (t : ℕ) where
  pub receives-bad : (j : Judged) (w : Refusal) → judged_image j ≡ Err w → received c t j ≡ record { answer = refused w; after = c }
  unfolding received
  receives-bad j w e = ap (received c t) (bad-of j w e)

  pub receives-stop : (j : Judged) → judged_image j ≡ Ok Stop
      → received c t j ≡ record { answer = refused Stopped; after = record { timeout = c.timeout; last = c.last; places = replicate 8 free } }
  unfolding received
  receives-stop j e = ap (received c t) (stop-of j e)

  pub receives-good : (page : List ℕ) {key : KeyImage} → judged_image (judge page) ≡ Ok (HoldPage key) → received c t (judge page) ≡ hold c t (key_of page) (held_of page)
  unfolding received
  receives-good page e = ap (received c t) (good_of page e)

-- ---- check 1, and what is left to check
module _ (c : Collector) (f : Call) where
  pub feed-length : (length f.page ≡ 56 → ⊥) → feed c f ≡ record { answer = refused Length; after = c }
  unfolding feed
  feed-length n = rw (ne_eqb _ _ n)

  module _ (long : length f.page ≡ 56) where
    pub feed-out : (f.room ≡ 1696 → ⊥) → feed c f ≡ record { answer = refused Out; after = c }
    unfolding feed
    feed-out n = rw (eq-eqb _ _ long, ne_eqb _ _ n)

    module _ (room : f.room ≡ 1696) where
      pub feed-second : 2477260799 < f.second → feed c f ≡ record { answer = refused Second; after = c }
      unfolding feed
      feed-second h = rw (eq-eqb _ _ long, eq-eqb _ _ room, lt-ltb _ _ h)

      module _ (range : f.second ≤ 2477260799) where
        pub feed-clock : f.second < c.last → feed c f ≡ record { answer = refused Clock; after = c }
        unfolding feed
        feed-clock h = rw (eq-eqb _ _ long, eq-eqb _ _ room, le-ltb _ _ range, lt-ltb _ _ h)

        pub feed-on : c.last ≤ f.second → feed c f ≡ received (tick f.second c) f.second (judge f.page)
        unfolding feed
        feed-on h = rw (eq-eqb _ _ long, eq-eqb _ _ room, le-ltb _ _ range, le-ltb _ _ h)
