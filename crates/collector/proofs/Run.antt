-- A run of pages of at most eight messages within one time-out, from a fresh collector: the invariant, and the exact answer to each feed.
-- Each message's place holds the pages of its different numbers so far; a feed changes its own message's place alone, and always finds room.
use mathlib.Core.Bool.{true, false}
use mathlib.Core.List.Memᴰ
use mathlib.Core.List.{List, [], ◌∷◌, ◌++◌, map, Memᴰ, append-nil, append_assoc}
use mathlib.Core.Path.{◌≡◌, refl, sym, ap, ◌∙◌, subst}
use Prim.Native.Nat.{ℕ, ◌+◌, ◌≤◌, ◌<◌}
use native.Mathlib.Nat.{le_refl, le_trans}
use native.Mathlib.Omega.{arith}
use lib.ListN.{length, length-map}
use borrow.Author.Tests.{le-ltb}
use Rattle.pagecode.specs.Page.{legal}
use Rattle.pagecode.proofs.Promises.{encoded-length}
use Rattle.lists.specs.Lists.{Every, memb}
use Rattle.collector.specs.Lists.{Nodup, add, gather}
use Rattle.collector.specs.Place.{Key, Held, Place, same_key, is_free, find, numbers, FirstIs}
use Rattle.collector.specs.Feed.{Collector, Step, fresh, tick, arrive, hold, received, feed, run}
use Rattle.collector.specs.Valid.{Apart}
use Rattle.collector.specs.Demand.{Message, key_for, Sound, Sent, Fed, Of, call, Timed, numbers_of, seen, expected}
use Rattle.lists.proofs.Tests.{on_bool, clash}
use Rattle.collector.proofs.Lists.{every-snoc, mem-map, map_inj, gather-snoc, nodup-different}
use Rattle.collector.proofs.Places.{same_true, same_refl, same-swap, apart_none}
use Rattle.collector.proofs.Hold.{every_mono, Holds, hold-law, every-find, every-none, arrive-first}
use Rattle.collector.proofs.PageCode.{PageOf, page_at}
use Rattle.collector.proofs.Room.{room, expire-none}
use Rattle.collector.proofs.OnePlace.{place_of, first_of, add_page, numbers-add, every-page, arrive-exact}
use Rattle.collector.proofs.Encode.{judge-encode}

-- ---- the numbers fed under a key
numbers-own : (k : Key) (fs : List Fed) (f : Fed) → same_key (key_for f.message) k ≡ true → numbers_of k (fs ++ (f ∷ [])) ≡ numbers_of k fs ++ (f.page ∷ [])
numbers-own k [] f e = rw e
numbers-own k (g ∷ fs) f e =
    on_bool (same_key (key_for g.message) k)
    (λ q. rw q (ap (λ r. g.page ∷ r) (numbers-own k fs f e)))
    (λ q. rw q (numbers-own k fs f e))

numbers-other : (k : Key) (fs : List Fed) (f : Fed) → same_key (key_for f.message) k ≡ false → numbers_of k (fs ++ (f ∷ [])) ≡ numbers_of k fs
numbers-other k [] f e = rw e
numbers-other k (g ∷ fs) f e =
    on_bool (same_key (key_for g.message) k)
    (λ q. rw q (ap (λ r. g.page ∷ r) (numbers-other k fs f e)))
    (λ q. rw q (numbers-other k fs f e))

pub seen-own : (m : Message) (fs : List Fed) (f : Fed) → same_key (key_for f.message) (key_for m) ≡ true → seen m (fs ++ (f ∷ [])) ≡ add f.page (seen m fs)
seen-own m fs f e = ap (gather []) (numbers-own (key_for m) fs f e) ∙ gather-snoc [] (numbers_of (key_for m) fs) f.page

pub seen_other : (m : Message) (fs : List Fed) (f : Fed) → same_key (key_for f.message) (key_for m) ≡ false → seen m (fs ++ (f ∷ [])) ≡ seen m fs
seen_other m fs f e = ap (gather []) (numbers-other (key_for m) fs f e)

every-add : (P : ℕ → Type 0) (n : ℕ) (s : List ℕ) → P n → Every P s → Every P (add n s)
unfolding add
every-add P n s p h = on_bool (memb n s) (λ e. rw e h) (λ e. rw e (every-snoc P s n h p))

-- ---- the invariant
-- a message's place holds its pages with the different numbers s, in order of arrival; it is free with none, and done with k
pub record StandsAt (m : Message) (c : Collector) (s : List ℕ) : Type 0 where
  pub first : ℕ
  pub pages : List Held
  pub numbered : numbers pages ≡ s
  pub right : Every (PageOf m) pages
  pub place : find (key_for m) c.places ≡ place_of m first pages

module _ (ms : List Message) (T t₀ : ℕ) where
  pub record Inv (c : Collector) (pre : List Fed) : Type 0 where
    pub timeout : c.timeout ≡ T
    pub many : length c.places ≡ 8
    pub apart : Apart c.places
    pub since : Every (FirstIs (λ f. t₀ ≤ f)) c.places
    pub known : (k : Key) → is_free (find k c.places) ≡ false → Memᴰ k (map key_for ms)
    pub numbers-legal : (m : Message) → Memᴰ m ms → Every (λ n. legal m.size n ≡ true) (seen m pre)
    pub stands : (m : Message) → Memᴰ m ms → StandsAt m c (seen m pre)

  -- a fresh collector
  pub inv-fresh : Inv (fresh T) []
  inv-fresh =
      record {
        timeout = refl;
        many = refl;
        apart = apart_none 8;
        since = every-none (FirstIs (λ f. t₀ ≤ f)) tt 8;
        known = λ k h. clash refl h;
        numbers-legal = λ m i. tt;
        stands = λ m i. record { first = 0; pages = []; numbered = refl; right = tt; place = refl };
      }

-- a page of a message passes checks 1 to 3
pub feed-sent : (c : Collector) (f : Fed) → Sound f.message → legal f.message.size f.page ≡ true
    → f.second ≤ 2477260799 → c.last ≤ f.second
    → feed c (call f) ≡ hold (tick f.second c) f.second (key_for f.message) (page_at f.message f.page)
unfolding feed received
feed-sent c f so l in_range clock =
    rw (
      encoded-length f.message.octets f.message.status f.message.number f.page,
      le-ltb 2477260799 f.second in_range,
      le-ltb f.second c.last clock,
      judge-encode f.message so f.page l,
    )

module _ (ms : List Message) (sent : Sent ms) (T t₀ : ℕ) where
  same-message : (m m' : Message) → Memᴰ m ms → Memᴰ m' ms → same_key (key_for m) (key_for m') ≡ true → m ≡ m'
  same-message m m' i j e = map_inj key_for ms sent.apart m m' i j (same_true (key_for m) (key_for m') e)

  -- the collector as the clock leaves it
  abbrev at : ℕ → Collector → Collector
  at t c = record { timeout = c.timeout; last = t; places = c.places }

  tick-none : (c : Collector) (pre : List Fed) (t : ℕ) → Inv ms T t₀ c pre → t < t₀ + T → tick t c ≡ at t c
  unfolding tick
  tick-none c pre t v hi =
      ap (λ (ps : List Place). record { timeout = c.timeout; last = t; places = ps })
      (expire-none c.timeout t c.places
      (every_mono (λ f. t₀ ≤ f) (λ f. t < f + c.timeout) (λ f h. let e = v.timeout in omega arith) c.places v.since))

  step-hold : (c : Collector) (pre : List Fed) (f : Fed) → Inv ms T t₀ c pre → Of ms f → t₀ ≤ f.second
      → (r : Step) → Holds (at f.second c) f.second (key_for f.message) (page_at f.message f.page) r
      → (r.answer ≡ expected f.message (seen f.message pre) f.page) × Inv ms T t₀ r.after (pre ++ (f ∷ [])) × (r.after.last ≡ f.second)
  step-hold c pre f v of lo r h = (answer, after, h.last)
    where
      m : Message
      m = f.message

      st : StandsAt m c (seen m pre)
      st = v.stands m of.one

      p : Held
      p = page_at m f.page

      exact : arrive (find (key_for m) c.places) (key_for m) f.second p
          ≡ record {
            answer = expected m (numbers st.pages) f.page;
            place = place_of m (first_of st.pages st.first f.second) (add_page p st.pages);
          }
      exact =
          ap (λ q. arrive q (key_for m) f.second p) st.place
          ∙ arrive-exact m (sent.sound m of.one) st.first f.second p of.legal-number refl st.pages
          (subst Nodup (sym st.numbered) (nodup-different (numbers_of (key_for m) pre)))
          (subst (Every (λ n. legal m.size n ≡ true)) (sym st.numbered) (v.numbers-legal m of.one))
          st.right

      answer : r.answer ≡ expected m (seen m pre) f.page
      answer = h.answer ∙ ap (λ z. z.answer) exact ∙ ap (λ (s : List ℕ). expected m s f.page) st.numbered

      own : StandsAt m r.after (seen m (pre ++ (f ∷ [])))
      own =
          record {
            first = first_of st.pages st.first f.second;
            pages = add_page p st.pages;
            numbered = numbers-add p st.pages ∙ ap (add f.page) st.numbered ∙ sym (seen-own m pre f (same_refl (key_for m)));
            right = every-page (PageOf m) p st.pages refl st.right;
            place = h.own ∙ ap (λ z. z.place) exact;
          }

      numbers-legal : (m' : Message) → Memᴰ m' ms → Every (λ n. legal m'.size n ≡ true) (seen m' (pre ++ (f ∷ [])))
      numbers-legal m' i =
          on_bool (same_key (key_for m) (key_for m'))
          (λ e.
          let q = same-message m m' of.one i e in
          subst (λ (l : List ℕ). Every (λ n. legal m'.size n ≡ true) l) (sym (seen-own m' pre f e))
          (every-add (λ n. legal m'.size n ≡ true) f.page (seen m' pre)
          (subst (λ (x : Message). legal x.size f.page ≡ true) q of.legal-number) (v.numbers-legal m' i)))
          (λ e. subst (λ (l : List ℕ). Every (λ n. legal m'.size n ≡ true) l) (sym (seen_other m' pre f e)) (v.numbers-legal m' i))

      stands : (m' : Message) → Memᴰ m' ms → StandsAt m' r.after (seen m' (pre ++ (f ∷ [])))
      stands m' i =
          on_bool (same_key (key_for m) (key_for m'))
          (λ e. subst (λ (x : Message). StandsAt x r.after (seen x (pre ++ (f ∷ [])))) (same-message m m' of.one i e) own)
          (λ e.
          let st' = v.stands m' i in
          record {
            first = st'.first;
            pages = st'.pages;
            numbered = st'.numbered ∙ sym (seen_other m' pre f e);
            right = st'.right;
            place = h.other (key_for m') (same-swap (key_for m) (key_for m') e) ∙ st'.place;
          })

      after : Inv ms T t₀ r.after (pre ++ (f ∷ []))
      after =
          record {
            timeout = h.timeout ∙ v.timeout;
            many = h.many ∙ v.many;
            apart = h.apart;
            since =
                h.every (FirstIs (λ g. t₀ ≤ g))
                (arrive-first (λ g. t₀ ≤ g) (find (key_for m) c.places) (key_for m) f.second (page_at m f.page) lo
                (every-find (FirstIs (λ g. t₀ ≤ g)) tt (key_for m) c.places v.since))
                v.since;
            known = λ k e.
                on_bool (same_key k (key_for m))
                (λ q. Memᴰ.cast (same_true k (key_for m) q) (mem-map key_for of.one))
                (λ q. v.known k (sym (ap is_free (h.other k q)) ∙ e));
            numbers-legal = numbers-legal;
            stands = stands;
          }

  pub step : (c : Collector) (pre : List Fed) (f : Fed) → Inv ms T t₀ c pre → Of ms f
      → t₀ ≤ f.second → f.second < t₀ + T → f.second ≤ 2477260799 → c.last ≤ f.second
      → ((feed c (call f)).answer ≡ expected f.message (seen f.message pre) f.page)
      × Inv ms T t₀ (feed c (call f)).after (pre ++ (f ∷ []))
      × ((feed c (call f)).after.last ≡ f.second)
  step c pre f v of lo hi in_range clock =
      let m = f.message in
      let k = key_for m in
      let p = page_at m f.page in
      let e : feed c (call f) ≡ hold (at f.second c) f.second k p =
      feed-sent c f (sent.sound m of.one) of.legal-number in_range clock
      ∙ ap (λ (x : Collector). hold x f.second k p) (tick-none c pre f.second v hi) in
      let few : length (map key_for ms) ≤ length c.places = rw (length-map ms key_for, v.many) sent.few in
      let law =
      hold-law (at f.second c) f.second k p v.apart
      (λ q. room (map key_for ms) c.places few v.apart v.known k (mem-map key_for of.one) q) in
      subst
      (λ (r : Step).
      (r.answer ≡ expected f.message (seen f.message pre) f.page) × Inv ms T t₀ r.after (pre ++ (f ∷ [])) × (r.after.last ≡ f.second))
      (sym e) (step-hold c pre f v of lo (hold (at f.second c) f.second k p) law)

  -- ---- along a list of feeds
  pub record Reached (c : Collector) (pre : List Fed) (rest : List Fed) : Type 0 where
    pub from : ℕ
    pub inv : Inv ms T t₀ c pre
    pub clock : c.last ≤ from
    pub lo : t₀ ≤ from
    pub timed : Timed from (t₀ + T) rest

  pub walk : (acc pre rest : List Fed) (c : Collector) → Every (Of ms) pre → Reached c acc (pre ++ rest)
      → Reached (run c (map call pre)) (acc ++ pre) rest
  walk acc [] rest c ofs r = subst (λ (l : List Fed). Reached c l rest) (sym (append-nil acc)) r
  walk acc (f ∷ pre) rest c ofs r =
      let h = r.timed in
      let lo : t₀ ≤ f.second = le_trans r.lo h.0 in
      let s = step c acc f r.inv ofs.0 lo h.1 h.2 (le_trans r.clock h.0) in
      subst (λ (l : List Fed). Reached (run c (map call (f ∷ pre))) l rest) (append_assoc acc (f ∷ []) pre)
      (walk (acc ++ (f ∷ [])) pre rest (feed c (call f)).after ofs.1
      (record { from = f.second; inv = s.1; clock = subst (λ (x : ℕ). x ≤ f.second) (sym s.2) (le_refl f.second); lo = lo; timed = h.3 }))
