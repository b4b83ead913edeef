-- `Valid` is met by a fresh collector and kept by every feed of octets, and so by every list of them.
-- A page that is judged good is sound, and it comes to its own place: the law of `hold` keeps what holds of every place.
use mathlib.Core.Bool.{true, false, not, ◌&&◌}
use mathlib.Core.List.Memᴰ
use mathlib.Core.List.{List, [], ◌∷◌, ◌++◌, Memᴰ}
use mathlib.Core.Logic.{◌⊎◌, inl, inr}
use mathlib.Core.Option.{none-ne-some, Option, none, some}
use mathlib.Core.Path.{◌≡◌, refl, sym, ap, ◌∙◌, subst}
use Prim.Native.Nat.{ℕ, zero, suc, ◌-◌, ◌≤◌}
use native.Mathlib.Nat.{le_trans}
use native.Mathlib.Omega.{arith}
use lib.ListN.{length, drop, length-map, length-drop}
use lib.Dec.{eqb, ltb}
use borrow.Author.Tests.{eqb-true, eqb-false, ltb-false, eq-eqb}
use Rattle.refusal.specs.declared.Refusal.TheVariants.{Full}
use Rattle.pagecode.specs.Field.{Octets}
use Rattle.pagecode.specs.Page.{is_dummy, legal, header_of, bits_from}
use Rattle.lists.specs.Lists.{Every}
use Rattle.collector.specs.Lists.{Nodup}
use Rattle.collector.specs.Place.{Key, Held, Place, free, waiting, done, has_key, is_free, find, any_free, expire, lookup, numbers, FirstIs}
use Rattle.collector.specs.Feed.{Collector, refused, Call, Step, fresh, tick, key_of, Judged, bad, stop, good, judge, grow, again, arrive, hold, received, feed, run}
use Rattle.collector.specs.Valid.{KeyOk, PageOk, OpenOk, PlaceOk, Valid}
use Rattle.lists.proofs.Tests.{on_bool, clash}
use Rattle.collector.proofs.Lists.{length-snoc, every-snoc, nodup-snoc}
use Rattle.collector.proofs.Places.{numbers-snoc, same_true, found, apart-expire, apart_none}
use Rattle.collector.proofs.Hold.{every_mono, every-expire, Holds, hold-law, every-find, every-none, arrive-first}

-- ---- a page that is judged good has a legal key, a legal number and 53 octets
pub drop-octets : (n : ℕ) (l : List ℕ) → Octets l → Octets (drop n l)
drop-octets zero l o = o
drop-octets (suc n) [] o = o
drop-octets (suc n) (x ∷ xs) o = drop-octets n xs (λ i. o (suc i))

abbrev pub JudgedOk : Judged → Type 0
JudgedOk (bad r) = Unit {0}
JudgedOk stop = Unit {0}
JudgedOk (good k p) = KeyOk k × PageOk k p

key-ok : (page : List ℕ) → eqb (header_of page).status 3 ≡ false → eqb (header_of page).status 2 ≡ false → KeyOk (key_of page)
unfolding header_of bits_from
key-ok page e₃ e₂ =
    let x = eqb-false (header_of page).status 3 e₃ in
    let y = eqb-false (header_of page).status 2 e₂ in
    record { status = omega arith; number = omega arith; some = omega arith; few = omega arith }

pub judge-ok : (page : List ℕ) → Octets page → length page ≡ 56 → JudgedOk (judge page)
unfolding judge
judge-ok page o l =
    on_bool (is_dummy page) (λ e₀. rw e₀ tt)
    (λ e₀. on_bool (eqb (header_of page).status 3) (λ e₁. rw (e₀, e₁) tt)
    (λ e₁. on_bool (eqb (header_of page).status 2) (λ e₂. rw (e₀, e₁, e₂) tt)
    (λ e₂. on_bool (eqb (header_of page).kind 1)
    (λ e₃. on_bool (legal (header_of page).size (header_of page).page)
    (λ e₄. rw (e₀, e₁, e₂, e₃, e₄) (
      key-ok page e₁ e₂,
      record { legal-number = e₄; long = length-drop 3 page ∙ ap (λ (n : ℕ). n - 3) l; octets = drop-octets 3 page o },
    ))
    (λ e₄. rw (e₀, e₁, e₂, e₃, e₄) tt))
    (λ e₃. rw (e₀, e₁, e₂, e₃) tt))))

-- ---- a page at a place
pub absent-number : (n : ℕ) (pages : List Held) → lookup n pages ≡ none → Memᴰ n (numbers pages) → ⊥
absent-number n [] e i = Memᴰ.not-nil i
absent-number n (p ∷ ps) e (Memᴰ.head q) = none-ne-some p.content (sym (rw (eq-eqb n p.number q) at e))
absent-number n (p ∷ ps) e (Memᴰ.tail i) =
    on_bool (eqb n p.number) (λ q. none-ne-some p.content (sym (rw q at e))) (λ q. absent-number n ps (rw q at e) i)

grow-ok : (k : Key) (first : ℕ) (pages : List Held) → KeyOk k → 1 ≤ length pages → length pages ≤ k.size
    → Nodup (numbers pages) → Every (PageOk k) pages → PlaceOk (grow k first pages).place
unfolding grow
grow-ok k first pages ko lo hi nd ev =
    on_bool (eqb (length pages) k.size)
    (λ e. rw e ko)
    (λ e. rw e (let n = eqb-false (length pages) k.size e in record { key = ko; some = lo; few = omega arith; differ = nd; each = ev }))

again-ok : (o : Option (List ℕ)) (k : Key) (first : ℕ) (pages : List Held) (p : Held) → lookup p.number pages ≡ o
    → OpenOk k pages → PageOk k p → PlaceOk (again o k first pages p).place
unfolding again
again-ok none k first pages p e h pk =
    let l = length-snoc pages p in
    let f = h.few in
    grow-ok k first (pages ++ (p ∷ [])) h.key (omega arith) (omega arith)
    (subst Nodup (sym (numbers-snoc pages p))
    (nodup-snoc (numbers pages) p.number h.differ (λ i. absent-number p.number pages e i)))
    (every-snoc (PageOk k) pages p h.each pk)
again-ok (some x) k first pages p e h pk = h

pub arrive-ok : (q : Place) (k : Key) (t : ℕ) (p : Held) → (is_free q ≡ true) ⊎ (has_key k q ≡ true) → PlaceOk q → KeyOk k → PageOk k p
    → PlaceOk (arrive q k t p).place
unfolding arrive
arrive-ok free k t p w h ko pk = grow-ok k t (p ∷ []) ko (omega arith) ko.some ((λ i. Memᴰ.not-nil i), tt) (pk, tt)
arrive-ok (waiting k' first pages) k t p (inl e) h ko pk = clash e refl
arrive-ok (waiting k' first pages) k t p (inr e) h ko pk =
    again-ok (lookup p.number pages) k' first pages p refl h (subst (λ (j : Key). PageOk j p) (same_true k k' e) pk)
arrive-ok (done k' first) k t p w h ko pk = h

-- ---- the collector
pub valid-fresh : (T : ℕ) → 1 ≤ T → T ≤ 600 → Valid (fresh T)
valid-fresh T lo hi =
    record {
      least = lo;
      most = hi;
      range = omega arith;
      eight = refl;
      apart = apart_none 8;
      past = every-none (FirstIs (λ f. f ≤ 0)) tt 8;
      each = every-none PlaceOk tt 8;
    }

pub valid-tick : (c : Collector) (t : ℕ) → Valid c → c.last ≤ t → t ≤ 2477260799 → Valid (tick t c)
unfolding tick
valid-tick c t v lo hi =
    record {
      least = v.least;
      most = v.most;
      range = hi;
      eight = length-map c.places (expire c.timeout t) ∙ v.eight;
      apart = apart-expire c.timeout t c.places v.apart;
      past =
          every-expire (FirstIs (λ f. f ≤ t)) tt c.timeout t c.places
          (every_mono (λ f. f ≤ c.last) (λ f. f ≤ t) (λ f h. le_trans h lo) c.places v.past);
      each = every-expire PlaceOk tt c.timeout t c.places v.each;
    }

-- a legal page is held, or there is no room and nothing changes
valid-holds : (c : Collector) (k : Key) (p : Held) → Valid c → KeyOk k → PageOk k p → (r : Step) → Holds c c.last k p r → Valid r.after
valid-holds c k p v ko pk r h =
    let q = find k c.places in
    record {
      least = subst (λ (n : ℕ). 1 ≤ n) (sym h.timeout) v.least;
      most = subst (λ (n : ℕ). n ≤ 600) (sym h.timeout) v.most;
      range = subst (λ (n : ℕ). n ≤ 2477260799) (sym h.last) v.range;
      eight = h.many ∙ v.eight;
      apart = h.apart;
      past =
          subst (λ (n : ℕ). Every (FirstIs (λ f. f ≤ n)) r.after.places) (sym h.last)
          (h.every (FirstIs (λ f. f ≤ c.last))
          (arrive-first (λ f. f ≤ c.last) q k c.last p (omega arith)
          (every-find (FirstIs (λ f. f ≤ c.last)) tt k c.places v.past))
          v.past);
      each =
          h.every PlaceOk
          (arrive-ok q k c.last p (on_bool (is_free q) (λ e. inl e) (λ e. inr (found k c.places e)))
          (every-find PlaceOk tt k c.places v.each) ko pk)
          v.each;
    }

-- FULL where the key has no place and none is free
pub hold-full : (c : Collector) (t : ℕ) (k : Key) (p : Held) → is_free (find k c.places) ≡ true → any_free c.places ≡ false
    → hold c t k p ≡ record { answer = refused Full; after = c }
unfolding hold
hold-full c t k p e a = rw (e, a)

valid-hold : (c : Collector) (k : Key) (p : Held) → Valid c → KeyOk k → PageOk k p → Valid (hold c c.last k p).after
valid-hold c k p v ko pk =
    on_bool (any_free c.places)
    (λ a. valid-holds c k p v ko pk _ (hold-law c c.last k p v.apart (λ e. a)))
    (λ a. on_bool (is_free (find k c.places))
    (λ e. subst (λ (r : Step). Valid r.after) (sym (hold-full c c.last k p e a)) v)
    (λ e. valid-holds c k p v ko pk _ (hold-law c c.last k p v.apart (λ q. clash q e))))

valid-received : (c : Collector) (j : Judged) → Valid c → JudgedOk j → Valid (received c c.last j).after
unfolding received
valid-received c (bad r) v h = v
valid-received c stop v h =
    record {
      least = v.least;
      most = v.most;
      range = v.range;
      eight = refl;
      apart = apart_none 8;
      past = every-none (FirstIs (λ f. f ≤ c.last)) tt 8;
      each = every-none PlaceOk tt 8;
    }
valid-received c (good k p) v h = valid-hold c k p v h.0 h.1

-- every feed keeps it
pub valid-feed : (c : Collector) (f : Call) → Valid c → Octets f.page → Valid (feed c f).after
unfolding feed tick
valid-feed c f v o =
    on_bool (eqb (length f.page) 56)
    (λ e₁. on_bool (eqb f.room 1696)
    (λ e₂. on_bool (ltb 2477260799 f.second)
    (λ e₃. rw (e₁, e₂, e₃) v)
    (λ e₃. on_bool (ltb f.second c.last)
    (λ e₄. rw (e₁, e₂, e₃, e₄) v)
    (λ e₄. rw (e₁, e₂, e₃, e₄)
    (valid-received (tick f.second c) (judge f.page)
    (valid-tick c f.second v (ltb-false f.second c.last e₄) (ltb-false 2477260799 f.second e₃))
    (judge-ok f.page o (eqb-true (length f.page) 56 e₁))))))
    (λ e₂. rw (e₁, e₂) v))
    (λ e₁. rw e₁ v)

pub valid-run : (c : Collector) (fs : List Call) → Valid c → Every (λ (f : Call). Octets f.page) fs → Valid (run c fs)
valid-run c [] v o = v
valid-run c (f ∷ fs) v o = valid-run (feed c f).after fs (valid-feed c f v o.0) o.1

-- ---- the time-out never changes, and the last second is that of a call
clock-hold : (c : Collector) (t : ℕ) (k : Key) (p : Held) → ((hold c t k p).after.timeout ≡ c.timeout) × ((hold c t k p).after.last ≡ c.last)
unfolding hold
clock-hold c t k p = on_bool (is_free (find k c.places) && not (any_free c.places)) (λ e. rw e (refl, refl)) (λ e. rw e (refl, refl))

clock-received : (c : Collector) (t : ℕ) (j : Judged) → ((received c t j).after.timeout ≡ c.timeout) × ((received c t j).after.last ≡ c.last)
unfolding received
clock-received c t (bad r) = (refl, refl)
clock-received c t stop = (refl, refl)
clock-received c t (good k p) = clock-hold c t k p

clock-feed : (c : Collector) (f : Call) (b : ℕ) → c.last ≤ b → f.second ≤ b → ((feed c f).after.timeout ≡ c.timeout) × ((feed c f).after.last ≤ b)
unfolding feed tick
clock-feed c f b h s =
    on_bool (eqb (length f.page) 56)
    (λ e₁. on_bool (eqb f.room 1696)
    (λ e₂. on_bool (ltb 2477260799 f.second)
    (λ e₃. rw (e₁, e₂, e₃) (refl, h))
    (λ e₃. on_bool (ltb f.second c.last)
    (λ e₄. rw (e₁, e₂, e₃, e₄) (refl, h))
    (λ e₄. let r = clock-received (tick f.second c) f.second (judge f.page) in rw (e₁, e₂, e₃, e₄) (r.0, subst (λ (n : ℕ). n ≤ b) (sym r.1) s))))
    (λ e₂. rw (e₁, e₂) (refl, h)))
    (λ e₁. rw e₁ (refl, h))

pub clock-run : (c : Collector) (fs : List Call) (b : ℕ) → c.last ≤ b → Every (λ (f : Call). f.second ≤ b) fs → ((run c fs).timeout ≡ c.timeout) × ((run c fs).last ≤ b)
clock-run c [] b h s = (refl, h)
clock-run c (f ∷ fs) b h s =
    let r = clock-feed c f b h s.0 in
    let q = clock-run (feed c f).after fs b r.1 s.1 in
    (q.0 ∙ r.0, q.1)
