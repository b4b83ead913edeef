-- What a feed does to the count of the pages held: KEPT adds at most one, READY takes the size's pages but for the one just fed, a refusal adds none.
-- A page changes its own place alone, and the clock only frees places. With it the length of READY's message, and how high the counts go.
use mathlib.Core.Bool.{true, false, not, ◌&&◌}
use mathlib.Core.List.Memᴰ
use mathlib.Core.List.{List, [], ◌∷◌, ◌++◌, map}
use mathlib.Core.Logic.{◌⊎◌, inl, inr}
use mathlib.Core.Option.{Option, none, some}
use mathlib.Core.Path.{◌≡◌, refl, sym, ap, subst}
use Prim.Native.Nat.{ℕ, suc, ◌+◌, ◌*◌, ◌≤◌}
use native.Mathlib.Omega.{arith}
use lib.ListN.{length}
use lib.Dec.{eqb, ltb}
use borrow.Author.Tests.{eqb-true, eqb-false, ltb-false}
use Rattle.pagecode.specs.Field.{Octets}
use Rattle.pagecode.proofs.Promises.{solution-has}
use Rattle.lists.specs.Lists.{Every}
use Rattle.collector.specs.Lists.{Nodup}
use Rattle.collector.specs.Place.{Key, Held, Place, free, waiting, done, has_key, is_free, find, any_free, replace, expire, pages_in, lookup, numbers, contents}
use Rattle.collector.specs.Feed.{Collector, Answer, kept, ready, refused, Call, tick, Judged, bad, stop, good, judge, message_of, grow, again, arrive, hold, received, feed}
use Rattle.collector.specs.Valid.{KeyOk, PageOk, OpenOk, PlaceOk, Valid}
use Rattle.lists.proofs.Tests.{on_bool, clash}
use Rattle.collector.proofs.Lists.{length-snoc, every-snoc, nodup-snoc}
use Rattle.collector.proofs.Places.{numbers-length, numbers-snoc, same_true, found, is_free_lem, expired}
use Rattle.collector.proofs.Hold.{every-find}
use Rattle.collector.proofs.PageCode.{solvable}
use Rattle.collector.proofs.Keeps.{JudgedOk, judge-ok, absent-number, valid-tick}

-- the pages held in all places
abbrev pub held_in : List Place → ℕ
held_in [] = 0
held_in (p ∷ ps) = length (pages_in p) + held_in ps

-- what an answer tells of the pages held before and after it
abbrev pub Counted : Answer → ℕ → ℕ → Type 0
Counted (kept n) before after = (n ≤ 31) × (after ≤ before + 1)
Counted (ready k octets) before after = (k ≤ 32) × (length octets ≡ k * 53) × (after + k ≤ before + 1)
Counted (refused r) before after = after ≤ before

-- the same where other places hold pages too, and where pages were lost before
counted-among : (a : Answer) (p p' before after : ℕ) → Counted a p p' → after + p ≤ before + p' → Counted a before after
counted-among (kept n) p p' before after h l = (h.0, omega (arith, h.1, l))
counted-among (ready k octets) p p' before after h l = (h.0, h.1, omega (arith, h.2, l))
counted-among (refused r) p p' before after h l = omega (arith, h, l)

-- ---- one place
message-long : (k : Key) → KeyOk k → (pages : List Held) → Nodup (numbers pages) → Every (PageOk k) pages → length pages ≡ k.size
    → length (message_of pages) ≡ k.size * 53
message-long k ko pages nd ev l = omega (arith, (solution-has (numbers pages) (contents pages) (solvable k ko pages nd ev l)).long, numbers-length pages, l)

grow-counted : (k : Key) (first : ℕ) (pages : List Held) (n : ℕ) → length pages ≡ suc n → KeyOk k → length pages ≤ k.size
    → Nodup (numbers pages) → Every (PageOk k) pages → Counted (grow k first pages).answer n (length (pages_in (grow k first pages).place))
unfolding grow
grow-counted k first pages n l ko hi nd ev =
    on_bool (eqb (length pages) k.size)
    (λ e. rw e (let s = eqb-true (length pages) k.size e in (ko.few, message-long k ko pages nd ev s, omega (arith, l, s))))
    (λ e. rw e (let s = eqb-false (length pages) k.size e in (omega (arith, s, hi, ko.few), omega (arith, l))))

again-counted : (o : Option (List ℕ)) (k : Key) (first : ℕ) (pages : List Held) (p : Held) → lookup p.number pages ≡ o
    → OpenOk k pages → PageOk k p → Counted (again o k first pages p).answer (length pages) (length (pages_in (again o k first pages p).place))
unfolding again
again-counted none k first pages p e h pk =
    let l = length-snoc pages p in
    grow-counted k first (pages ++ (p ∷ [])) (length pages) l h.key (omega (arith, l, h.few))
    (subst Nodup (sym (numbers-snoc pages p)) (nodup-snoc (numbers pages) p.number h.differ (λ i. absent-number p.number pages e i)))
    (every-snoc (PageOk k) pages p h.each pk)
again-counted (some x) k first pages p e h pk = omega arith

arrive-counted : (q : Place) (k : Key) (t : ℕ) (p : Held) → (is_free q ≡ true) ⊎ (has_key k q ≡ true) → PlaceOk q → KeyOk k → PageOk k p
    → Counted (arrive q k t p).answer (length (pages_in q)) (length (pages_in (arrive q k t p).place))
unfolding arrive
arrive-counted free k t p w h ko pk = grow-counted k t (p ∷ []) 0 refl ko ko.some ((λ i. Memᴰ.not-nil i), tt) (pk, tt)
arrive-counted (waiting k' first pages) k t p (inl e) h ko pk = clash e refl
arrive-counted (waiting k' first pages) k t p (inr e) h ko pk =
    again-counted (lookup p.number pages) k' first pages p refl h (subst (λ (j : Key). PageOk j p) (same_true k k' e) pk)
arrive-counted (done k' first) k t p w h ko pk = omega arith

-- ---- all places
held-free : (new : Place) (ps : List Place) → held_in (replace is_free new ps) ≤ held_in ps + length (pages_in new)
held-free new [] = omega arith
held-free new (free ∷ ps) = omega arith
held-free new (waiting k f g ∷ ps) = let ih = held-free new ps in omega (arith, ih)
held-free new (done k f ∷ ps) = let ih = held-free new ps in omega (arith, ih)

held-key : (k : Key) (new : Place) (ps : List Place) → is_free (find k ps) ≡ false
    → held_in (replace (has_key k) new ps) + length (pages_in (find k ps)) ≡ held_in ps + length (pages_in new)
held-key k new [] e = clash refl e
held-key k new (p ∷ ps) e =
    on_bool (has_key k p)
    (λ h. rw h (omega arith))
    (λ h. let ih = held-key k new ps (rw h at e) in rw h (omega (arith, ih)))

held-expire : (T t : ℕ) (ps : List Place) → held_in (map (expire T t) ps) ≤ held_in ps
held-expire T t [] = omega arith
held-expire T t (p ∷ ps) = go (held-expire T t ps) (expired T t p)
  where
    go : held_in (map (expire T t) ps) ≤ held_in ps → (expire T t p ≡ p) ⊎ (expire T t p ≡ free) → held_in (map (expire T t) (p ∷ ps)) ≤ held_in (p ∷ ps)
    go ih (inl e) = rw e (omega (arith, ih))
    go ih (inr e) = rw e (omega (arith, ih))

held-tick : (c : Collector) (t : ℕ) → held_in (tick t c).places ≤ held_in c.places
unfolding tick
held-tick c t = held-expire c.timeout t c.places

-- ---- the collector
hold-counted : (c : Collector) (t : ℕ) (k : Key) (p : Held) → Every PlaceOk c.places → KeyOk k → PageOk k p
    → Counted (hold c t k p).answer (held_in c.places) (held_in (hold c t k p).after.places)
unfolding hold
hold-counted c t k p ok ko pk =
    let q = find k c.places in
    let new = (arrive q k t p).place in
    let n = arrive-counted q k t p (on_bool (is_free q) (λ e. inl e) (λ e. inr (found k c.places e))) (every-find PlaceOk tt k c.places ok) ko pk in
    on_bool (is_free q && not (any_free c.places))
    (λ e. rw e (omega arith))
    (λ e. rw e (on_bool (is_free q)
    (λ f. rw f (counted-among (arrive q k t p).answer (length (pages_in q)) (length (pages_in new)) _ _ n (omega (arith, held-free new c.places, ap (λ x. length (pages_in x)) (is_free_lem q f)))))
    (λ f. rw f (counted-among (arrive q k t p).answer (length (pages_in q)) (length (pages_in new)) _ _ n (omega (arith, held-key k new c.places f))))))

received-counted : (c : Collector) (t : ℕ) (j : Judged) → Every PlaceOk c.places → JudgedOk j
    → Counted (received c t j).answer (held_in c.places) (held_in (received c t j).after.places)
unfolding received
received-counted c t (bad r) ok h = omega arith
received-counted c t stop ok h = omega arith
received-counted c t (good k p) ok h = hold-counted c t k p ok h.0 h.1

pub feed-counted : (c : Collector) (f : Call) → Valid c → Octets f.page → Counted (feed c f).answer (held_in c.places) (held_in (feed c f).after.places)
unfolding feed
feed-counted c f v o =
    on_bool (eqb (length f.page) 56)
    (λ e₁. on_bool (eqb f.room 1696)
    (λ e₂. on_bool (ltb 2477260799 f.second)
    (λ e₃. rw (e₁, e₂, e₃) (omega arith))
    (λ e₃. on_bool (ltb f.second c.last)
    (λ e₄. rw (e₁, e₂, e₃, e₄) (omega arith))
    (λ e₄. rw (e₁, e₂, e₃, e₄) (later (eqb-true (length f.page) 56 e₁) (ltb-false f.second c.last e₄) (ltb-false 2477260799 f.second e₃)))))
    (λ e₂. rw (e₁, e₂) (omega arith)))
    (λ e₁. rw e₁ (omega arith))
  where
    later : length f.page ≡ 56 → c.last ≤ f.second → f.second ≤ 2477260799
        → Counted (received (tick f.second c) f.second (judge f.page)).answer (held_in c.places) (held_in (received (tick f.second c) f.second (judge f.page)).after.places)
    later l lo hi =
        let d = tick f.second c in
        let r = received d f.second (judge f.page) in
        counted-among r.answer (held_in d.places) (held_in r.after.places) _ _
        (received-counted d f.second (judge f.page) (valid-tick c f.second v lo hi).each (judge-ok f.page o l))
        (omega (arith, held-tick c f.second))
