-- What a refusal leaves of the collector: the column "waiting pages" of docs/REFUSALS.md, as one table, and that every feed keeps to it.
-- The checks are walked one by one. DONE, REPEAT and CONFLICT put back the place that they found.
use mathlib.Core.Bool.{Bool, true, false, not, ◌&&◌, cond}
use mathlib.Core.List.{List, [], ◌∷◌, ◌++◌}
use mathlib.Core.Option.{none-ne-some, some-injective, Option, none, some}
use mathlib.Core.Path.{◌≡◌, refl, sym, ap, ◌∙◌, subst}
use Prim.Native.Nat.{ℕ}
use lib.ListN.{length, replicate}
use lib.Dec.{eqb, ltb}
use Rattle.refusal.specs.declared.Refusal.{Refusal}
use Rattle.refusal.specs.declared.Refusal.TheVariants.{Length, Out, Second, Clock, Dummy, Stop, Status, Kind, PageNumber, Done, Repeat, Conflict, Full, Timeout, Id, Toh, Mask, Short, Count, System, Twice, NavMsg, Validity, Form, Long}
use Rattle.pagecode.specs.Page.{legal, header_of, is_dummy}
use Rattle.collector.specs.Place.{Key, Held, Place, free, waiting, done, has_key, is_free, find, any_free, replace, lookup}
use Rattle.collector.specs.Feed.{Collector, Answer, kept, ready, refused, written, Call, tick, Judged, bad, stop, good, judge, same_octets, grow, again, arrive, hold, received, feed}
use Rattle.lists.proofs.Tests.{on_bool, clash}

-- what a refusal at second t leaves of a collector; none where no feed refuses so
abbrev pub left : Refusal → ℕ → Collector → Option Collector
-- unchanged
left Length t c = some c
left Out t c = some c
left Second t c = some c
left Clock t c = some c
-- by the clock alone
left Dummy t c = some (tick t c)
left Status t c = some (tick t c)
left Kind t c = some (tick t c)
left PageNumber t c = some (tick t c)
left Done t c = some (tick t c)
left Repeat t c = some (tick t c)
left Conflict t c = some (tick t c)
left Full t c = some (tick t c)
-- all freed
left Stop t c = some (record { timeout = c.timeout; last = t; places = replicate 8 free })
-- refusals of other calls
left Timeout t c = none
left Id t c = none
left Toh t c = none
left Mask t c = none
left Short t c = none
left Count t c = none
left System t c = none
left Twice t c = none
left NavMsg t c = none
left Validity t c = none
left Form t c = none
left Long t c = none

-- "No refusal writes a lent buffer"
pub unwritten : (r : Refusal) (buffer : List ℕ) → written (refused r) buffer ≡ buffer
unwritten r buffer = refl

-- ---- the place of a key, put back
replace-found : (k : Key) (ps : List Place) → replace (has_key k) (find k ps) ps ≡ ps
replace-found k [] = refl
replace-found k (p ∷ ps) = on_bool (has_key k p) (λ e. rw e) (λ e.
    let f : find k (p ∷ ps) ≡ find k ps = rw e refl in
    let g : p ∷ replace (has_key k) (find k (p ∷ ps)) ps ≡ p ∷ ps = ap (λ (q : Place). p ∷ replace (has_key k) q ps) f ∙ ap (λ (r : List Place). p ∷ r) (replace-found k ps) in
    rw e g)

-- ---- the checks
is_refusal : Answer → Bool
is_refusal (kept n) = false
is_refusal (ready k octets) = false
is_refusal (refused r) = true

grow-never : (k : Key) (first : ℕ) (pages : List Held) → is_refusal (grow k first pages).answer ≡ false
unfolding grow is_refusal
grow-never k first pages = on_bool (eqb (length pages) k.size) (λ e. rw e) (λ e. rw e)

same-refusal : (r s : Refusal) → refused r ≡ refused s → r ≡ s
same-refusal r s e = cc

module _ (t : ℕ) (c : Collector) where
  -- a refusal that leaves what the clock leaves
  abbrev Clocked : Refusal → Type 0
  Clocked r = left r t c ≡ some (tick t c)

  again-says : (o : Option (List ℕ)) (k : Key) (first : ℕ) (pages : List Held) (p : Held) (r : Refusal) → (again o k first pages p).answer ≡ refused r
      → ((again o k first pages p).place ≡ waiting k first pages) × Clocked r
  unfolding again is_refusal
  again-says none k first pages p r e = clash (ap is_refusal e) (grow-never k first (pages ++ (p ∷ [])))
  again-says (some held) k first pages p r e =
      (refl, subst Clocked (same-refusal (cond (same_octets held p.content) Repeat Conflict) r e) (on_bool (same_octets held p.content) (λ q. rw q) (λ q. rw q)))

  arrive-says : (q : Place) (k : Key) (s : ℕ) (p : Held) (r : Refusal) → (arrive q k s p).answer ≡ refused r → (is_free q ≡ false) × ((arrive q k s p).place ≡ q) × Clocked r
  unfolding arrive is_refusal
  arrive-says free k s p r e = clash (ap is_refusal e) (grow-never k s (p ∷ []))
  arrive-says (waiting j first pages) k s p r e = let a = again-says (lookup p.number pages) j first pages p r e in (refl, a.0, a.1)
  arrive-says (done j first) k s p r e = (refl, refl, subst Clocked (same-refusal Done r e) refl)

  hold-says : (d : Collector) (s : ℕ) (k : Key) (p : Held) (r : Refusal) → (hold d s k p).answer ≡ refused r → ((hold d s k p).after ≡ d) × Clocked r
  unfolding hold
  hold-says d s k p r =
      on_bool (is_free (find k d.places) && not (any_free d.places))
      (λ q. rw q (λ e. (refl, subst Clocked (same-refusal Full r e) refl)))
      (λ q. rw q (λ e.
      let a = arrive-says (find k d.places) k s p r e in
      (rw (a.0, a.1) (ap (λ (ps : List Place). record { timeout = d.timeout; last = d.last; places = ps }) (replace-found k d.places)), a.2)))

  -- a judged page is refused by the clock alone
  abbrev JudgedSays : Judged → Type 0
  JudgedSays (bad r) = Clocked r
  JudgedSays stop = Unit {0}
  JudgedSays (good k p) = Unit {0}

  judge-says : (page : List ℕ) → JudgedSays (judge page)
  unfolding judge
  judge-says page =
      on_bool (is_dummy page) (λ e₀. rw e₀ refl)
      (λ e₀. on_bool (eqb (header_of page).status 3) (λ e₁. rw (e₀, e₁) tt)
      (λ e₁. on_bool (eqb (header_of page).status 2) (λ e₂. rw (e₀, e₁, e₂) refl)
      (λ e₂. on_bool (eqb (header_of page).kind 1)
      (λ e₃. on_bool (legal (header_of page).size (header_of page).page) (λ e₄. rw (e₀, e₁, e₂, e₃, e₄) tt) (λ e₄. rw (e₀, e₁, e₂, e₃, e₄) refl))
      (λ e₃. rw (e₀, e₁, e₂, e₃) refl))))

  received-says : (j : Judged) → JudgedSays j → (r : Refusal) → (received (tick t c) t j).answer ≡ refused r → left r t c ≡ some (received (tick t c) t j).after
  unfolding received tick
  received-says (bad q) h r e = subst Clocked (same-refusal q r e) h
  received-says stop h r e = subst (λ (x : Refusal). left x t c ≡ some (received (tick t c) t stop).after) (same-refusal Stop r e) refl
  received-says (good k p) h r e = let a = hold-says (tick t c) t k p r e in a.1 ∙ sym (ap some a.0)

-- every refusal of a feed leaves what the table says
pub after-refusal : (c : Collector) (f : Call) (r : Refusal) → (feed c f).answer ≡ refused r → left r f.second c ≡ some (feed c f).after
unfolding feed
after-refusal c f r =
    on_bool (eqb (length f.page) 56)
    (λ e₁. on_bool (eqb f.room 1696)
    (λ e₂. on_bool (ltb 2477260799 f.second) (λ e₃. rw (e₁, e₂, e₃) (early Second refl))
    (λ e₃. on_bool (ltb f.second c.last) (λ e₄. rw (e₁, e₂, e₃, e₄) (early Clock refl))
    (λ e₄. rw (e₁, e₂, e₃, e₄) (received-says f.second c (judge f.page) (judge-says f.second c f.page) r))))
    (λ e₂. rw (e₁, e₂) (early Out refl)))
    (λ e₁. rw e₁ (early Length refl))
  where
    early : (q : Refusal) → left q f.second c ≡ some c → refused q ≡ refused r → left r f.second c ≡ some c
    early q h e = subst (λ (x : Refusal). left x f.second c ≡ some c) (same-refusal q r e) h

-- so the collector after is the one of the table, and a feed gives no other refusal
pub leaves : (c : Collector) (f : Call) (r : Refusal) (d : Collector) → (feed c f).answer ≡ refused r → left r f.second c ≡ some d → (feed c f).after ≡ d
leaves c f r d e h = some-injective (feed c f).after d (sym (after-refusal c f r e) ∙ h)

pub no_other : (c : Collector) (f : Call) (r : Refusal) → left r f.second c ≡ none → (feed c f).answer ≡ refused r → ⊥
no_other c f r h e = none-ne-some (feed c f).after (sym h ∙ after-refusal c f r e)
