-- Who only uses these calls holds the image of a collector that our calls made: none of them then refuses it.
-- A fresh collector is valid, and a feed of octets keeps it so. LENGTH is given to a page that is not 56 octets alone.
use mathlib.Core.Path.{◌≡◌, refl, sym, ap, ◌∙◌}
use mathlib.Core.Bool.{Bool, true, false, not, ◌&&◌}
use mathlib.Core.List.{List, [], ◌∷◌, ◌++◌}
use mathlib.Core.Option.{Option, none, some}
use Prim.Native.Nat.{ℕ}
use lib.Dec.{leb, ltb, eqb}
use lib.ListN.{length}
use borrow.Author.Tests.{leb-true, eq-eqb}
use Rattle.refusal.specs.declared.Refusal.{Refusal}
use Rattle.refusal.specs.declared.Refusal.TheVariants.{Length, Form}
use Rattle.refusal.specs.Number.{number_of}
use Rattle.std.specs.Prelude.{Result, Ok, Err}
use Rattle.pagecode.specs.Answer.{Answer as StartAnswer}
use Rattle.pagecode.specs.Field.{Octets}
use Rattle.pagecode.specs.Page.{legal, header_of, is_dummy}
use Rattle.collector.specs.declared.state.Fed.{Fed}
use Rattle.collector.specs.Place.{Key, Held, Place, free, waiting, done, is_free, find, any_free, lookup}
use Rattle.collector.specs.Feed.{Collector, Answer, kept, ready, refused, Call, fresh, startable, start_answer, tick, judge, same_octets, grow, again, arrive, hold, received, feed}
use Rattle.collector.specs.Valid.{Valid}
use Rattle.collector.specs.Image.{answer_image}
use Rattle.collector.proofs.Keeps.{valid-fresh, valid-feed}
use Rattle.collector.proofs.Refusals.{no_other}
use Rattle.lists.proofs.Tests.{on_bool, clash, and_left, and_right}
use Rattle.image.specs.Octets.{Image, image_of}
use Rattle.image.specs.Calls.{is_long, started_answer, started, Feeds, of, not-one}
use Rattle.image.proofs.Lengths.{image-long}

-- octets that are the image of a collector that our calls made
abbrev pub Imaged : Image → Type 0
Imaged i = (c : Collector) × Valid c × (i ≡ image_of c)

-- ---- after a good start
is_good : StartAnswer → Bool
is_good (Ok _) = true
is_good (Err r) = false

module _ (held : Image) (timeout : ℕ) where
  in-range : startable timeout ≡ true → Valid (fresh timeout)
  unfolding startable
  in-range e =
      valid-fresh timeout (leb-true 1 timeout (and_left (leb 1 timeout) (leb timeout 600) e)) (leb-true timeout 600 (and_right (leb 1 timeout) (leb timeout 600) e))

  pub start-again : started_answer held timeout ≡ Ok tt → Imaged (started held timeout)
  unfolding started_answer started start_answer is_good
  start-again =
      on_bool (is_long held)
      (λ e. on_bool (startable timeout) (λ f. rw (e, f) (λ g. (fresh timeout, in-range f, refl))) (λ f. rw (e, f) (λ g. clash (ap is_good g) refl)))
      (λ e. rw e (λ g. clash (ap is_good g) refl))

  -- and `start` on such octets gives no LENGTH
  pub restart : Imaged held → started_answer held timeout ≡ start_answer timeout
  unfolding started_answer
  restart (c, v, e) = rw (image-long held c v e)

-- ---- a feed of a page of 56 octets never answers LENGTH
is_length : Answer → Bool
is_length (kept n) = false
is_length (ready k octets) = false
is_length (refused r) = eqb (number_of r) 1

grow-not : (k : Key) (first : ℕ) (pages : List Held) → is_length (grow k first pages).answer ≡ false
unfolding grow is_length
grow-not k first pages = on_bool (eqb (length pages) k.size) (λ e. rw e) (λ e. rw e)

again-not : (o : Option (List ℕ)) (k : Key) (first : ℕ) (pages : List Held) (p : Held) → is_length (again o k first pages p).answer ≡ false
unfolding again is_length
again-not none k first pages p = grow-not k first (pages ++ (p ∷ []))
again-not (some held) k first pages p = on_bool (same_octets held p.content) (λ e. rw e) (λ e. rw e)

arrive-not : (q : Place) (k : Key) (t : ℕ) (p : Held) → is_length (arrive q k t p).answer ≡ false
unfolding arrive is_length
arrive-not free k t p = grow-not k t (p ∷ [])
arrive-not (waiting j first pages) k t p = again-not (lookup p.number pages) j first pages p
arrive-not (done j first) k t p = refl

hold-not : (c : Collector) (t : ℕ) (k : Key) (p : Held) → is_length (hold c t k p).answer ≡ false
unfolding hold is_length
hold-not c t k p = on_bool (is_free (find k c.places) && not (any_free c.places)) (λ e. rw e) (λ e. rw e (arrive-not (find k c.places) k t p))

received-not : (c : Collector) (t : ℕ) (page : List ℕ) → is_length (received c t (judge page)).answer ≡ false
unfolding received judge is_length
received-not c t page =
    on_bool (is_dummy page) (λ e₀. rw e₀)
    (λ e₀. on_bool (eqb (header_of page).status 3) (λ e₁. rw (e₀, e₁))
    (λ e₁. on_bool (eqb (header_of page).status 2) (λ e₂. rw (e₀, e₁, e₂))
    (λ e₂. on_bool (eqb (header_of page).kind 1)
    (λ e₃. on_bool (legal (header_of page).size (header_of page).page) (λ e₄. rw (e₀, e₁, e₂, e₃, e₄) (hold-not c t _ _)) (λ e₄. rw (e₀, e₁, e₂, e₃, e₄)))
    (λ e₃. rw (e₀, e₁, e₂, e₃)))))

feed-not : (c : Collector) (f : Call) → length f.page ≡ 56 → is_length (feed c f).answer ≡ false
unfolding feed is_length
feed-not c f h =
    let e₁ = eq-eqb (length f.page) 56 h in
    on_bool (eqb f.room 1696)
    (λ e₂. on_bool (ltb 2477260799 f.second) (λ e₃. rw (e₁, e₂, e₃))
    (λ e₃. on_bool (ltb f.second c.last) (λ e₄. rw (e₁, e₂, e₃, e₄)) (λ e₄. rw (e₁, e₂, e₃, e₄) (received-not (tick f.second c) f.second f.page))))
    (λ e₂. rw (e₁, e₂))

-- ---- after any feed
answer-of : (a : Answer) (r : Refusal) → answer_image a ≡ Err r → a ≡ refused r
answer-of (kept n) r e = cc
answer-of (ready k octets) r e = cc
answer-of (refused q) r e = cc

module _ (held : Image) (call : Call) (before : List ℕ) (r : Result Fed Refusal) (next : Image) (after : List ℕ) where
  pub feed-again : Octets call.page → Imaged held → Feeds held call before r next after → Imaged next
  feed-again o (c, v, e) (of c' v' e' d) = ((feed c' call).after, valid-feed c' call v' o, d.image)
  feed-again o (c, v, e) (not-one n a i b) = absurd (n c v e)

  pub never-form : Imaged held → Feeds held call before r next after → r ≡ Err Form → ⊥
  never-form (c, v, e) (of c' v' e' d) f = no_other c' call Form refl (answer-of (feed c' call).answer Form (sym d.answer ∙ f))
  never-form (c, v, e) (not-one n a i b) f = n c v e

  pub never-length : length call.page ≡ 56 → Imaged held → Feeds held call before r next after → r ≡ Err Length → ⊥
  unfolding is_length
  never-length h (c, v, e) (of c' v' e' d) f = clash (ap is_length (answer-of (feed c' call).answer Length (sym d.answer ∙ f))) (feed-not c' call h)
  never-length h (c, v, e) (not-one n a i b) f = n c v e
