-- What `feed` answers and leaves, check by check.
-- The octets of a collector that our calls made read back to its head, so octets that fail a check are of none.
use mathlib.Core.Path.{◌≡◌, refl, sym, ap, ap₂, ◌∙◌}
use mathlib.Core.Bool.{Bool, true, false, false≢true}
use mathlib.Core.List.{List}
use Prim.Native.Nat.{ℕ}
use Rattle.std.specs.Prelude.{Result, Err}
use Rattle.refusal.specs.declared.Refusal.{Refusal}
use Rattle.refusal.specs.declared.Refusal.TheVariants.{Length, Form}
use Rattle.collector.specs.declared.state.Head.{Head}
use Rattle.collector.specs.declared.state.Collector.{Collector as CollectorImage}
use Rattle.collector.specs.declared.state.Fed.{Fed}
use Rattle.collector.specs.Feed.{Collector, Call}
use Rattle.collector.specs.Valid.{Valid}
use Rattle.collector.specs.Image.{head_image, Made, Decides, Feeds as FeedsCollector}
use Rattle.lists.proofs.Tests.{clash}
use Rattle.image.specs.Octets.{head_octets, Image, image_of}
use Rattle.image.specs.Calls.{is_long, why_not, Feeds, of, not-one}
use Rattle.image.specs.Reading.{head_at, Holds}
use Rattle.image.proofs.Lengths.{image-long}
use Rattle.image.proofs.RoundTrip.{round_trip}

-- ---- what a test told
pub decides_true : (b : Bool) (P : Type 0) → Decides b P → b ≡ true → P
decides_true true P d e = d
decides_true false P d e = absurd (false≢true e)

pub decides_false : (b : Bool) (P : Type 0) → Decides b P → b ≡ false → P → ⊥
decides_false true P d e = absurd (false≢true (sym e))
decides_false false P d e = d

-- a head that is written again to the octets: the test of the collector decides
pub agrees : (b : Bool) (h : Head) (i : Image) (again : List ℕ) → again ≡ head_octets h → again ≡ i.head → Decides b (Made (record { head = h; store = i.store })) → Decides b (Holds h i)
agrees true h i again e f d = (sym f ∙ e, d)
agrees false h i again e f d = λ (k, m). d m

-- ---- the checks
module _ (i : Image) (call : Call) (before : List ℕ) where
  pub feed-length : is_long i ≡ false → Feeds i call before (Err Length) i before
  unfolding why_not
  feed-length e = not-one (λ c v f. clash (image-long i c v f) e) (rw e) refl refl

  -- of a collector's octets, the head that is read is its head
  holds : (c : Collector) (h : Head) → Valid c → i ≡ image_of c → h ≡ head_at i.head → Holds h i
  holds c h v e f =
      let same : h ≡ head_image c = f ∙ ap (λ (x : Image). head_at x.head) e ∙ round_trip c v in
      (ap (λ (x : Image). x.head) e ∙ ap head_octets (sym same), (c, v, ap₂ (λ (x : Head) (o : List ℕ). record { head = x; store = o }) same (ap (λ (x : Image). x.store) e)))

  pub feed-form : (h : Head) → is_long i ≡ true → h ≡ head_at i.head → (Holds h i → ⊥) → Feeds i call before (Err Form) i before
  unfolding why_not
  feed-form h l e n = not-one (λ c v f. n (holds c h v f e)) (rw l) refl refl

  pub feed-held : (h next : Head) (answer : Result Fed Refusal) (head store after : List ℕ) → Holds h i
      → FeedsCollector (record { head = h; store = i.store }) call before answer (record { head = next; store = store }) after
      → head ≡ head_octets next → Feeds i call before answer (record { head = head; store = store }) after
  feed-held h next answer head store after (e, (c, v, m)) f w =
      let d = f.did c v m in
      of c v
      (ap₂ (λ (x o : List ℕ). record { head = x; store = o }) (e ∙ ap (λ (x : CollectorImage). head_octets x.head) m) (ap (λ (x : CollectorImage). x.store) m))
      (record {
        answer = d.answer;
        image =
            ap (λ (x : List ℕ). record { head = x; store = store }) w
            ∙ ap (λ (x : CollectorImage). record { head = head_octets x.head; store = x.store }) d.collector;
        buffer = d.buffer;
      })
