-- A fresh collector as the code holds it, and what starting one gives.
-- A store without pages is zeros, and a fresh collector of a time-out within range is valid.
use mathlib.Core.Bool.{true, false, false≢true}
use mathlib.Core.List.{List, map}
use mathlib.Core.Path.{◌≡◌, refl, sym, ap₂, ◌∙◌}
use Prim.Native.Nat.{ℕ, ◌≤◌}
use native.Mathlib.Omega.{arith}
use borrow.Author.Tests.{leb-true}
use lib.Dec.{leb}
use lib.ListN.{replicate}
use Rattle.refusal.specs.declared.Refusal.TheVariants.{Timeout}
use Rattle.std.specs.Prelude.{Ok, Err}
use Rattle.collector.specs.declared.state.Place.{Place as PlaceImage}
use Rattle.collector.specs.declared.state.Collector.{Collector as CollectorImage}
use Rattle.collector.specs.Place.{free}
use Rattle.collector.specs.Feed.{fresh, startable, start_answer, begun}
use Rattle.collector.specs.Image.{place_image, collector_image, Made}
use Rattle.lists.proofs.Tests.{on_bool}
use Rattle.collector.proofs.Keeps.{valid-fresh}
use Rattle.collector.proofs.Steady.{store-none}

pub fresh-image : (timeout : ℕ) (places : List PlaceImage) (store : List ℕ) → places ≡ map place_image (replicate 8 free) → store ≡ replicate 13568 0
    → record { head = record { timeout = timeout; last = 0; places = places }; store = store } ≡ collector_image (fresh timeout)
fresh-image timeout places store e f =
    ap₂ (λ (ps : List PlaceImage) (o : List ℕ). record { head = record { timeout = timeout; last = 0; places = ps }; store = o }) e (f ∙ sym (store-none 8 13568 refl))

module _ (timeout : ℕ) where
  pub in-range : startable timeout ≡ true → (1 ≤ timeout) × (timeout ≤ 600)
  unfolding startable
  in-range =
      on_bool (leb 1 timeout)
      (λ e. on_bool (leb timeout 600) (λ f h. (leb-true 1 timeout e, leb-true timeout 600 f)) (λ f. rw (e, f) (λ h. absurd (false≢true h))))
      (λ e. rw e (λ h. absurd (false≢true h)))

  pub starts : (r : CollectorImage) → startable timeout ≡ true → r ≡ collector_image (fresh timeout)
      → (Ok tt ≡ start_answer timeout) × (r ≡ collector_image (begun timeout)) × Made r
  unfolding start_answer begun
  starts r s e = let h = in-range s in rw s (refl, e, (fresh timeout, valid-fresh timeout h.0 h.1, e))

  pub starts-not : (r : CollectorImage) → startable timeout ≡ false → r ≡ collector_image (fresh 1)
      → (Err Timeout ≡ start_answer timeout) × (r ≡ collector_image (begun timeout)) × Made r
  unfolding start_answer begun
  starts-not r s e = rw s (refl, e, (fresh 1, valid-fresh 1 (omega arith) (omega arith), e))
