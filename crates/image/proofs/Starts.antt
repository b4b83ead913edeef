-- What `start` answers and leaves, check by check.
-- The store of a collector without pages is zeros.
use mathlib.Core.Path.{◌≡◌, refl, sym, ap, ap₂, ◌∙◌}
use mathlib.Core.Bool.{true, false}
use mathlib.Core.List.{List}
use Prim.Native.Nat.{ℕ}
use lib.ListN.{replicate}
use Rattle.refusal.specs.declared.Refusal.TheVariants.{Length, Timeout}
use Rattle.std.specs.Prelude.{Ok, Err}
use Rattle.pagecode.specs.Answer.{Answer}
use Rattle.collector.specs.declared.state.Head.{Head}
use Rattle.collector.specs.Feed.{fresh, startable, start_answer}
use Rattle.collector.specs.Image.{head_image}
use Rattle.collector.proofs.Steady.{store-none}
use Rattle.image.specs.Octets.{head_octets, Image}
use Rattle.image.specs.Calls.{is_long, started_answer, started}

abbrev pub held : List ℕ → List ℕ → Image
held head store = record { head = head; store = store }

module _ (i : Image) (timeout : ℕ) where
  abbrev Starts : Answer → Image → Type 0
  Starts r next = (r ≡ started_answer i timeout) × (next ≡ started i timeout)

  pub start-length : is_long i ≡ false → Starts (Err Length) i
  unfolding started_answer started
  start-length e = (rw e, rw e)

  pub start-timeout : is_long i ≡ true → startable timeout ≡ false → Starts (Err Timeout) i
  unfolding started_answer started start_answer
  start-timeout e f = (rw (e, f), rw (e, f))

  pub start-good : (h : Head) (head store : List ℕ) → is_long i ≡ true → startable timeout ≡ true → h ≡ head_image (fresh timeout) → head ≡ head_octets h → store ≡ replicate 13568 0
      → Starts (Ok tt) (held head store)
  unfolding started_answer started start_answer
  start-good h head store e f g w z = (rw (e, f), rw (e, f) (ap₂ held (w ∙ ap head_octets g) (z ∙ sym (store-none 8 13568 refl))))
