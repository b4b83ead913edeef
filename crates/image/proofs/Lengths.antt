-- The two lengths that octets must have.
-- By the two parts of the test.
use mathlib.Core.Path.{◌≡◌, ap, ◌∙◌}
use mathlib.Core.Bool.{true, false}
use lib.ListN.{length}
use borrow.Author.Tests.{eq-eqb, ne_eqb}
use Rattle.collector.specs.Feed.{Collector}
use Rattle.collector.specs.Valid.{Valid}
use Rattle.image.specs.Octets.{Image, image_of}
use Rattle.image.specs.Calls.{is_long}
use Rattle.image.proofs.RoundTrip.{long-image}

module _ (i : Image) where
  pub is-long : length i.head ≡ 336 → length i.store ≡ 13568 → is_long i ≡ true
  unfolding is_long
  is-long h s = rw (eq-eqb (length i.head) 336 h, eq-eqb (length i.store) 13568 s)

  pub head-not : (length i.head ≡ 336 → ⊥) → is_long i ≡ false
  unfolding is_long
  head-not n = rw (ne_eqb (length i.head) 336 n)

  pub store-not : length i.head ≡ 336 → (length i.store ≡ 13568 → ⊥) → is_long i ≡ false
  unfolding is_long
  store-not h n = rw (eq-eqb (length i.head) 336 h, ne_eqb (length i.store) 13568 n)

-- the octets of a collector that our calls made
pub image-long : (i : Image) (c : Collector) → Valid c → i ≡ image_of c → is_long i ≡ true
image-long i c v e = let l = long-image c v in ap is_long e ∙ is-long (image_of c) l.0 l.1
