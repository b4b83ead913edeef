-- An image reads back to the collector that it was made of: no two collectors that our calls made have one image.
-- The head is read back, and head and store settle the collector.
use mathlib.Core.Path.{◌≡◌, sym, ap, ap₂, ◌∙◌}
use mathlib.Core.List.{List}
use Prim.Native.Nat.{ℕ}
use Rattle.collector.specs.declared.state.Head.{Head}
use Rattle.collector.specs.Feed.{Collector}
use Rattle.collector.specs.Valid.{Valid}
use Rattle.collector.specs.Image.{head_image}
use Rattle.collector.proofs.ReadBack.{one-collector}
use Rattle.image.specs.Octets.{Image, image_of}
use Rattle.image.specs.Reading.{head_at}
use Rattle.image.proofs.RoundTrip.{round_trip}

pub one-image : (c d : Collector) → Valid c → Valid d → image_of c ≡ image_of d → c ≡ d
one-image c d v w e =
    let head : head_image c ≡ head_image d = sym (round_trip c v) ∙ ap (λ (i : Image). head_at i.head) e ∙ round_trip d w in
    one-collector c d v w (ap₂ (λ (h : Head) (o : List ℕ). record { head = h; store = o }) head (ap (λ (i : Image). i.store) e))
