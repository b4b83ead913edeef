-- Two results that the contract of `feed` allows are equal, the collector and the lent buffer included.
-- Both are those of a feed of the collector that is held.
use mathlib.Core.List.{List}
use mathlib.Core.Path.{◌≡◌, sym, ◌∙◌}
use Prim.Native.Nat.{ℕ}
use Rattle.collector.specs.declared.state.Collector.{Collector as CollectorImage}
use Rattle.collector.specs.declared.state.Fed.{Fed}
use Rattle.std.specs.Prelude.{Result}
use Rattle.refusal.specs.declared.Refusal.{Refusal}
use Rattle.collector.specs.Feed.{Call}
use Rattle.collector.specs.Image.{Made, Feeds}

pub one-feed : (held : CollectorImage) (call : Call) (before : List ℕ) (a a' : Result Fed Refusal) (r r' : CollectorImage) (after after' : List ℕ) → Made held
    → Feeds held call before a r after → Feeds held call before a' r' after' → (a ≡ a') × (r ≡ r') × (after ≡ after')
one-feed held call before a a' r r' after after' (c, v, e) f f' =
    let d = f.did c v e in
    let d' = f'.did c v e in
    (d.answer ∙ sym d'.answer, d.collector ∙ sym d'.collector, d.buffer ∙ sym d'.buffer)
