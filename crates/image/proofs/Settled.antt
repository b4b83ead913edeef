-- Two results that the contract of a call allows are equal, head, store and lent buffer included.
-- `start` is given by equations. Of `feed` both results are those of one collector, or both are refused.
use mathlib.Core.Path.{◌≡◌, sym, ◌∙◌, subst}
use mathlib.Core.List.{List}
use Prim.Native.Nat.{ℕ}
use Rattle.std.specs.Prelude.{Result}
use Rattle.refusal.specs.declared.Refusal.{Refusal}
use Rattle.pagecode.specs.Answer.{Answer}
use Rattle.collector.specs.declared.state.Fed.{Fed}
use Rattle.collector.specs.Feed.{Collector, Call, feed}
use Rattle.image.specs.Octets.{Image}
use Rattle.image.specs.Calls.{started_answer, started, Did, Feeds, of, not-one}
use Rattle.image.proofs.OneImage.{one-image}

pub one-start : (held : Image) (timeout : ℕ) (r r' : Answer) (next next' : Image) → (r ≡ started_answer held timeout) × (next ≡ started held timeout)
    → (r' ≡ started_answer held timeout) × (next' ≡ started held timeout) → (r ≡ r') × (next ≡ next')
one-start held timeout r r' next next' (a, i) (a', i') = (a ∙ sym a', i ∙ sym i')

pub one-feed : (held : Image) (call : Call) (before : List ℕ) (r r' : Result Fed Refusal) (next next' : Image) (after after' : List ℕ)
    → Feeds held call before r next after → Feeds held call before r' next' after' → (r ≡ r') × (next ≡ next') × (after ≡ after')
one-feed held call before r r' next next' after after' (of c v e d) (of c' v' e' d') =
    let same : c' ≡ c = one-image c' c v' v (sym e' ∙ e) in
    let d'' : Did (feed c call) before r' next' after' = subst (λ (x : Collector). Did (feed x call) before r' next' after') same d' in
    (d.answer ∙ sym d''.answer, d.image ∙ sym d''.image, d.buffer ∙ sym d''.buffer)
one-feed held call before r r' next next' after after' (of c v e d) (not-one n a i b) = absurd (n c v e)
one-feed held call before r r' next next' after after' (not-one n a i b) (of c v e d) = absurd (n c v e)
one-feed held call before r r' next next' after after' (not-one n a i b) (not-one n' a' i' b') = (a ∙ sym a', i ∙ sym i', b ∙ sym b')
