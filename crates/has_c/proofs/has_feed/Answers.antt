-- The value is below 2^32, and the code is that of the answer.
use Rattle.has_c.proofs.Values.{feed-few}
use Rattle.has_c.proofs.has_feed.Goals as goal

pub fed_code-requires : goal.fed_code-requires
fed_code-requires c = feed-few _ _ _ _ _ _ (λ i. (c.type_inv.page i).fits) c.feed.ensures
