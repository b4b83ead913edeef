-- The value is below 2^32, and the code is that of the answer.
use Rattle.has_c.proofs.Values.{replay-few}
use Rattle.has_c.proofs.has_replay.Goals as goal

pub value_code-requires : goal.value_code-requires
value_code-requires c = replay-few _ _ _ _ _ (λ i. (c.type_inv.entries i).fits) c.replay.ensures
