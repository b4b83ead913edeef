-- The value is below 2^32, and the code is that of the answer.
use Rattle.has_c.proofs.Values.{write-few}
use Rattle.has_c.proofs.has_write.Goals as goal

pub value_code-requires : goal.value_code-requires
value_code-requires c = write-few _ _ _ _ c.write.ensures
