-- The value is below 2^32, and the code is that of the answer.
use Rattle.has_c.proofs.Values.{read-few}
use Rattle.has_c.proofs.has_read.Goals as goal

pub read_code-requires : goal.read_code-requires
read_code-requires c = read-few _ _ _ _ c.read.ensures
