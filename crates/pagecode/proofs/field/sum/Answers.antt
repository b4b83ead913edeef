-- The sum of octets is their exclusive or.
use borrow.Author.Rules.{rules}
use Rattle.pagecode.specs.Field.{◌⊕◌}
use Rattle.pagecode.proofs.field.sum.Goals as goal

pub returns : goal.returns
unfolding ◌⊕◌
returns c = search rules
