-- The four octets from there on, the highest first.
use mathlib.Core.Path.{◌∙◌}
use Rattle.image.specs.Reading.{word_at}
use Rattle.image.proofs.octets.read_word.Goals as goal

pub returns : goal.returns
unfolding word_at
returns c =
    let a = c.args in
    c.from.ensures ∙ c.from_be_bytes.ensures
