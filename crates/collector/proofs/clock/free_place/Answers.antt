-- A free place holds no page: its numbers are 32 zeros.
use mathlib.Core.Path.{refl}
use Rattle.collector.specs.Image.{padded}
use Rattle.collector.proofs.clock.free_place.Goals as goal

pub returns : goal.returns
unfolding padded
returns c = refl
