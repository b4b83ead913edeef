-- Eight free places, and zeros.
use mathlib.Core.Path.{refl}
use Rattle.collector.proofs.Starts.{fresh-image}
use Rattle.collector.proofs.starting.fresh_collector.Goals as goal

pub returns : goal.returns
returns c = fresh-image c.args.timeout c.free_places.result _ c.free_places.ensures refl
