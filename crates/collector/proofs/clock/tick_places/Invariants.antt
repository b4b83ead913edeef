-- After i turns the first i places are expired, whatever places are held.
use mathlib.Core.List.{List}
use Rattle.collector.specs.Place.{Place}
use Rattle.collector.specs.Steps.{Hold}
use Rattle.collector.proofs.Expiry.{expire_first}
use Rattle.collector.proofs.clock.tick_places.Given as goal

abbrev pub invariant-loop-i : goal.invariant-loop-i
invariant-loop-i l = (ps : List Place) → Hold ps l.initial.places l.initial.store → Hold (expire_first l.timeout l.second l.i ps) l.places l.store
