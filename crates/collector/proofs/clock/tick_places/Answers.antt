-- After i turns the first i places are expired, whatever places are held.
use mathlib.Core.Path.{subst}
use mathlib.Core.List.{List}
use Rattle.collector.specs.Place.{Place}
use Rattle.collector.specs.Steps.{Hold}
use Rattle.collector.proofs.Expiry.{expire_first, first_next}
use Rattle.collector.proofs.clock.tick_places.Goals as goal

pub loop-i-preserved : goal.loop-i-preserved
loop-i-preserved c =
    let a = c.args in
    let l = c.loop-i in
    let e = c.expire_place in
    λ ps h. subst (λ (qs : List Place). Hold qs e.new.places e.new.store) (first_next a.timeout a.second l.i ps)
    (e.ensures (expire_first a.timeout a.second l.i ps) (l.invariant ps h))
