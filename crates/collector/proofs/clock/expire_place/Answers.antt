-- A place that is not over stays as it is; one that is over becomes free, and its part of the store zeros.
use mathlib.Core.Path.{sym, ◌∙◌}
use borrow.Author.Rules.{rules}
use Rattle.collector.proofs.Expiry.{held-length, place-freed}
use Rattle.collector.proofs.clock.expire_place.Goals as goal

pub clear_place-requires : goal.clear_place-requires
clear_place-requires c =
    (held-length c.args.places.now c.args.store.now c.requires.1, c.requires.0)

pub returns-then-is_place_over : goal.returns-then-is_place_over
returns-then-is_place_over c =
    let a = c.args in
    λ ps h. place-freed a.timeout a.second ps a.places.now a.store.now a.i _ h (search rules) c.free_place.result c.clear_place.new.store
    (sym c.is_place_over.ensures ∙ c.if-is_place_over.true) c.free_place.ensures c.clear_place.ensures
