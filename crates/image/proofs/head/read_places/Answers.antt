-- After i turns the first i places are laid over the free ones.
use mathlib.Core.List.{[]}
use mathlib.Core.Path.{◌≡◌, sym, ap, ◌∙◌}
use Prim.Native.Nat.{◌+◌, ◌*◌}
use native.Mathlib.Nat.{zero-add}
use native.Mathlib.Omega.{arith}
use lib.ListN.{length, drop}
use lib.Seq.{drop-drop}
use borrow.Author.Rules.{rules}
use Rattle.collector.specs.declared.state.PlaceState.TheVariants.{Free}
use Rattle.collector.specs.declared.state.Place.{Place}
use Rattle.lists.proofs.Laid.{laid_none, laid_next, laid-all, laid-over}
use Rattle.image.specs.Reading.{place_at, head_at}
use Rattle.image.proofs.Standing.{behind-head, place_at_lem, places-length}
use Rattle.image.proofs.head.read_places.Goals as goal

abbrev none : Place
none = record { state = Free; numbers = [] }

pub loop-i-init : goal.loop-i-init
loop-i-init c = (ap length c.free_places-places.ensures, laid_none _ 0 (head_at c.args.octets.now).places)

pub loop-i-preserved : goal.loop-i-preserved
loop-i-preserved c =
    let s = c.args.octets.now in
    let l = c.loop-i in
    let long : length s ≡ 336 = search rules in
    let here = c.read_place.ensures ∙ ap place_at (behind-head (8 + 41 * l.i) s long ∙ sym (drop-drop (41 * l.i) 8 s)) ∙ sym (place_at_lem 8 (drop 8 s) l.i none (search rules)) in
    let many = places-length 8 (drop 8 s) in
    (l.invariant.0, laid_next none _ 0 (head_at s).places l.place-items l.i _ _ (sym (zero-add l.i)) here (search rules) (omega (arith, many)) l.invariant.1)

pub returns : goal.returns
returns c =
    let s = c.args.octets.now in
    let l = c.loop-i in
    let many = places-length 8 (drop 8 s) in
    l.invariant.1 ∙ laid-all _ 0 (head_at s).places l.i (omega (arith, many)) ∙ laid-over _ (head_at s).places (omega (arith, many, l.invariant.0))
