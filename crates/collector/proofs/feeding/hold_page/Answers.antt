-- The searches find the index at which the model's `hold` works; the callee does there what `hold` says.
use mathlib.Core.List.{[]}
use mathlib.Core.Path.{sym, ◌∙◌}
use native.Mathlib.Omega.{arith}
use Rattle.refusal.specs.declared.Refusal.TheVariants.{Full}
use Rattle.collector.specs.Place.{has_key}
use Rattle.collector.specs.Feed.{key_of, held_of}
use Rattle.collector.proofs.Images.{padded-none}
use Rattle.collector.proofs.Search.{at-some}
use Rattle.collector.proofs.Meeting.{does_as, met, hold-met, hold-new, hold-none, key-first, free-first, refuses, opening}
use Rattle.collector.proofs.feeding.hold_page.Goals as goal

pub meet_page-requires : goal.meet_page-requires
meet_page-requires c =
    let a = c.args in
    let q = c.requires in
    let m = q.2 in
    let e = c.in-Some.ensures ∙ key-first m.1 a.key (key_of a.page.now) q.0 in
    let within = (at-some (has_key (key_of a.page.now)) m.0.places c.in-Some.i e).1 in
    (omega (arith, within, m.1.valid.eight), q.1, (m.0, m.1, met (key_of a.page.now) m.0.places c.in-Some.i e))

pub returns-in-Some : goal.returns-in-Some
returns-in-Some c =
    λ m s.
    let a = c.args in
    does_as (hold-met m a.second (key_of a.page.now) (held_of a.page.now) c.in-Some.i (c.in-Some.ensures ∙ key-first s a.key (key_of a.page.now) c.requires.0))
    (c.meet_page.ensures m s a.second)

pub returns-in_default-lowest_free : goal.returns-in_default-lowest_free
returns-in_default-lowest_free c =
    λ m s.
    let a = c.args in
    does_as
    (hold-none m a.second (key_of a.page.now) (held_of a.page.now) (c.in_default.ensures ∙ key-first s a.key (key_of a.page.now) c.requires.0) (c.in_default-lowest_free.ensures ∙ free-first s))
    (refuses s Full a.out.now)

pub keep_page-requires : goal.keep_page-requires
keep_page-requires c =
    let a = c.args in
    let q = c.requires in
    let m = q.2 in
    (m.0, key_of a.page.now, [], opening a.page.now c.fits-page c.told-page q.1 m.1 c.in-Some-lowest_free.j a.key a.second _ (c.in-Some-lowest_free.ensures ∙ free-first m.1) q.0 (sym (padded-none 32)))

pub returns : goal.returns
returns c =
    λ m s.
    let a = c.args in
    let q = c.requires in
    let free-at = c.in-Some-lowest_free.ensures ∙ free-first s in
    does_as
    (hold-new m a.second (key_of a.page.now) (held_of a.page.now) (c.in_default.ensures ∙ key-first s a.key (key_of a.page.now) q.0) c.in-Some-lowest_free.j free-at)
    (c.keep_page.ensures m (key_of a.page.now) [] (opening a.page.now c.fits-page c.told-page q.1 s c.in-Some-lowest_free.j a.key a.second _ free-at q.0 (sym (padded-none 32))))
