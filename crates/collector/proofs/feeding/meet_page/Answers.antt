-- The place's image tells its case: free cannot be, done stays, and of an open one its key, its count and its numbers.
-- The number is found at the index of the page that the model looks up, whose content stands at that index of the place's part of the store.
use mathlib.Core.Bool.{true, false}
use mathlib.Core.Path.{sym, ap, ◌∙◌}
use native.Mathlib.Omega.{arith}
use lib.ListN.{get_or}
use lib.Seq.{length-take-le}
use Rattle.refusal.specs.declared.Refusal.TheVariants.{Done, Repeat, Conflict}
use Rattle.collector.specs.Place.{free}
use Rattle.collector.specs.Feed.{key_of, held_of}
use Rattle.collector.specs.Steps.{settled_at}
use Rattle.collector.proofs.Meeting.{does_as, store_long, same_key_lem, done_at, open_at, seen_few, seen_there, refuses-at, found_lt, joining, arrive-done, arrive-new, arrive-again}
use Rattle.collector.proofs.feeding.meet_page.Goals as goal

pub slice_bounds-numbers-end : goal.slice_bounds-numbers-end
slice_bounds-numbers-end c = let q = c.requires in seen_there (open_at q.2.1 c.args.i q.0 c.in-Open.is)

pub slice_bounds-find_number-end : goal.slice_bounds-find_number-end
slice_bounds-find_number-end c =
    let q = c.requires in
    sym (length-take-le c.in-Open.count _ (seen_there (open_at q.2.1 c.args.i q.0 c.in-Open.is)))

pub keep_page-requires : goal.keep_page-requires
keep_page-requires c =
    let a = c.args in
    let q = c.requires in
    let w = open_at q.2.1 a.i q.0 c.in-Open.is in
    (q.2.0, w.of, w.pages, joining a.page.now c.fits-page c.told-page q.1 q.2.1 a.i q.0 q.2.2 w c.in_default.ensures)

pub returns-in_default : goal.returns-in_default
returns-in_default c =
    λ m s t.
    let a = c.args in
    let q = c.requires in
    let w = open_at s a.i q.0 c.in-Open.is in
    let same = same_key_lem q.2.1 s a.i q.0 (key_of a.page.now) q.2.2 in
    does_as
    (ap (settled_at m a.i) (arrive-new a.page.now c.fits-page c.told-page q.1 s a.i q.0 same w t c.in_default.ensures))
    (c.keep_page.ensures m w.of w.pages (joining a.page.now c.fits-page c.told-page q.1 s a.i q.0 same w c.in_default.ensures))

pub is_same_content-requires : goal.is_same_content-requires
is_same_content-requires c =
    let a = c.args in
    let q = c.requires in
    let w = open_at q.2.1 a.i q.0 c.in-Open.is in
    (store_long q.2.1, omega (arith, found_lt a.page.now c.fits-page c.told-page q.1 q.2.1 a.i q.0 q.2.2 w c.in-Some.j c.in-Some.ensures, seen_few w, q.0))

pub returns-then-is_same_content : goal.returns-then-is_same_content
returns-then-is_same_content c =
    λ m s t.
    let a = c.args in
    let q = c.requires in
    let w = open_at s a.i q.0 c.in-Open.is in
    let same = same_key_lem q.2.1 s a.i q.0 (key_of a.page.now) q.2.2 in
    refuses-at s Repeat a.out.now a.i _
    (arrive-again a.page.now c.fits-page c.told-page q.1 s a.i q.0 same w t c.in-Some.j true c.in-Some.ensures (sym c.if-is_same_content.true ∙ c.is_same_content.ensures))

pub returns-in-Done : goal.returns-in-Done
returns-in-Done c =
    λ m s t.
    let a = c.args in
    let q = c.requires in
    let w = done_at s a.i q.0 c.in-Done.is in
    refuses-at s Done a.out.now a.i _ (arrive-done (get_or m.places a.i free) (key_of a.page.now) t (held_of a.page.now) w.1)

pub returns-else-is_same_content : goal.returns-else-is_same_content
returns-else-is_same_content c =
    λ m s t.
    let a = c.args in
    let q = c.requires in
    let w = open_at s a.i q.0 c.in-Open.is in
    let same = same_key_lem q.2.1 s a.i q.0 (key_of a.page.now) q.2.2 in
    refuses-at s Conflict a.out.now a.i _
    (arrive-again a.page.now c.fits-page c.told-page q.1 s a.i q.0 same w t c.in-Some.j false c.in-Some.ensures (sym c.if-is_same_content.false ∙ c.is_same_content.ensures))
