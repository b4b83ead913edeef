-- The page's content is laid behind the contents of its place, and its number behind their numbers: KEPT, or it is the last one and the place is finished.
use mathlib.Core.List.{[], ◌∷◌, ◌++◌}
use mathlib.Core.Path.{sym, ◌∙◌}
use borrow.Author.Rules.{rules}
use Rattle.collector.specs.Feed.{held_of}
use Rattle.collector.proofs.Pages.{keeping-length, keeping-last, kept-page, ready-page}
use Rattle.collector.proofs.keeping.keep_page.Goals as goal

pub put_content-requires : goal.put_content-requires
put_content-requires c = let t = c.requires.3 in (keeping-length t, search rules)

pub finish_place-requires : goal.finish_place-requires
finish_place-requires c =
    let p = c.requires in
    (p.0, p.1, p.2 ++ (held_of c.args.page.now ∷ []), keeping-last p.3 c.fits-page c.put_content.ensures (c.if-more-from.true ∙ c.from.ensures))

pub returns-then-more-from : goal.returns-then-more-from
returns-then-more-from c =
    let last = c.if-more-from.true ∙ c.from.ensures in
    λ m k pages t. ready-page t last
    (c.finish_place.ensures m k (pages ++ (held_of c.args.page.now ∷ [])) (keeping-last t c.fits-page c.put_content.ensures last))

pub returns : goal.returns
returns c =
    λ m k pages t. kept-page t c.fits-page c.put_content.ensures (λ e. c.if-more-from.false (e ∙ sym c.from.ensures))
