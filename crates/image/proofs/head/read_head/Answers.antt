-- Two numbers, and the places behind them.
use mathlib.Core.Path.{◌≡◌, refl, ap, ◌∙◌}
use lib.ListN.{length}
use borrow.Author.Rules.{rules}
use Rattle.image.specs.Reading.{word_at}
use Rattle.image.proofs.Standing.{behind-head}
use Rattle.image.proofs.head.read_head.Goals as goal

pub returns : goal.returns
returns c =
    let s = c.args.octets.now in
    let long : length s ≡ 336 = search rules in
    let last = c.read_word-2.ensures ∙ ap word_at (behind-head 4 s long) in
    rw (c.read_word.ensures, last, c.read_places.ensures) refl
