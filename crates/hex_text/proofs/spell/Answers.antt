-- After i turns the digits of the first i octets stand at the start of the text.
-- Each turn sets the two digits behind those that stand there.
use mathlib.Core.Path.{refl}
use Rattle.std.proofs.lemmas.List.{get_or-take}
use borrow.Author.Rules.{rules}
use Rattle.hex_text.proofs.Spelling.{start, turn, done}
use Rattle.hex_text.proofs.spell.Goals as goal

pub loop-i-init : goal.loop-i-init
loop-i-init c = (refl, start c.args.octets.now c.args.text.now)

pub loop-i-preserved : goal.loop-i-preserved
loop-i-preserved c =
    let l = c.loop-i in
    let a = c.args in (
      search rules,
      turn a.octets.now a.text.now l.text l.i (search rules) l.invariant.1 _ _ _ (get_or-take c.min-count.result a.octets.now l.i 0 (search rules)) c.digit.ensures c.digit-in-loop-i.ensures (search rules) (search rules),
    )

pub returns-clause-spelt : goal.returns-clause-spelt
returns-clause-spelt c = done c.args.octets.now c.args.text.now c.loop-i.text c.min-count.result (search rules) (search rules)
