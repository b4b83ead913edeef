-- After i turns the first i numbers are laid over the zeros.
use mathlib.Core.Path.{◌≡◌, refl, sym, ap, ◌∙◌}
use native.Mathlib.Nat.{zero-add}
use lib.ListN.{get_or, set, length, take, replicate}
use borrow.Author.Rules.{rules}
use Rattle.lists.proofs.Laid.{laid-front, laid_none, laid_next, laid-all}
use Rattle.has_c.proofs.wide_numbers.Goals as goal

pub loop-i-init : goal.loop-i-init
loop-i-init c = (search rules, laid_none (replicate 32 0) 0 c.args.numbers.now)

pub loop-i-preserved : goal.loop-i-preserved
loop-i-preserved c =
    let l = c.loop-i in
    let same : c.from.result ≡ get_or c.args.numbers.now l.i 0 = search rules in
    (search rules, ap (set l.wide l.i) same ∙ laid_next 0 (replicate 32 0) 0 c.args.numbers.now l.wide l.i _ _ (sym (zero-add l.i)) refl (search rules) (search rules) l.invariant.1)

pub returns : goal.returns
returns c =
    let numbers = c.args.numbers.now in
    let l = c.loop-i in
    ap (take (length numbers)) (l.invariant.1 ∙ laid-all (replicate 32 0) 0 numbers l.i (search rules)) ∙ laid-front (replicate 32 0) numbers (length numbers) refl
