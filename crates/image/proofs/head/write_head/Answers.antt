-- After i turns the first i places are laid behind the time-out and the last second.
use mathlib.Core.List.{[]}
use mathlib.Core.Path.{◌≡◌}
use native.Mathlib.Omega.{arith}
use lib.ListN.{length}
use borrow.Author.Rules.{rules}
use Rattle.collector.specs.declared.state.PlaceState.TheVariants.{Free}
use Rattle.image.proofs.Parts.{put-none, put-more, head-laid}
use Rattle.image.proofs.head.write_head.Goals as goal

pub loop-i-init : goal.loop-i-init
loop-i-init c = (search rules, put-none _ _)

pub loop-i-preserved : goal.loop-i-preserved
loop-i-preserved c =
    let l = c.loop-i in
    let w = c.write_place in
    let eight : length c.args.head.now.places ≡ 8 = search rules in (
      l.invariant.0,
      put-more _ c.args.head.now.places l.i (record { state = Free; numbers = [] }) l.out _ (omega (arith, eight)) (omega (arith, l.invariant.0)) l.invariant.1 w.ensures.0 w.ensures.1,
    )

pub returns : goal.returns
returns c =
    let l = c.loop-i in
    let eight : length c.args.head.now.places ≡ 8 = search rules in
    head-laid c.args.out.now c.args.head.now _ _ _ l.i (search rules) eight (omega arith)
    c.put_word.ensures
    c.put_word-2.ensures
    l.invariant.1
