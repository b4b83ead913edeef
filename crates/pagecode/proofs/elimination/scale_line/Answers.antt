-- The line becomes the multiple: 0 times a line is 0, and else each turn sets one element of it.
use mathlib.Core.Path.{◌≡◌, sym, ap, ◌∙◌}
use Prim.Native.Nat.{ℕ}
use lib.ListN.{length, get_or, replicate}
use borrow.Author.Rules.{rules}
use Rattle.pagecode.specs.Code.{scale}
use Rattle.pagecode.proofs.Laws.{⊗-comm}
use Rattle.pagecode.proofs.Lines.{scale-none, scale-next, scale-done}
use Rattle.pagecode.proofs.elimination.scale_line.Goals as goal

pub returns-then-f-eq0 : goal.returns-then-f-eq0
returns-then-f-eq0 c =
    let a = c.args in
    let long : length a.a ≡ 96 = search rules in
    sym (ap (λ (f : ℕ). scale f a.a) c.if-f-eq0.true ∙ scale-none a.a ∙ ap (λ (n : ℕ). replicate n 0) long)

pub loop-x-preserved : goal.loop-x-preserved
loop-x-preserved c =
    let f = c.args.f in
    let l = c.loop-x in
    scale-next f c.args.a l.x-items l.x-index c.product.result (search rules) (c.product.ensures ∙ ⊗-comm (get_or l.x-items l.x-index 0) f) l.invariant

pub returns : goal.returns
returns c = scale-done c.args.f c.args.a c.loop-x.x-items c.loop-x.x-index (search rules) c.loop-x.invariant
