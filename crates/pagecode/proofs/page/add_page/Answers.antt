-- The loop fills the sum from the front: a turn sets its next octet, the old one plus the product.
use mathlib.Core.Path.{◌≡◌, refl, ap, ◌∙◌}
use mathlib.Core.List.{List}
use Prim.Native.Nat.{ℕ, ◌+◌, ◌-◌, ◌*◌}
use native.Mathlib.Omega.{arith}
use lib.ListN.{length, take, drop}
use borrow.Author.Rules.{rules}
use Rattle.pagecode.specs.Field.{◌⊕◌}
use Rattle.pagecode.proofs.Pieces.{piece, piece-length}
use Rattle.pagecode.proofs.Multiples.{more, more-next, more-done}
use Rattle.pagecode.proofs.page.add_page.Goals as goal

-- the part of the message that is a page
part : (m : List ℕ) (i : ℕ) → take (i * 53 + 53 - i * 53) (drop (i * 53) m) ≡ piece m i
part m i =
    let n : i * 53 + 53 - i * 53 ≡ 53 = omega arith in
    ap (λ (k : ℕ). take k (drop (i * 53) m)) n

pub loop-j-init : goal.loop-j-init
loop-j-init c = refl

pub loop-j-preserved : goal.loop-j-preserved
unfolding ◌⊕◌
loop-j-preserved c =
    let a = c.args in
    let l = c.loop-j in
    let m = a.message.now in
    let page = take (a.i * 53 + 53 - a.i * 53) (drop (a.i * 53) m) in
    let long : length page ≡ 53 = ap length (part m a.i) ∙ piece-length m a.i (search rules) in
    more-next a.sum page a.f (search rules) l.x-items l.j c.product.result (search rules) c.product.ensures l.invariant

pub returns : goal.returns
returns c =
    let a = c.args in
    let l = c.loop-j in
    let m = a.message.now in
    let page = take (a.i * 53 + 53 - a.i * 53) (drop (a.i * 53) m) in
    let long : length page ≡ 53 = ap length (part m a.i) ∙ piece-length m a.i (search rules) in
    more-done a.sum page a.f (search rules) l.x-items l.j (search rules) l.invariant ∙ ap (λ (b : List ℕ). more a.sum b a.f) (part m a.i)
