-- The loop's array is the content for the message's first i pages: a turn adds the next page times its entry.
use mathlib.Core.Path.{◌≡◌, ap, ◌∙◌}
use Prim.Native.Nat.{ℕ}
use native.Mathlib.Omega.{arith}
use borrow.Author.Rules.{rules}
use Rattle.pagecode.specs.Field.{Octets}
use Rattle.pagecode.specs.Page.{content}
use Rattle.pagecode.proofs.Content.{content-none, content-next}
use Rattle.pagecode.proofs.page.page_content.Goals as goal

pub loop-i-init : goal.loop-i-init
loop-i-init c =
    let a = c.args in
    let o : Octets a.message.now = λ i. (c.type_inv.message i).fits in
    record { is = content-none a.message.now o a.p; upto = search rules }

pub loop-i-preserved : goal.loop-i-preserved
loop-i-preserved c =
    let a = c.args in
    let o : Octets a.message.now = λ i. (c.type_inv.message i).fits in
    let row = c.matrix_row-row in
    let l = c.loop-i in
    record {
      is = c.add_page-d.ensures ∙ content-next a.message.now o a.p l.c row.result l.i (search rules) (search rules) l.invariant.is row.ensures;
      upto = search rules;
    }

pub returns : goal.returns
returns c =
    let a = c.args in
    let l = c.loop-i in
    let all : l.i ≡ a.k = omega arith in
    l.invariant.is ∙ ap (λ (i : ℕ). content i a.message.now a.p) all
