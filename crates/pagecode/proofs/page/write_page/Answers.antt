-- The loop copies the content behind the header's three octets. The buffer has 56 octets, so nothing of what it held is left.
use mathlib.Core.Path.{◌≡◌, ap, ◌∙◌}
use native.Mathlib.Omega.{arith}
use borrow.Author.Rules.{rules}
use lib.ListN.{length-set}
use lib.Seq.{paste, paste-zero}
use Rattle.pagecode.proofs.Content.{copy-next, headed, page-written}
use Rattle.pagecode.proofs.page.write_page.Goals as goal

pub loop-j-init : goal.loop-j-init
loop-j-init c = record { is = paste-zero _ 3 c.args.content; upto = search rules; long = simp length-set (search rules) }

pub loop-j-preserved : goal.loop-j-preserved
loop-j-preserved c =
    let a = c.args in
    let l = c.loop-j in
    record {
      is = copy-next (headed a.status a.number a.k a.page a.out.now) a.content l.out 3 l.j (simp length-set (search rules)) (search rules) l.invariant.is;
      upto = search rules;
      long = simp length-set l.invariant.long;
    }

pub returns : goal.returns
returns c =
    let a = c.args in
    let l = c.loop-j in
    let all : l.j ≡ 53 = omega arith in
    l.invariant.is ∙ ap (paste (headed a.status a.number a.k a.page a.out.now) 3 a.content) all
    ∙ page-written a.status a.number a.k a.page (search rules) (search rules) (search rules) (search rules) (search rules) a.out.now a.content (search rules) (search rules)
