-- Each turn lays one page more.
use mathlib.Core.Path.{◌≡◌, subst}
use Prim.Native.Nat.{ℕ}
use lib.ListN.{length}
use native.Mathlib.Omega.{arith}
use Rattle.pagecode.specs.Reduction.{PageLaid, PagesLaid}
use Rattle.pagecode.proofs.LaidPages.{pages-start, pages-turn}
use borrow.Author.Rules.{rules}
use Rattle.pagecode.proofs.laying.lay_pages.Goals as goal

pub loop-i-init : goal.loop-i-init
loop-i-init c = (search rules, pages-start _ _ _)

pub lay_page-requires : goal.lay_page-requires
lay_page-requires c =
    let l = c.loop-i in
    (omega arith, rw c.from.ensures (c.requires.2.most l.i (omega arith)), omega arith)

pub loop-i-preserved : goal.loop-i-preserved
loop-i-preserved c =
    let a = c.args in
    let l = c.loop-i in (
      omega arith,
      pages-turn (length a.to.now) l.i a.source.now a.to.now a.out.now l.out c.lay_page.new.out (omega arith) c.requires.2 (subst (λ (p : ℕ). PageLaid a.source.now l.i p l.out c.lay_page.new.out) c.from.ensures c.lay_page.ensures) l.invariant.1,
    )

pub returns : goal.returns
returns c =
    let a = c.args in
    let l = c.loop-i in
    let all : l.i ≡ length a.to.now = omega arith in
    subst (λ (i : ℕ). PagesLaid i a.source.now a.to.now a.out.now l.out) all l.invariant.1
