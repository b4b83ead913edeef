-- Each turn adds one page.
use mathlib.Core.Path.{◌≡◌, subst}
use Prim.Native.Nat.{ℕ}
use lib.ListN.{length}
use native.Mathlib.Omega.{arith}
use Rattle.pagecode.specs.Reduction.{KnownAdded}
use Rattle.pagecode.proofs.Reducing.{known_start, known-turn}
use borrow.Author.Rules.{rules}
use Rattle.pagecode.proofs.reduction.add_known.Goals as goal

pub loop-place-init : goal.loop-place-init
loop-place-init c =
    let a = c.args in
    (search rules, known_start a.known.now a.row a.message.now a.start)

pub loop-place-preserved : goal.loop-place-preserved
loop-place-preserved c =
    let a = c.args in
    let l = c.loop-place in
    (omega arith, known-turn a.known.now a.row a.message.now a.start l.s c.add_page-next.result l.place-index (rw c.from-j.ensures at c.add_page-next.ensures) l.invariant.1)

pub returns : goal.returns
returns c =
    let a = c.args in
    let l = c.loop-place in
    let all : l.place-index ≡ length a.known.now = omega arith in
    subst (λ (n : ℕ). KnownAdded n a.known.now a.row a.message.now a.start l.s) all l.invariant.1
