-- Each turn writes its place behind the noughts so far, and behind the others so far; it stays in the list that it belongs to.
use mathlib.Core.Path.{◌≡◌, refl, sym, ◌∙◌, subst}
use Prim.Native.Nat.{ℕ, ◌+◌, ◌-◌, ◌≤◌}
use native.Mathlib.Omega.{arith}
use lib.ListN.{length, get_or, set, length-set}
use Rattle.pagecode.specs.Reduction.{AreNoughts}
use Rattle.pagecode.proofs.Noughts.{nought-le, list-start, list_turn, others-turn}
use borrow.Author.Rules.{rules}
use Rattle.pagecode.proofs.missing.list_places.Goals as goal

pub loop-j-init : goal.loop-j-init
loop-j-init c = (search rules, refl, refl, search rules, list-start _ _, λ j h. absurd (omega arith))

pub overflow_add-count : goal.overflow_add-count
overflow_add-count c =
    let l = c.loop-j in
    let few = nought-le (get_or c.args.list.now l.j 0) in
    let is = c.nought-count.ensures in
    omega arith

pub loop-j-preserved : goal.loop-j-preserved
loop-j-preserved c =
    let a = c.args in
    let l = c.loop-j in
    let few : c.nought-count.result ≤ 1 = subst (λ (n : ℕ). n ≤ 1) (sym c.nought-count.ensures) (nought-le (get_or a.list.now l.j 0)) in (
      omega arith,
      length-set l.noughts l.count _ ∙ l.invariant.1,
      length-set l.others (l.j - l.count) _ ∙ l.invariant.2,
      omega arith,
      subst (λ (n : ℕ). AreNoughts a.list.now (l.j + 1) (set l.noughts l.count (l.j + 1)) (l.count + n)) (sym c.nought-count.ensures)
          (list_turn a.list.now l.noughts l.j l.count (l.j + 1) (omega arith) refl l.invariant.4),
      others-turn a.list.now l.others l.j l.count (l.j + 1) (omega arith) l.invariant.4.all refl l.invariant.5,
    )

pub returns : goal.returns
returns c =
    let a = c.args in
    let l = c.loop-j in
    let all : l.j ≡ length a.list.now = omega arith in
    (subst (λ (n : ℕ). AreNoughts a.list.now n l.noughts l.count) all l.invariant.4, λ j h. l.invariant.5 j (omega arith), omega arith)
