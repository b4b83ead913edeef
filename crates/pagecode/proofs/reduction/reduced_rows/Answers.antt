-- Each turn makes one row.
use mathlib.Core.List.{List, []}
use mathlib.Core.Path.{◌≡◌, refl, ◌∙◌, subst}
use Prim.Native.Nat.{ℕ}
use native.Mathlib.Omega.{arith}
use lib.ListN.{length, take, length-set}
use lib.Seq.{get_or-take}
use Rattle.std.proofs.lemmas.List.{length-take-le}
use Rattle.pagecode.specs.Reduction.{ReducedRow}
use Rattle.pagecode.proofs.Reducing.{rows_turn}
use borrow.Author.Rules.{rules}
use Rattle.pagecode.proofs.reduction.reduced_rows.Goals as goal

pub loop-a-init : goal.loop-a-init
loop-a-init c = (search rules, refl, λ b l. absurd (omega arith))

pub loop-a-preserved : goal.loop-a-preserved
loop-a-preserved c =
    let a = c.args in
    let l = c.loop-a in
    let long : length (take (length a.missing.now) a.rows) ≡ length a.missing.now = length-take-le (length a.missing.now) a.rows (omega arith) in (
      omega arith,
      length-set l.square l.a _ ∙ l.invariant.1,
      rows_turn (length a.missing.now) l.a a.missing.now c.reduced_row.result a.rows l.square (omega (arith, l.invariant.1))
          (subst (λ (row : List ℕ). ReducedRow (length a.missing.now) a.missing.now row c.reduced_row.result) (get_or-take (length a.missing.now) a.rows l.a [] (omega arith)) c.reduced_row.ensures) l.invariant.2,
    )

pub returns : goal.returns
returns c =
    λ a h.
    let long : length (take (length c.args.missing.now) c.args.rows) ≡ length c.args.missing.now = length-take-le (length c.args.missing.now) c.args.rows (omega arith) in
    c.loop-a.invariant.2 a (omega arith)
