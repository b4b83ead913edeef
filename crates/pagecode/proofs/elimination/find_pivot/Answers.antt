-- The first row with an entry is found: the rows that were passed have none, and a row from q on has one.
use mathlib.Core.Path.{sym, ◌∙◌}
use mathlib.Core.List.{[]}
use native.Mathlib.Omega.{arith}
use borrow.Author.Rules.{rules}
use Rattle.pagecode.specs.System.{cell}
use Rattle.pagecode.proofs.Cells.{cell-low}
use Rattle.pagecode.proofs.Steps.{seek-next, seek_found}
use Rattle.pagecode.proofs.elimination.find_pivot.Goals as goal

pub returns-then-square-r-ne0 : goal.returns-then-square-r-ne0
returns-then-square-r-ne0 c =
    let a = c.args in
    let r = c.loop-r.r in
    seek_found a.k a.q r (cell a.square []) (search rules) (λ z. c.if-square-r-ne0.true (sym (cell-low a.square [] r a.q (omega arith)) ∙ z)) c.loop-r.invariant

pub loop-r-preserved : goal.loop-r-preserved
loop-r-preserved c =
    let a = c.args in
    let r = c.loop-r.r in
    seek-next a.k a.q r (cell a.square []) (search rules) (cell-low a.square [] r a.q (omega arith) ∙ c.if-square-r-ne0.false) c.loop-r.invariant
