-- The table has the multiples: each turn adds two, twice a multiple that is there and the line more.
use mathlib.Core.Path.{◌≡◌, sym, ap, ◌∙◌}
use Prim.Native.Nat.{ℕ}
use lib.ListN.{length, replicate}
use borrow.Author.Rules.{rules, elem_Fits}
use mir.Syntax.{w8}
use Rattle.pagecode.proofs.Lines.{scale-none, filling-start, filling-next}
use Rattle.pagecode.proofs.elimination.fill_table.Goals as goal

pub loop-v-init : goal.loop-v-init
loop-v-init c =
    let a = c.args.a in
    let long : length a ≡ 96 = search rules in
    filling-start a c.args.table.now (λ i. (elem_Fits w8 w8 a _ i c.well_formed.1.0.1.1 tt).fits) (search rules) (replicate 96 0) (sym (scale-none a ∙ ap (λ (n : ℕ). replicate n 0) long))

pub loop-v-preserved : goal.loop-v-preserved
loop-v-preserved c =
    let a = c.args.a in
    let l = c.loop-v in
    filling-next a l.table (λ i. (elem_Fits w8 w8 a _ i c.well_formed.1.0.1.1 tt).fits) l.v c.double_line-even.result c.sum_lines.result (search rules) c.double_line-even.ensures c.sum_lines.ensures l.invariant
