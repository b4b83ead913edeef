-- The exits in the order of the fields: the cell mask, the navigation message. The cells are counted, or all.
use mathlib.Core.Bool.{Bool, cond}
use mathlib.Core.Path.{◌≡◌, sym, ap, ◌∙◌}
use Prim.Native.Nat.{ℕ, ◌+◌, ◌*◌, ◌≤◌}
use native.Mathlib.Nat.{mul-le-mul}
use native.Mathlib.Omega.{arith}
use lib.ListN.{take, drop}
use borrow.Author.Rules.{rules}
use borrow.Author.Tests.{eq-eqb, ne_eqb}
use Rattle.std.specs.Prelude.{Err}
use Rattle.bits.specs.Bits.{bits_of}
use Rattle.mt1.specs.Parse.{raw, field}
use Rattle.mt1.specs.Message.{count}
use Rattle.reader.proofs.Fields.{handed, field-ends, field-got, field-bad, step-bad, skipped}
use Rattle.reader.proofs.Ones.{ones}
use Rattle.reader.proofs.SystemSteps.{cells-few, cells-bad, navigation-bad, navigation-wrong, system-made}
use Rattle.reader.proofs.mask.end_system.Goals as goal
use Rattle.reader.proofs.mask.end_system.Goals.{then-flag, else-flag}
use Rattle.reader.proofs.mask.end_system.Goals.{After-cell_bits-masked}

few : (b : After-cell_bits-masked) → b.cell_bits-masked.result ≤ 640
few b =
    let q = b.requires in
    cells-few b.args.flag b.cell_bits-masked.ensures q.1 q.2

pub overflow_mul-all : goal.overflow_mul-all
overflow_mul-all c = let q = c.requires in let h = mul-le-mul q.1 q.2 in search rules

pub skip-requires : goal.skip-requires
skip-requires c = (search rules, omega (arith, few c))

pub returns-in_err-at : goal.returns-in_err-at
returns-in_err-at c =
    λ x y f s g w.
    let a = c.args in
    let bs = bits_of a.octets.now in
    let n = c.cell_bits-masked in
    handed _ c.from_residual.ensures.1 ∙ cells-bad a.id f a.place bs x y s g w n.ensures (step-bad (raw n.result bs (a.place + 57)) c.in_err-at.ensures)

pub returns-in_err-navigation : goal.returns-in_err-navigation
returns-in_err-navigation c =
    λ x y f s g w.
    let a = c.args in
    let bs = bits_of a.octets.now in
    handed _ c.from_residual-in_err-navigation.ensures.1 ∙ navigation-bad a.id f a.place bs x y s g w c.cell_bits-masked.ensures (skipped c.cell_bits-masked.result bs (a.place + 57) c.in_ok-at.ensures)
    (field-bad (field 3 bs c.in_ok-at.at) c.in_err-navigation.ensures)

pub returns-then-navigation-ne0 : goal.returns-then-navigation-ne0
returns-then-navigation-ne0 c =
    λ x y f s g w.
    let a = c.args in
    let bs = bits_of a.octets.now in
    let m = c.in_ok-at.at in
    ap Err c.refuse.ensures
    ∙ navigation-wrong a.id f a.place bs x y s g w c.cell_bits-masked.ensures (skipped c.cell_bits-masked.result bs (a.place + 57) c.in_ok-at.ensures)
    (field-got (field 3 bs m) (field-ends 3 bs m) c.in_ok-navigation.ensures) (ne_eqb _ 0 c.if-navigation-ne0.true)

pub count_bits-cells-requires : goal.count_bits-cells-requires
count_bits-cells-requires c =
    (search rules, omega (arith, few (goal.at.count_bits-cells-requires c).After-cell_bits-masked))

pub overflow_add-result : goal.overflow_add-result
overflow_add-result c =
    omega (arith, (skipped c.cell_bits-masked.result (bits_of c.args.octets.now) (c.args.place + 57) c.in_ok-at.ensures).0, few (goal.at.overflow_add-result c).After-cell_bits-masked, c.requires.0)

pub returns : goal.returns
returns c =
    λ x y f s g w.
    let a = c.args in
    let bs = bits_of a.octets.now in
    let m = c.in_ok-at.at in
    let chosen : Bool → ℕ = λ t. cond t (count (take c.cell_bits-masked.result (drop (a.place + 57) bs))) (a.satellites * a.signals) in
    let cells : c.if-flag.cells ≡ chosen a.flag = elim c.if-flag.branch [
      | then-flag v ↦ v.cells-is ∙ v.count_bits-cells.ensures ∙ ones bs (a.place + 57) c.cell_bits-masked.result ∙ sym (ap chosen v.if-flag.true)
      | else-flag v ↦ v.cells-is ∙ sym (ap chosen v.if-flag.false)
    ] in
    system-made a.id f a.place bs x y s g w c.cell_bits-masked.ensures (skipped c.cell_bits-masked.result bs (a.place + 57) c.in_ok-at.ensures)
    (field-got (field 3 bs m) (field-ends 3 bs m) c.in_ok-navigation.ensures) (eq-eqb _ 0 c.if-navigation-ne0.false) cells
