-- The cell mask tells whether the cell is there; its number is how many came, so its record is the next.
use mathlib.Core.Bool.{true, false}
use mathlib.Core.Path.{refl, sym, ◌∙◌}
use native.Mathlib.Nat.{add-zero}
use native.Mathlib.Omega.{arith}
use Rattle.mt1.specs.Records.{cell_record}
use Rattle.mt1.proofs.Counts.{length-cell}
use Rattle.reader.proofs.Emitting.{wrote_none, wrote_record}
use Rattle.reader.proofs.Turns.{signal-told, signal-few, cell-few, cell-told, cell-lt, number-few, cell-turn}
use Rattle.reader.proofs.record.SystemRecords.emit_cell.Goals as goal

pub returns-then-not-bit_at : goal.returns-then-not-bit_at
returns-then-not-bit_at c =
    let a = c.args in
    λ m s e r w. cell-turn e r w c.requires.0 false false (signal-told e r w c.requires.0 false (sym c.if-not-bit_at.true ∙ c.bit_at.ensures)) refl
    a.c a.out.now _ (sym (add-zero a.c.signal)) (sym (add-zero a.c.cell)) (wrote_none a.c.octet a.out.now)

pub overflow_mul-n : goal.overflow_mul-n
overflow_mul-n c =
    omega (arith, cell-few c.requires.3.2 c.requires.3.3 c.requires.3.4 c.requires.0 (sym c.if-not-bit_at.false ∙ c.bit_at.ensures))

pub overflow_add-n : goal.overflow_add-n
overflow_add-n c =
    omega (arith, cell-few c.requires.3.2 c.requires.3.3 c.requires.3.4 c.requires.0 (sym c.if-not-bit_at.false ∙ c.bit_at.ensures))

pub is_cell-requires : goal.is_cell-requires
is_cell-requires c =
    let e = c.requires.3.2 in
    (e.near, cell-few e c.requires.3.3 c.requires.3.4 c.requires.0 (sym c.if-not-bit_at.false ∙ c.bit_at.ensures))

pub cell_record-r-requires : goal.cell_record-r-requires
cell_record-r-requires c =
    let e = c.requires.3.2 in
    let r = c.requires.3.3 in
    let w = c.requires.3.4 in
    let on = sym c.if-not-bit_at.false ∙ c.bit_at.ensures in
    (e.rows-near, number-few e r w c.requires.0 on (cell-told e r w c.requires.0 on true (λ s st h. sym c.if-is_cell.true ∙ c.is_cell.ensures s st h)))

pub overflow_add-result : goal.overflow_add-result
overflow_add-result c =
    omega (arith, signal-few c.requires.3.2 c.requires.3.3 c.requires.3.4 c.requires.0)

pub overflow_add-result-then-is_cell : goal.overflow_add-result-then-is_cell
overflow_add-result-then-is_cell c =
    let e = c.requires.3.2 in
    let r = c.requires.3.3 in
    let w = c.requires.3.4 in
    let on = sym c.if-not-bit_at.false ∙ c.bit_at.ensures in
    omega (arith, number-few e r w c.requires.0 on (cell-told e r w c.requires.0 on true (λ s st h. sym c.if-is_cell.true ∙ c.is_cell.ensures s st h)))

pub returns-then-is_cell : goal.returns-then-is_cell
returns-then-is_cell c =
    let a = c.args in
    let on = sym c.if-not-bit_at.false ∙ c.bit_at.ensures in
    λ m s e r w.
    let h = c.requires.0 in
    let cell = cell-told e r w h on true (λ s st h. sym c.if-is_cell.true ∙ c.is_cell.ensures s st h) in
    cell-turn e r w h true true (signal-told e r w h true on) cell _ a.out.now _ refl refl
    (wrote_record (cell_record m a.self.now.p a.i a.g a.c.cell) (length-cell m a.self.now.p a.i a.g a.c.cell)
    (c.cell_record-r.ensures m s e.rows-stand (cell-lt e r w h on cell)) c.store.ensures)

pub overflow_add-result-2 : goal.overflow_add-result-2
overflow_add-result-2 c =
    omega (arith, signal-few c.requires.3.2 c.requires.3.3 c.requires.3.4 c.requires.0)

pub returns : goal.returns
returns c =
    let a = c.args in
    let on = sym c.if-not-bit_at.false ∙ c.bit_at.ensures in
    λ m s e r w.
    let h = c.requires.0 in
    let cell = cell-told e r w h on false (λ s st h. sym c.if-is_cell.false ∙ c.is_cell.ensures s st h) in
    cell-turn e r w h true false (signal-told e r w h true on) cell _ a.out.now _ refl (sym (add-zero a.c.cell)) (wrote_none a.c.octet a.out.now)
