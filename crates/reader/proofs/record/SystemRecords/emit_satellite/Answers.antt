-- A masked satellite's record is that of its number; its cells are written behind it, and the cursor counts one satellite more.
use mathlib.Core.Path.{sym, ◌∙◌}
use native.Mathlib.Omega.{arith}
use borrow.Author.Rules.{rules}
use Rattle.mt1.specs.Records.{satellite_record}
use Rattle.mt1.proofs.Counts.{length-satellite}
use Rattle.reader.proofs.RowValues.{within-more}
use Rattle.reader.proofs.Emitting.{wrote_record}
use Rattle.reader.proofs.Turns.{satellite-off, satellites-are, satellites-most, chosen_is, chosen-le, cell-is, row-of, satellite-lt, chosen-few, satellite-turn}
use Rattle.reader.proofs.record.SystemRecords.emit_satellite.Goals as goal

pub returns-then-not-bit_at : goal.returns-then-not-bit_at
returns-then-not-bit_at c =
    λ m s e w. satellite-off e w c.requires.0 c.args.out.now (sym c.if-not-bit_at.true ∙ c.bit_at.ensures)

pub satellite_record-r-requires : goal.satellite_record-r-requires
satellite_record-r-requires c =
    let e = c.requires.3.2 in
    let w = c.requires.3.3 in
    (e.rows-near, satellites-most e w c.requires.0, satellite-lt e w c.requires.0 (sym c.if-not-bit_at.false ∙ c.bit_at.ensures), chosen-le e w c.requires.0)

pub emit_cells-d-requires : goal.emit_cells-d-requires
emit_cells-d-requires c =
    let e = c.requires.3.2 in
    let w = c.requires.3.3 in
    let on = sym c.if-not-bit_at.false ∙ c.bit_at.ensures in
    (search rules, search rules, (c.requires.3.0, c.requires.3.1, e, row-of e w c.requires.0 on, cell-is e w c.requires.0))

pub chosen_at-more-requires : goal.chosen_at-more-requires
chosen_at-more-requires c =
    let e = c.requires.3.2 in
    let w = c.requires.3.3 in
    let lt = satellite-lt e w c.requires.0 (sym c.if-not-bit_at.false ∙ c.bit_at.ensures) in
    (within-more c.args.self.now.rows.part 163840 200000 e.rows-near.part (omega arith), omega (arith, lt, satellites-most e w c.requires.0))

pub overflow_add-result : goal.overflow_add-result
overflow_add-result c =
    let e = c.requires.3.2 in
    let w = c.requires.3.3 in
    omega (arith, satellite-lt e w c.requires.0 (sym c.if-not-bit_at.false ∙ c.bit_at.ensures), satellites-most e w c.requires.0)

pub overflow_add-result-2 : goal.overflow_add-result-2
overflow_add-result-2 c =
    let e = c.requires.3.2 in
    let w = c.requires.3.3 in
    let x = c.chosen_at-more in
    omega (arith, chosen-few e w c.requires.0 (sym c.if-not-bit_at.false ∙ c.bit_at.ensures) x.result x.ensures)

pub returns : goal.returns
returns c =
    let a = c.args in
    let h = c.requires.0 in
    let on = sym c.if-not-bit_at.false ∙ c.bit_at.ensures in
    let x = c.chosen_at-more in
    λ m s e w.
    let n = a.c.satellite in
    let y = c.emit_cells-d.ensures m s e (row-of e w h on) (cell-is e w h) in
    let r = c.satellite_record-r.ensures m s e.rows-stand (satellites-are e w h) (chosen_is e w h) in
    satellite-turn e w h on x.result x.ensures c.emit_cells-d.result a.out.now _ _ c.requires.1
    (wrote_record (satellite_record m a.self.now.p s a.i n) (length-satellite m a.self.now.p s a.i n) r c.store.ensures)
    y.0 (record { end = y.1; buffer = y.2 })
