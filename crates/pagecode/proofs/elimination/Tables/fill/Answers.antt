-- The second table is that of 16 times the line, which is twice its multiple by 8.
use mathlib.Core.Path.{refl}
use Rattle.pagecode.proofs.Lines.{looked-up}
use Rattle.pagecode.proofs.elimination.Tables.fill.Goals as goal

pub returns : goal.returns
returns c =
    let a = c.args.a in
    looked-up a a c.double_line.result c.fill_table.new.table c.fill_table-2.new.table refl c.fill_table.ensures c.double_line.ensures c.fill_table-2.ensures
