-- The table has the multiples: each turn adds two, twice a multiple that is there and the line more.
use Rattle.pagecode.proofs.Lines.{Filling}
use Rattle.pagecode.proofs.elimination.fill_table.Given as goal

abbrev pub invariant-loop-v : goal.invariant-loop-v
invariant-loop-v l = Filling l.a l.table l.v
