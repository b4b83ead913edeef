-- After g turns the bits of the first g signals are appended.
use lib.ListN.{drop}
use Rattle.writer.specs.Rendering.{row, signals_of}
use Rattle.writer.proofs.Turns.{Begun}
use Rattle.writer.proofs.row.append_row.Given as goal

abbrev pub invariant-loop-g : goal.invariant-loop-g
invariant-loop-g l = Begun l.initial.body l.body (row (signals_of l.system) 0 l.records) (row (drop l.g (signals_of l.system)) l.g l.rest)
