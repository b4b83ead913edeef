-- The first row with an entry is found: the rows that were passed have none, and a row from q on has one.
use mathlib.Core.List.{[]}
use Rattle.pagecode.specs.System.{cell}
use Rattle.pagecode.proofs.Steps.{Seeking}
use Rattle.pagecode.proofs.elimination.find_pivot.Given as goal

abbrev pub invariant-loop-r : goal.invariant-loop-r
invariant-loop-r l = Seeking l.k l.q l.r (cell l.square [])
