-- The right sides become the solution: each turn clears one column more, and a regular square always has a row with an entry there.
use Rattle.pagecode.proofs.Reduced.{SolveLoop}
use Rattle.pagecode.proofs.elimination.solve_square.Given as goal

abbrev pub invariant-loop-q : goal.invariant-loop-q
invariant-loop-q l = SolveLoop l.k l.initial.n l.initial.sides l.n l.sides l.q
