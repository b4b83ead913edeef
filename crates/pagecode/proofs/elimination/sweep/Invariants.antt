-- Row q is taken from every other row: each turn does it for one row more, by the sum of two multiples of row q, which is the multiple by its entry.
use Rattle.pagecode.proofs.Steps.{SweepLoop}
use Rattle.pagecode.proofs.elimination.sweep.Given as goal

abbrev pub invariant-loop-r : goal.invariant-loop-r
invariant-loop-r l = SweepLoop l.k l.q l.initial.n l.initial.sides l.n l.sides l.r
