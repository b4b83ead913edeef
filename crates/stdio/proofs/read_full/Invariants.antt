-- What is read lies within the buffer.
use Rattle.std.specs.Prelude.{◌≤◌, length}
use Rattle.stdio.proofs.read_full.Given as goal

abbrev pub invariant-loop : goal.invariant-loop
invariant-loop g l = l.done ≤ length l.buf
