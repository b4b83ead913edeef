-- After k turns the bits of the first k records are appended.
use Rattle.writer.specs.Rendering.{gathered}
use Rattle.writer.proofs.Turns.{Begun, left}
use Rattle.writer.proofs.part.append_parts.Given as goal

abbrev pub invariant-loop-k : goal.invariant-loop-k
invariant-loop-k l = Begun l.initial.body l.body (gathered l.part l.system) (left l.part l.system l.k)
