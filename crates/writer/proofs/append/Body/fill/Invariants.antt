-- After k turns k bits are put.
use mathlib.Core.Bool.{false}
use Rattle.writer.specs.Writer.{turns}
use Rattle.writer.specs.Rendering.{Appends}
use Rattle.writer.proofs.append.Body.fill.Given as goal

abbrev pub invariant-loop-k : goal.invariant-loop-k
invariant-loop-k l = Appends l.initial.self l.self (turns false l.k)
