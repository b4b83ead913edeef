-- Where the time-out is at most the second, it may be taken from the second instead of added to the first.
use Prim.Native.Nat.{◌+◌, ◌-◌}
use mathlib.Core.Path.{sym, ◌∙◌}
use native.Mathlib.Omega.{arith}
use borrow.Author.Tests.{lt-leb}
use Rattle.collector.specs.Place.{over}
use Rattle.collector.proofs.Tests.{same-leb}
use Rattle.collector.proofs.clock.is_over.Goals as goal

pub returns-then-timeout-second : goal.returns-then-timeout-second
unfolding over
returns-then-timeout-second c =
    let a = c.args in
    same-leb a.first (a.second - a.timeout) (a.first + a.timeout) a.second (λ h. omega arith) (λ h. omega arith)

pub returns-else-timeout-second : goal.returns-else-timeout-second
unfolding over
returns-else-timeout-second c =
    let a = c.args in
    lt-leb a.timeout a.second (omega arith) ∙ sym (lt-leb (a.first + a.timeout) a.second (omega arith))
