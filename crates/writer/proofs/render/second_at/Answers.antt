-- The record that is found is the second system's own; if there is none, that system has no records.
use native.Mathlib.Omega.{arith}
use mathlib.Core.Path.{sym, ◌∙◌}
use Rattle.writer.proofs.SecondSystem.{second-none, second-some}
use Rattle.writer.proofs.render.second_at.Goals as goal

pub overflow_mul-result : goal.overflow_mul-result
overflow_mul-result c =
    record { fits = omega (arith, (second-some c.args.records.now c.in-Some.k c.requires.some (sym c.next_system.ensures ∙ c.in-Some.is)).2) }

pub returns-in-Some : goal.returns-in-Some
returns-in-Some c =
    let (here, least, most) = second-some c.args.records.now c.in-Some.k c.requires.some (sym c.next_system.ensures ∙ c.in-Some.is) in
    (here, omega (arith, least), most)

pub returns-in-None : goal.returns-in-None
returns-in-None c =
    (second-none c.args.records.now c.requires.some c.requires.whole (sym c.next_system.ensures ∙ c.in-None.is), c.requires.some, omega arith)
