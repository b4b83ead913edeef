-- If there is room for the number, `put` puts it; else nothing is promised.
use native.Mathlib.Omega.{arith}
use mathlib.Core.Path.{◌≡◌, sym, ◌∙◌}
use lib.ListN.{length}
use borrow.Author.Rules.{rules}
use Rattle.writer.proofs.Appending.{number-ends, appends-put, appends-full}
use Rattle.writer.proofs.append.Body.append.Goals as goal
use Rattle.writer.proofs.append.Body.append.Goals.{Start}

octets : (c : Start) → length c.args.self.now.octets ≡ 20480
octets c = search rules

pub overflow_add-self : goal.overflow_add-self
overflow_add-self c =
    let a = c.args in
    record { fits = omega (arith, number-ends a.self.now a.n a.v c.requires (octets (goal.at.overflow_add-self c).Start) (sym c.if-put.true ∙ c.put.ensures.0)) }

pub returns-then-put : goal.returns-then-put
returns-then-put c =
    let a = c.args in
    appends-put a.self.now a.n a.v c.requires (octets (goal.at.returns-then-put c).Start) c.put.new.out c.put.ensures.1

pub returns-else-put : goal.returns-else-put
returns-else-put c =
    let a = c.args in
    appends-full a.self.now a.n a.v c.requires (octets (goal.at.returns-else-put c).Start) c.put.new.out c.put.ensures.1 (sym c.if-put.false ∙ c.put.ensures.0)
