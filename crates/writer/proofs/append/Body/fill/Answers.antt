-- After k turns k bits are put.
use mathlib.Core.Path.{◌≡◌, sym}
use borrow.Author.Rules.{rules}
use Rattle.writer.specs.Writer.{turns}
use Rattle.writer.proofs.Appending.{appends-none, appends-join, appends-is}
use Rattle.writer.proofs.Filling.{turns_next}
use Rattle.writer.proofs.append.Body.fill.Goals as goal

pub loop-k-init : goal.loop-k-init
unfolding turns
loop-k-init c = appends-none c.args.self.now

pub loop-k-preserved : goal.loop-k-preserved
loop-k-preserved c =
    let l = c.loop-k in
    appends-is (sym (turns_next l.k)) (appends-join l.invariant c.append.ensures)

pub returns : goal.returns
returns c =
    let l = c.loop-k in
    let z : l.k ≡ c.args.n = search rules in
    rw z at l.invariant
