-- After k turns the bits of the first k records are appended.
use Prim.Native.Nat.{◌*◌}
use mathlib.Core.Path.{ap}
use Rattle.std.proofs.lemmas.List.{take_rest}
use borrow.Author.Rules.{rules}
use Rattle.writer.specs.Rendering.{part_of}
use Rattle.writer.proofs.Appending.{appends-is}
use Rattle.writer.proofs.Turns.{begun-start, begun_more, begun_all, left-first, left-next, left-last}
use Rattle.writer.proofs.part.append_parts.Goals as goal

pub loop-k-init : goal.loop-k-init
loop-k-init c =
    let a = c.args in
    begun-start a.body.now (left-first a.part a.system.now)

pub loop-k-preserved : goal.loop-k-preserved
loop-k-preserved c =
    let a = c.args in
    let l = c.loop-k in
    let s = a.system.now in
    begun_more l.invariant (appends-is (ap (part_of a.part s) (take_rest s (16 * l.k))) c.append_part.ensures) (left-next a.part a.system.now l.k (search rules))

pub returns : goal.returns
returns c =
    let a = c.args in
    let l = c.loop-k in
    begun_all l.invariant (left-last a.part a.system.now l.k (search rules))
