-- Each turn marks the column of one page more.
use Prim.Native.Nat.{◌≤◌}
use native.Mathlib.Omega.{arith}
use Rattle.pagecode.proofs.Noughts.{mark-start, mark-turn, mark-end}
use lib.ListN.{length, get_or}
use Rattle.pagecode.proofs.missing.mark_columns.Goals as goal

pub loop-p-init : goal.loop-p-init
loop-p-init c = mark-start (length c.args.plain.now) c.args.plain.now c.requires.0 c.requires.1

pub mark_column-next-requires : goal.mark_column-next-requires
mark_column-next-requires c =
    let i = c.loop-p.p-index in
    let most : get_or c.args.plain.now i 0 ≤ length c.args.plain.now = c.requires.1.most i (omega arith) in
    omega arith

pub loop-p-preserved : goal.loop-p-preserved
loop-p-preserved c =
    let l = c.loop-p in
    mark-turn (length c.args.plain.now) c.args.plain.now c.requires.0 c.requires.1 l.marks c.mark_column-next.result l.p-index (omega arith) c.mark_column-next.ensures l.invariant

pub returns : goal.returns
returns c =
    let l = c.loop-p in
    mark-end (length c.args.plain.now) c.args.plain.now c.requires.0 c.requires.1 l.marks l.p-index (omega arith) l.invariant
