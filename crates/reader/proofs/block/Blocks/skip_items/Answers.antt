-- A turn passes over one item, and the rest of the row ends as the whole row does.
use Prim.Native.Nat.{◌-◌}
use native.Mathlib.Omega.{arith}
use mathlib.Core.Path.{◌≡◌, sym, ◌∙◌}
use Rattle.bits.specs.Bits.{bits_of}
use Rattle.mt1.specs.Parse.{field, for_each}
use Rattle.reader.proofs.Fields.{handed}
use Rattle.reader.proofs.Skipping.{times_none, turn}
use Rattle.reader.proofs.block.Blocks.skip_items.Goals as goal

pub loop-k-init : goal.loop-k-init
loop-k-init c =
    let e : c.args.n - 0 ≡ c.args.n = omega arith in
    rw e

pub returns-in_err-place : goal.returns-in_err-place
returns-in_err-place c =
    let a = c.args in
    let p = for_each a.widths.now field in
    rw (handed c.from_residual.result c.from_residual.ensures.1, ← c.loop-k.invariant, turn (bits_of a.self.now.octets.now) a.n c.loop-k.k p c.loop-k.place (omega arith), ← c.in_err-place.ensures)

pub loop-k-preserved : goal.loop-k-preserved
loop-k-preserved c =
    let a = c.args in
    let bs = bits_of a.self.now.octets.now in
    let p = for_each a.widths.now field in
    rw (← c.in_ok-place.ensures) at (sym (turn bs a.n c.loop-k.k p c.loop-k.place (omega arith)) ∙ c.loop-k.invariant)

pub returns : goal.returns
returns c =
    let a = c.args in
    let bs = bits_of a.self.now.octets.now in
    let p = for_each a.widths.now field in
    let z : a.n - c.loop-k.k ≡ 0 = omega arith in
    sym (times_none bs p c.loop-k.place) ∙ rw z at c.loop-k.invariant
