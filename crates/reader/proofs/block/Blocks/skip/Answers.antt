-- Bits that are there end n places on, and there are few octets; else the field is SHORT.
use mathlib.Core.Path.{sym, ap, ◌∙◌}
use Prim.Native.Nat.{◌+◌}
use native.Mathlib.Omega.{arith}
use borrow.Author.Tests.{leb-true}
use lib.ListN.{length}
use Rattle.bits.specs.Bits.{bits_of}
use Rattle.bits.proofs.Octets.{length-bits_of}
use Rattle.reader.specs.Steps.{step_of}
use Rattle.reader.proofs.Fields.{handed, enough, raw-there, raw-lacking}
use Rattle.reader.proofs.block.Blocks.skip.Goals as goal

pub returns-in_err-need : goal.returns-in_err-need
returns-in_err-need c =
    let a = c.args in
    handed _ c.from_residual.ensures.1 ∙ sym (ap step_of (raw-lacking a.n (bits_of a.self.now.octets.now) a.at c.in_err-need.ensures))

pub overflow_add-result : goal.overflow_add-result
overflow_add-result c =
    let a = c.args in
    let bs = bits_of a.self.now.octets.now in
    omega (arith, leb-true (a.at + a.n) (length bs) (enough a.n bs a.at c.in_ok-need.ensures), length-bits_of a.self.now.octets.now, a.self.now.short)

pub returns : goal.returns
returns c =
    let a = c.args in
    let bs = bits_of a.self.now.octets.now in
    sym (ap step_of (raw-there a.n bs a.at (enough a.n bs a.at c.in_ok-need.ensures)))
