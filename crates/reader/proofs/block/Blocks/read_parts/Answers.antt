-- The first part, and where there are two the second behind it, of another ID; each adds its place to the plan.
use native.Mathlib.Omega.{arith}
use mathlib.Core.Path.{◌≡◌}
use Rattle.bits.specs.Bits.{bits_of}
use Rattle.reader.proofs.Fields.{handed}
use Rattle.reader.proofs.SubsetParts.{systems-few, one-bad, one-got, two-bad, two-got}
use Rattle.reader.proofs.block.Blocks.read_parts.Goals as goal

pub returns-in_err-one : goal.returns-in_err-one
returns-in_err-one c ss place o =
    let a = c.args in
    rw (handed c.from_residual.result c.from_residual.ensures.1) (one-bad (bits_of a.self.now.octets.now) o a.at a.n c.requires.0 (c.in_err-one.ensures ss place o))

pub returns-then-n-eq1 : goal.returns-then-n-eq1
returns-then-n-eq1 c ss place o =
    let a = c.args in
    rw c.if-n-eq1.true (one-got (bits_of a.self.now.octets.now) o a.at (c.in_ok-one.ensures ss place o))

pub returns-in_err-both : goal.returns-in_err-both
returns-in_err-both c ss place o =
    let a = c.args in
    let two : a.n ≡ 2 = omega (arith, c.requires.0, c.requires.1, systems-few o, c.if-n-eq1.false) in
    rw (handed c.from_residual-in_err-both.result c.from_residual-in_err-both.ensures.1, two)
    (two-bad (bits_of a.self.now.octets.now) o a.at (c.in_ok-one.ensures ss place o) (c.in_err-both.ensures ss place o))

pub returns : goal.returns
returns c ss place o =
    let a = c.args in
    let two : a.n ≡ 2 = omega (arith, c.requires.0, c.requires.1, systems-few o, c.if-n-eq1.false) in
    rw two (two-got (bits_of a.self.now.octets.now) o a.at (c.in_ok-one.ensures ss place o) (c.in_ok-both.ensures ss place o))
