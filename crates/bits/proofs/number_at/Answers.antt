-- The run that is there is the number; a wider one, and one that is not all there, is none.
-- `fits` says which bits are there, and 64 is the widest number.
use mathlib.Core.Path.{sym, ◌∙◌}
use Prim.Native.Nat.{◌+◌, ◌≤◌}
use native.Mathlib.Omega.{arith}
use lib.ListN.{length}
use borrow.Author.Tests.{leb-true}
use Rattle.bits.specs.Bits.{bits_of}
use Rattle.bits.proofs.Octets.{length-bits_of}
use Rattle.bits.proofs.Runs.{not_there, too_wide, number_fits, number-none}
use Rattle.bits.proofs.number_at.Goals as goal
use Rattle.bits.proofs.number_at.Goals.{Then-fits, else-n-le64-via-then-n-le64+else-fits, else-n-le64-via-else-n-le64}

there : (c : Then-fits) → c.args.at + c.args.n ≤ length (bits_of c.args.octets.now)
there c =
    let a = c.args in
    leb-true (a.at + a.n) (length (bits_of a.octets.now)) (sym c.fits.ensures ∙ c.if-fits.true)

pub run_at-requires : goal.run_at-requires
run_at-requires c = (c.if-n-le64.true, omega (arith, there c, length-bits_of c.args.octets.now))

pub returns-then-fits : goal.returns-then-fits
returns-then-fits c =
    let a = c.args in
    c.run_at.ensures ∙ sym (number_fits (bits_of a.octets.now) a.at a.n (there (goal.at.returns-then-fits c).Then-fits) c.if-n-le64.true)

pub returns-else-n-le64 : goal.returns-else-n-le64
returns-else-n-le64 c =
    let a = c.args in
    let bs = bits_of a.octets.now in
    sym (number-none bs a.at a.n (elim c.else-n-le64.branch [
      | else-n-le64-via-then-n-le64+else-fits w ↦ not_there bs a.at a.n (sym w.fits.ensures ∙ w.if-fits.false)
      | else-n-le64-via-else-n-le64 w ↦ too_wide bs a.at a.n w.if-n-le64.false
    ]))
