-- The run is put where there is room for the number; else the octets stay, and they are what their bits say.
-- `fits` says whether there is room, and 64 is the widest number.
use mathlib.Core.Bool.{false}
use mathlib.Core.Path.{◌≡◌, sym, ◌∙◌}
use Prim.Native.Nat.{◌+◌}
use native.Mathlib.Omega.{arith}
use lib.ListN.{length}
use borrow.Author.Tests.{leb-true}
use Rattle.bits.specs.Bits.{bits_of, is_number}
use Rattle.bits.proofs.Octets.{length-bits_of}
use Rattle.bits.proofs.Runs.{is-number, not_there, too_wide}
use Rattle.bits.proofs.Puts.{put-room, put-none, octets-put}
use Rattle.bits.proofs.put.Goals as goal
use Rattle.bits.proofs.put.Goals.{else-n-le64-via-then-n-le64+else-fits, else-n-le64-via-else-n-le64}

pub put_run-requires : goal.put_run-requires
put_run-requires c =
    let a = c.args in
    let s = a.out.now in
    (c.if-n-le64.true, omega (arith, leb-true (a.at + a.n) (length (bits_of s)) (sym c.fits.ensures ∙ c.if-fits.true), length-bits_of s))

pub returns-then-fits : goal.returns-then-fits
returns-then-fits c =
    let a = c.args in
    let s = a.out.now in
    let e = is-number (bits_of s) a.at a.n (sym c.fits.ensures ∙ c.if-fits.true) c.if-n-le64.true in
    (sym e, octets-put s _ a.at a.n a.v (λ i. (c.type_inv.out i).fits) (c.put_run.ensures ∙ sym (put-room (bits_of s) a.at a.n a.v e)))

pub returns-else-n-le64 : goal.returns-else-n-le64
returns-else-n-le64 c =
    let a = c.args in
    let s = a.out.now in
    let bs = bits_of s in
    let e : is_number bs a.at a.n ≡ false = elim c.else-n-le64.branch [
      | else-n-le64-via-then-n-le64+else-fits w ↦ not_there bs a.at a.n (sym w.fits.ensures ∙ w.if-fits.false)
      | else-n-le64-via-else-n-le64 w ↦ too_wide bs a.at a.n w.if-n-le64.false
    ] in
    (sym e, octets-put s s a.at a.n a.v (λ i. (c.type_inv.out i).fits) (sym (put-none bs a.at a.n a.v e)))
