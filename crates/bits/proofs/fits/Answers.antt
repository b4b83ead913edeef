-- A place behind the last octet leaves no room; else octets are counted.
-- The octets of the whole parts and of the broken ones are those that the bits need.
use mathlib.Core.Path.{sym, ◌∙◌}
use Prim.Native.Nat.{◌+◌, ◌/◌}
use native.Mathlib.Omega.{arith}
use lib.ListN.{length}
use borrow.Author.Tests.{lt-leb}
use Rattle.bits.specs.Bits.{bits_of}
use Rattle.bits.proofs.Octets.{length-bits_of}
use Rattle.bits.proofs.Runs.{fits-octets}
use Rattle.bits.proofs.fits.Goals as goal

pub returns-then-first-octets : goal.returns-then-first-octets
returns-then-first-octets c = fits-octets c.args.octets.now c.args.at c.args.n c.if-first-octets.true

pub returns-else-first-octets : goal.returns-else-first-octets
returns-else-first-octets c =
    let a = c.args in
    let s = a.octets.now in
    lt-leb (a.at / 8) (length s) c.if-first-octets.false ∙ sym (lt-leb (a.at + a.n) (length (bits_of s)) (omega (arith, length-bits_of s, c.if-first-octets.false)))
