-- After the octets that are read, `whole` is the number of their bits.
-- Each multiplies it by 256 and is added; there are at most nine, so the number fits.
use mathlib.Core.Path.{◌≡◌}
use lib.ListN.{take}
use Rattle.bits.specs.Bits.{value, bits_of}
use Rattle.bits.proofs.gather.Given as goal

abbrev pub invariant-loop-octet : goal.invariant-loop-octet
invariant-loop-octet l = l.whole ≡ value (bits_of (take l.octet-index l.octets))
