-- After i turns the digits of the first i octets stand at the start of the text.
-- Each turn sets the two digits behind those that stand there.
use mathlib.Core.Path.{◌≡◌}
use lib.ListN.{length, take}
use Rattle.lists.specs.Lists.{laid}
use Rattle.hex_text.specs.Hex.{hex_of}
use Rattle.hex_text.proofs.spell.Given as goal

abbrev pub invariant-loop-i : goal.invariant-loop-i
invariant-loop-i l = (length l.text ≡ length l.initial.text) × (l.text ≡ laid l.initial.text 0 (hex_of (take l.i l.octets)))
