-- The measure is how many octets of the script are left.
-- A writing takes at least one of those that are there.
use Rattle.std.specs.Prelude.{length}
use Rattle.writings.proofs.print_writings.Given as goal

abbrev pub decreases-loop-script : goal.decreases-loop-script
decreases-loop-script g l = length l.script.rest.now
