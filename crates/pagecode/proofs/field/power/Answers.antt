-- The table holds the powers below 255, and they come round.
use mathlib.Core.Path.{◌∙◌, sym}
use Prim.Native.Nat.{◌%◌}
use native.Mathlib.Omega.{arith}
use Rattle.pagecode.proofs.Tables.{powers}
use Rattle.pagecode.proofs.Power.{powers-at, power-round}
use Rattle.pagecode.proofs.field.power.Goals as goal

pub returns : goal.returns
unfolding powers
returns c = powers-at (c.args.n % 255) (omega arith) ∙ sym (power-round c.args.n)
