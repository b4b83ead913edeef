-- The sum so far is short of the product by what the bits that are left choose among the doublings that are left.
use mathlib.Core.Path.{◌≡◌}
use Prim.Native.Nat.{◌-◌, ◌/◌, ◌^◌}
use Rattle.pagecode.specs.Field.{◌⊕◌, ◌⊗◌, shift_add}
use Rattle.pagecode.proofs.field.product.Given as goal

abbrev pub invariant-loop-bit : goal.invariant-loop-bit
invariant-loop-bit l = l.total ⊕ shift_add (8 - l.bit) (l.fn.a / 2 ^ l.bit) l.turn ≡ l.fn.a ⊗ l.fn.b
