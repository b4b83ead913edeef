-- Each turn makes one row.
use mathlib.Core.Path.{◌≡◌}
use mathlib.Core.List.{[]}
use Prim.Native.Nat.{ℕ, ◌≤◌, ◌<◌}
use lib.ListN.{length, get_or}
use Rattle.pagecode.specs.Reduction.{ReducedRow}
use Rattle.pagecode.proofs.reduction.reduced_rows.Given as goal

abbrev pub invariant-loop-a : goal.invariant-loop-a
invariant-loop-a l = (l.a ≤ length l.missing) × (length l.square ≡ 32) × ((b : ℕ) → b < l.a → ReducedRow (length l.missing) l.missing (get_or l.fn.rows b []) (get_or l.square b []))
