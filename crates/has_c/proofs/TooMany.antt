-- Over 32 numbers are no pages: `solve` refuses their length.
-- The first check asks for 1 to 32 pages.
use mathlib.Core.List.{List}
use mathlib.Core.Path.{◌≡◌}
use Prim.Native.Nat.{ℕ, ◌<◌}
use native.Mathlib.Omega.{arith}
use lib.ListN.{length}
use borrow.Author.Tests.{lt-leb, le-leb}
use Rattle.refusal.specs.declared.Refusal.TheVariants.{Length}
use Rattle.std.specs.Prelude.{Err}
use Rattle.pagecode.specs.Answer.{Answer}
use Rattle.pagecode.specs.Solve.{solve_answer}

pub too_many : (contents numbers : List ℕ) (room : ℕ) → 32 < length numbers → ◌≡◌ {A = Answer} (Err Length) (solve_answer contents numbers room)
unfolding solve_answer
too_many contents numbers room h = simp (le-leb 1 (length numbers) (omega arith), lt-leb (length numbers) 32 h)
