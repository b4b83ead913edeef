-- The loop's array is the content for the message's first i pages: a turn adds the next page times its entry.
use mathlib.Core.Path.{◌≡◌}
use mathlib.Core.List.{List}
use Prim.Native.Nat.{ℕ, ◌≤◌}
use Rattle.pagecode.specs.Page.{content}
use Rattle.pagecode.proofs.page.page_content.Given as goal

pub record Inv (m : List ℕ) (k p : ℕ) (c : List ℕ) (i : ℕ) : Type 0 where
  pub is : c ≡ content i m p
  pub upto : i ≤ k

abbrev pub invariant-loop-i : goal.invariant-loop-i
invariant-loop-i l = Inv l.message l.k l.p l.c l.i
