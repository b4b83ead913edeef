-- A part of a slice that `copy_from_slice` or `fill` wrote: what was written, laid over what the slice held.
-- What stands behind the part is what stood there.
use mathlib.Core.Path.{◌≡◌, ap, ◌∙◌}
use mathlib.Core.List.{List, ◌++◌}
use Prim.Native.Nat.{ℕ}
use native.Mathlib.Omega.{arith}
use lib.ListN.{length, take, drop}
use lib.Seq.{drop-drop}
use borrow.Rule.Slice.PartMut.{put_mid}
use Rattle.lists.specs.Lists.{laid}

pub copied : {A : Type 0} (d : List A) (at n : ℕ) (r l : List A) → r ≡ l → length l ≡ n → put_mid at n d r ≡ laid d at l
unfolding laid
copied {A} d at n r l e h =
    ap (λ (x : List A). take at d ++ (x ++ drop n (drop at d))) e
    ∙ ap (λ (x : List A). take at d ++ (l ++ x)) (drop-drop n at d ∙ ap (λ (k : ℕ). drop k d) (omega arith))
