-- The row stands in front, and the row of right sides behind it.
use mathlib.Core.Path.{◌≡◌, refl, ap, ap₂, ◌∙◌}
use mathlib.Core.List.{List, ◌++◌}
use Prim.Native.Nat.{ℕ, ◌+◌, ◌-◌, ◌*◌}
use native.Mathlib.Omega.{arith}
use lib.ListN.{length, take, drop, replicate}
use borrow.Author.Rules.{rules}
use borrow.Rule.Slice.PartMut.{put_mid}
use Rattle.pagecode.proofs.Pieces.{piece}
use Rattle.pagecode.proofs.Lines.{lined}
use Rattle.pagecode.proofs.elimination.line_of.Goals as goal

pub returns : goal.returns
returns c =
    let a = c.args in
    let at = a.r * 53 in
    let part : at + 53 - at ≡ 53 = omega arith in
    let long : length a.row ≡ 32 = search rules in
    ap₂ (λ (x y : List ℕ). put_mid 32 53 (x ++ replicate 64 0) y) c.copy_from_slice.ensures.after c.copy_from_slice-2.ensures.after
    ∙ ap (λ (n : ℕ). put_mid 32 53 (a.row ++ replicate 64 0) (take n (drop at a.sides.now))) part
    ∙ lined a.row (piece a.sides.now a.r) (a.row ++ replicate 64 0) long refl
