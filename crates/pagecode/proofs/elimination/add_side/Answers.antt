-- The part that is added to is the row of right sides.
use mathlib.Core.Path.{◌≡◌, ap, ◌∙◌}
use mathlib.Core.List.{List, ◌++◌}
use Prim.Native.Nat.{ℕ, ◌+◌, ◌-◌, ◌*◌, ◌≤◌}
use native.Mathlib.Omega.{arith}
use lib.ListN.{length, take, drop, length-take, length-drop}
use borrow.Author.Rules.{rules}
use borrow.Rule.Slice.PartMut.{put_mid}
use Rattle.pagecode.specs.Code.{plus}
use Rattle.pagecode.proofs.Partial.{plus-front}
use Rattle.pagecode.proofs.elimination.add_side.Goals as goal

pub returns : goal.returns
returns c =
    let a = c.args in
    let w = a.sides.now in
    let at = a.r * 53 in
    let u = take 53 (drop 32 a.a) in
    let to : length a.a ≡ 96 = search rules in
    let long : length u ≡ 53 = omega (arith, length-take 53 (drop 32 a.a), length-drop 32 a.a) in
    let part : at + 53 - at ≡ length u = omega arith in
    let room : length u ≤ length (drop at w) = omega (arith, c.told-sides, length-drop at w) in
    ap (put_mid at (at + 53 - at) w) c.add.ensures
    ∙ ap (λ (n : ℕ). put_mid at n w (plus (take n (drop at w)) u)) part
    ∙ ap (λ (l : List ℕ). take at w ++ l) (plus-front u (drop at w) room)
