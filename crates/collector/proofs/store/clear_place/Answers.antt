-- The part that is filled is zeros.
use mathlib.Core.Path.{◌≡◌, ap, ◌∙◌}
use Prim.Native.Nat.{ℕ, ◌+◌, ◌-◌, ◌*◌}
use lib.ListN.{length, take, drop, replicate, length-drop}
use lib.Seq.{length-take-le}
use native.Mathlib.Omega.{arith}
use borrow.Author.Rules.{rules}
use Rattle.collector.proofs.Copied.{copied}
use Rattle.collector.proofs.store.clear_place.Goals as goal

pub returns : goal.returns
returns c =
    let a = c.args in
    let at = a.i * 1696 in
    let rest = length-drop at a.store.now in
    let long : length (take (at + 1696 - at) (drop at a.store.now)) ≡ 1696 = length-take-le (at + 1696 - at) (drop at a.store.now) (omega arith) ∙ omega arith in
    copied a.store.now at _ _ (replicate 1696 0) (c.fill.ensures.after (search rules) ∙ ap (λ (n : ℕ). replicate n 0) long) (omega arith)
