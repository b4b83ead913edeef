-- What `==` answers of two parts is what the collector's test of octets says of them.
use mathlib.Core.Path.{◌≡◌, ap, ap₂, ◌∙◌}
use Prim.Native.Nat.{ℕ, ◌+◌, ◌-◌}
use native.Mathlib.Omega.{arith}
use lib.Dec.{eqb}
use lib.ListN.{take, drop, length-drop}
use lib.Pointwise.{pointwise}
use lib.Seq.{take_all}
use Rattle.collector.proofs.Search.{same-pointwise}
use Rattle.collector.proofs.store.is_same_content.Goals as goal

pub returns : goal.returns
returns c =
    let a = c.args in
    let long = length-drop 3 a.page.now in
    let many : a.at + 53 - a.at ≡ 53 = omega arith in
    c.eq.ensures
    ∙ ap₂ (pointwise eqb) (ap (λ (n : ℕ). take n (drop a.at a.store.now)) many) (take_all 53 (drop 3 a.page.now) (omega arith))
    ∙ same-pointwise (take 53 (drop a.at a.store.now)) (drop 3 a.page.now)
