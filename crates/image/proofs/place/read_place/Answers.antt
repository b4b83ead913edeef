-- The state, and the 32 octets behind its nine.
use mathlib.Core.List.{List}
use mathlib.Core.Path.{ap, ap₂, ◌∙◌}
use Prim.Native.Nat.{ℕ}
use lib.ListN.{take}
use Rattle.collector.specs.declared.state.PlaceState.{PlaceState}
use Rattle.image.proofs.Standing.{behind}
use Rattle.image.proofs.place.read_place.Goals as goal

pub returns : goal.returns
returns c =
    let a = c.args in
    ap₂ (λ (s : PlaceState) (n : List ℕ). record { state = s; numbers = n }) c.read_state.ensures (c.read_numbers.ensures ∙ ap (take 32) (behind 9 a.octets.now))
