-- The first octet decides: open, done, or free.
use mathlib.Core.Path.{ap, ◌∙◌}
use native.Mathlib.Omega.{arith}
use borrow.Author.Tests.{eq-eqb, ne_eqb}
use Rattle.collector.specs.declared.state.PlaceState.TheVariants.{Open}
use Rattle.image.proofs.Standing.{open_at, done_at, free-at}
use Rattle.image.proofs.place.read_state.Goals as goal

pub returns-in-1 : goal.returns-in-1
returns-in-1 c =
    let a = c.args in
    ap (Open c.read_key-key.result c.read_word-first.result) c.from.ensures
    ∙ open_at a.octets.now _ _ c.read_key-key.ensures c.read_word-first.ensures (eq-eqb _ _ c.in-1.is)

pub returns-in-2 : goal.returns-in-2
returns-in-2 c =
    let a = c.args in
    done_at a.octets.now _ _ c.read_key-key.ensures c.read_word-first.ensures (ne_eqb _ _ (λ e. omega arith)) (eq-eqb _ _ c.in-2.is)

pub returns-in_default : goal.returns-in_default
returns-in_default c =
    let a = c.args in
    free-at a.octets.now (ne_eqb _ _ (λ e. omega arith)) (ne_eqb _ _ (λ e. omega arith))
