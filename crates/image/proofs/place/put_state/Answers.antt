-- The number is laid behind the first four octets, and the count behind it.
use native.Mathlib.Omega.{arith}
use Rattle.image.proofs.Parts.{state-laid}
use Rattle.image.proofs.place.put_state.Goals as goal

pub returns : goal.returns
returns c =
    let a = c.args in
    state-laid a.out.now a.at a.kind a.key.status a.key.number a.key.size a.first a.count _ _ (omega arith)
    c.put_octets.ensures
    c.put_word.ensures
