-- The numbers are laid behind the state.
use mathlib.Core.Path.{◌≡◌}
use native.Mathlib.Omega.{arith}
use lib.ListN.{length}
use borrow.Author.Rules.{rules}
use Rattle.image.proofs.Parts.{place-laid, place-length}
use Rattle.image.proofs.place.write_place.Goals as goal

pub returns : goal.returns
returns c =
    let a = c.args in
    let n : length a.place.now.numbers ≡ 32 = search rules in (
      place-laid a.out.now a.at a.place.now _ _ (omega arith) n c.write_state.ensures c.put_octets.ensures,
      place-length a.place.now n,
    )
