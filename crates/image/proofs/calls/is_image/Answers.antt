-- The head is written again to the octets that it was read of, and then the collector's own test decides.
use Rattle.std.proofs.lemmas.Bool.Decides.{Decides-eqb}
use Rattle.std.proofs.lemmas.Slice.Eq.{slice_eq-Decides}
use Rattle.image.proofs.Feeding.{agrees}
use Rattle.image.proofs.calls.is_image.Goals as goal

pub returns-then-eq : goal.returns-then-eq
returns-then-eq c =
    let same = (slice_eq-Decides Decides-eqb c.write_head.new.out c.args.head.now c.eq.result c.eq.ensures).0 c.if-eq.true in
    agrees c.is_made.result _ _ _ c.write_head.ensures same c.is_made.ensures
