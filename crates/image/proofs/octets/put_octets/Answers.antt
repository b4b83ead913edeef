-- The part that is written is the octets.
use native.Mathlib.Omega.{arith}
use Rattle.collector.proofs.Copied.{copied}
use Rattle.image.proofs.octets.put_octets.Goals as goal

pub returns : goal.returns
returns c =
    let a = c.args in
    copied a.out.now a.at _ _ a.octets.now c.copy_from_slice.ensures.after (omega arith)
