-- The part that is written is the octets.
use mathlib.Core.Path.{refl}
use native.Mathlib.Omega.{arith}
use Rattle.collector.proofs.Copied.{copied}
use Rattle.drive.proofs.logging.Log.push_octets.Goals as goal

pub returns-clause-appends : goal.returns-clause-appends
returns-clause-appends c =
    let a = c.args in
    record { log = copied a.self.now.octets.now a.self.now.end _ _ a.octets.now c.copy_from_slice.ensures.after (omega arith); ends = refl }
