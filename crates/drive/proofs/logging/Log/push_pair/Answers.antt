-- Two octets set one behind the other are the two laid.
use Rattle.drive.proofs.Appending.{pair-appends}
use Rattle.drive.proofs.logging.Log.push_pair.Goals as goal

pub returns-clause-appends : goal.returns-clause-appends
returns-clause-appends c = let a = c.args in pair-appends a.self.now.octets.now a.self.now.end a.kind a.number c.requires
