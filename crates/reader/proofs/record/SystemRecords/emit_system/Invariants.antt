-- The system's record first; after i turns the satellites of the first i indices are written behind it.
use mathlib.Core.Path.{◌≡◌}
use Prim.Native.Nat.{◌+◌, ◌≤◌}
use lib.ListN.{length}
use Rattle.mt1.specs.Message.{System, Message}
use Rattle.mt1.specs.Records.{build, satellite_records}
use Rattle.reader.specs.Recording.{EmitsOf, Reached}
use Rattle.reader.proofs.Emitting.{Wrote}
use Rattle.reader.proofs.record.SystemRecords.emit_system.Given as goal

abbrev pub invariant-loop-i : goal.invariant-loop-i
invariant-loop-i l =
    (l.i ≤ 40) × (length l.out ≡ length l.initial.out)
    × ((m : Message) (s : System) → EmitsOf l.self m s → Reached m s l.i l.c × Wrote (build l.i (satellite_records m l.self.p s)) (l.octet + 16) l.c.octet l.initial.out l.out)
