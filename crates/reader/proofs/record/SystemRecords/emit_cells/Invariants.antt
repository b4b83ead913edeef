-- After g turns the cells of the first g signals are written.
use mathlib.Core.Path.{◌≡◌}
use Prim.Native.Nat.{◌*◌, ◌≤◌}
use lib.ListN.{length}
use Rattle.mt1.specs.Message.{System, Message, count, count_before, cells_of}
use Rattle.mt1.specs.Records.{build, cell_records}
use Rattle.reader.specs.Recording.{EmitsOf, RowOf, InRow}
use Rattle.reader.proofs.Emitting.{Wrote}
use Rattle.reader.proofs.record.SystemRecords.emit_cells.Given as goal

abbrev pub invariant-loop-g : goal.invariant-loop-g
invariant-loop-g l =
    (l.g ≤ 16) × (length l.out ≡ length l.initial.out)
    × ((m : Message) (s : System) → EmitsOf l.self m s → RowOf s l.i l.n → l.cell ≡ count_before (cells_of s) (l.n * count s.signals)
    → InRow s l.n l.g l.c × Wrote (build l.g (cell_records m l.self.p s l.i)) l.octet l.c.octet l.initial.out l.out)
