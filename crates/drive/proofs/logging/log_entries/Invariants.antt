-- After i turns the code holds the collector that i entries left, and the log of these. There is room for one entry more, as 55 octets an entry are enough.
use mathlib.Core.Path.{◌≡◌}
use Prim.Native.Nat.{◌*◌, ◌≤◌}
use lib.ListN.{length, drop}
use Rattle.std.specs.Slice.Iter.{chunks_exact_rest, chunks_exact_size}
use Rattle.drive.proofs.Entries.{Going}
use Rattle.drive.proofs.logging.log_entries.Given as goal

abbrev pub invariant-loop-entry : goal.invariant-loop-entry
invariant-loop-entry l =
    (goal.iterator-loop-entry).can_next l.entry-iterator × (goal.iterator-loop-entry).is_finite l.entry-iterator
    × (chunks_exact_size l.entry-iterator ≡ 64) × (length l.yielded * 64 ≤ length l.entries) × (chunks_exact_rest l.entry-iterator ≡ drop (length l.yielded * 64) l.entries)
    × (l.log.octets.ghost_name ≡ l.initial.log.octets.ghost_name) × (length l.log.octets.now ≡ length l.initial.log.octets.now)
    × Going l.initial.head.timeout (length l.yielded) l.entries l.head l.store l.initial.log.octets.now l.log.octets.now l.log.end
