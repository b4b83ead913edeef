-- After each turn the writer lacks the line of the octets that are left. The text is as long as at first, so it has room for a part.
use mathlib.Core.Path.{◌≡◌}
use Prim.Native.Nat.{◌/◌}
use lib.ListN.{length}
use Rattle.std.specs.Slice.Iter.{chunks_rest, chunks_size}
use Rattle.hex_text.specs.Hex.{line_of}
use Rattle.hex_text.proofs.Writing.{Lacks}
use Rattle.hex_text.proofs.write_by.Given as goal

abbrev pub invariant-loop-part : goal.invariant-loop-part
invariant-loop-part g l =
    (goal.iterator-loop-part g).can_next l.part-iterator × (goal.iterator-loop-part g).is_finite l.part-iterator
    × (chunks_size l.part-iterator ≡ length l.initial.text / 2) × (length l.text ≡ length l.initial.text)
    × Lacks (g.W.Write.contents l.initial.out) (g.W.Write.contents l.out) (line_of (chunks_rest l.part-iterator)) (line_of l.octets)
