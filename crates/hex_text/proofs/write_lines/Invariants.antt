-- After each turn the writer lacks the lines of the octets that are left.
use mathlib.Core.Path.{◌≡◌}
use Rattle.std.specs.Slice.Iter.{chunks_exact_rest, chunks_exact_size}
use Rattle.hex_text.specs.Hex.{lines_of}
use Rattle.hex_text.proofs.Writing.{Lacks, all_lines}
use Rattle.hex_text.proofs.write_lines.Given as goal

abbrev pub invariant-loop-chunk : goal.invariant-loop-chunk
invariant-loop-chunk g l =
    (goal.iterator-loop-chunk g).can_next l.chunk-iterator × (goal.iterator-loop-chunk g).is_finite l.chunk-iterator
    × (chunks_exact_size l.chunk-iterator ≡ l.size)
    × Lacks (g.W.Write.contents l.initial.out) (g.W.Write.contents l.out) (all_lines l.size (chunks_exact_rest l.chunk-iterator)) (lines_of l.lines l.size l.octets)
