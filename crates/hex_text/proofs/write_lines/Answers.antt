-- After each turn the writer lacks the lines of the octets that are left.
use mathlib.Core.Path.{◌≡◌, ap, ap₂, ◌∙◌, subst}
use Prim.Native.Nat.{ℕ, min, max, ◌/◌, ◌≤◌, ◌<◌}
use native.Mathlib.Omega.{arith}
use lib.ListN.{length}
use Rattle.std.specs.Slice.Iter.{chunks_exact_rest, chunks_exact_size}
use Rattle.std.specs.Io.KnownBytes.{Appends}
use Rattle.hex_text.specs.Hex.{line_of, lines_of}
use Rattle.hex_text.proofs.Writing.{all_lines, lines-all, lines-next, lines-end, lacks-all, lacks-less, lacks_none}
use Rattle.hex_text.proofs.write_lines.Goals as goal

pub loop-chunk-init : goal.loop-chunk-init
loop-chunk-init g c =
    let octets = c.args.octets.now in
    let e = c.into_iter-chunk-iterator.ensures.into_iter_gives in
    let size : chunks_exact_size c.into_iter-chunk-iterator.result ≡ c.max-size.result = ap chunks_exact_size e ∙ c.chunks_exact-chunk-items.ensures.size in
    let rest = ap chunks_exact_rest e ∙ c.chunks_exact-chunk-items.ensures.rest in
    let some : 0 < c.max-size.result = omega arith in
    let few : c.min-lines.result ≤ length octets / c.max-size.result = omega arith in
    (omega (arith, size), tt, size, lacks-all (g.W.Write.contents c.args.out.now) _ _ (lines-all c.min-lines.result c.max-size.result octets (chunks_exact_rest c.into_iter-chunk-iterator.result) some few rest))

pub loop-chunk-preserved : goal.loop-chunk-preserved
loop-chunk-preserved g c =
    let v = c.loop-chunk.invariant in
    let s = c.in-Some.ensures.steps in
    let size = s.0 ∙ v.2 in
    let n = c.max-size.result in
    let some : 0 < n = omega arith in
    let chunk = c.in-Some.chunk.now in
    let was = chunks_exact_rest c.loop-chunk.chunk-iterator in
    let rest = chunks_exact_rest c.next.new.self in
    let all = lines_of c.min-lines.result n c.args.octets.now in (
      omega (arith, size),
      tt,
      size,
      lacks-less {was = all_lines n was} {all = all} (g.W.Write.contents c.write_line.new.out) (line_of chunk) (all_lines n rest) v.3 (lines-next n was chunk rest some s.1.0 (s.1.1 ∙ v.2)) c.in_ok-write_line.ensures,
    )

pub returns : goal.returns
returns g c =
    let v = c.loop-chunk.invariant in
    let octets = c.args.octets.now in
    let few : length (chunks_exact_rest c.loop-chunk.chunk-iterator) < c.max-size.result = omega (arith, c.in-None.ensures.steps.1.0, v.2) in
    let count : c.min-lines.result ≡ min c.args.n (length octets / max c.args.size 1) = omega (arith, ap (λ (k : ℕ). length octets / k) c.max-size.ensures) in
    subst (Appends (g.W.Write.contents c.args.out.now) (g.W.Write.contents c.loop-chunk.out)) (ap₂ (λ (k m : ℕ). lines_of k m octets) count c.max-size.ensures)
    (lacks_none {all = lines_of c.min-lines.result c.max-size.result octets} v.3 (lines-end c.max-size.result (chunks_exact_rest c.loop-chunk.chunk-iterator) few))
