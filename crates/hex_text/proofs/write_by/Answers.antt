-- After each turn the writer lacks the line of the octets that are left. The text is as long as at first, so it has room for a part.
use mathlib.Core.Path.{◌≡◌, refl, ap, ◌∙◌}
use Prim.Native.Nat.{◌/◌, ◌≤◌}
use native.Mathlib.Omega.{arith}
use lib.ListN.{length}
use Rattle.std.specs.Slice.Iter.{chunks_rest, chunks_size}
use Rattle.hex_text.specs.Hex.{hex_of, line_of}
use Rattle.hex_text.proofs.Writing.{line-next, line-end, spelt-all, lacks-all, lacks-less, lacks-last}
use Rattle.hex_text.proofs.write_by.Goals as goal

pub loop-part-init : goal.loop-part-init
loop-part-init g c =
    let e = c.into_iter-part-iterator.ensures.into_iter_gives in
    let size : chunks_size c.into_iter-part-iterator.result ≡ length c.args.text.now / 2 = ap chunks_size e ∙ c.chunks-part-items.ensures.size in
    let rest : chunks_rest c.into_iter-part-iterator.result ≡ c.args.octets.now = ap chunks_rest e ∙ c.chunks-part-items.ensures.rest in
    (omega (arith, size), tt, size, refl, lacks-all (g.W.Write.contents c.args.out.now) _ _ (ap line_of rest))

pub loop-part-preserved : goal.loop-part-preserved
loop-part-preserved g c =
    let v = c.loop-part.invariant in
    let s = c.in-Some.ensures.steps in
    let size = s.0 ∙ v.2 in
    let part = c.in-Some.part.now in
    let few : length part ≤ length c.loop-part.text / 2 = omega (arith, s.1.1, v.2, v.3) in
    let given = spelt-all (g.W.Write.contents c.loop-part.out) (g.W.Write.contents c.write_all.new.self) _ c.spell-count.ensures.spelt few c.in_ok-write_all.ensures.bytes (omega arith) in (
      omega (arith, size),
      tt,
      size,
      c.spell-count.auto.text ∙ v.3,
      lacks-less (g.W.Write.contents c.write_all.new.self) (hex_of part) (line_of (chunks_rest c.next.new.self)) v.4 (line-next (chunks_rest c.loop-part.part-iterator) part (chunks_rest c.next.new.self) s.1.0) given,
    )

pub returns : goal.returns
returns g c =
    let v = c.loop-part.invariant in
    lacks-last (g.W.Write.contents c.write_all-2.new.self) c.write_all-2.result v.4 (line-end (chunks_rest c.loop-part.part-iterator) c.in-None.ensures.steps.1.0) c.write_all-2.ensures.bytes
