-- Interval and count, each behind the one before it, then the parts: the first that refuses is the block's refusal.
use native.Mathlib.Omega.{arith}
use mathlib.Core.Logic.{inl, inr}
use mathlib.Core.Path.{sym, ap, ◌∙◌}
use Rattle.bits.specs.Bits.{bits_of}
use Rattle.bits.proofs.Octets.{length-bits_of}
use Rattle.mt1.specs.Parse.{bad, field}
use Rattle.mt1.specs.Mt1.{interval, subset}
use Rattle.reader.proofs.Fields.{handed, field-ends, field-got, field-bad, step-bad}
use Rattle.reader.proofs.Skipping.{field_fits}
use Rattle.reader.proofs.SubsetParts.{block-bad, count-bad, count-wrong, subset-is}
use Rattle.reader.proofs.block.Blocks.read_subset.Goals as goal
use Rattle.reader.proofs.block.Blocks.read_subset.Goals.{then-n-lt1-via-then-n-lt1, then-n-lt1-via-else-n-lt1+then-n-self}

pub returns-in_err-count_at : goal.returns-in_err-count_at
returns-in_err-count_at c ss place o =
    let a = c.args in
    let bs = bits_of a.self.now.octets.now in
    rw (handed c.from_residual.result c.from_residual.ensures.1) (block-bad (subset ss) bs a.at (step-bad (interval bs a.at) c.in_err-count_at.ensures))

pub returns-in_err-n : goal.returns-in_err-n
returns-in_err-n c ss place o =
    let a = c.args in
    let bs = bits_of a.self.now.octets.now in
    rw (handed c.from_residual-in_err-n.result c.from_residual-in_err-n.ensures.1)
    (count-bad bs o a.at (sym c.in_ok-count_at.ensures) (field-bad (field 4 bs c.in_ok-count_at.count_at) c.in_err-n.ensures))

pub returns-then-n-lt1 : goal.returns-then-n-lt1
returns-then-n-lt1 c ss place o =
    let a = c.args in
    let bs = bits_of a.self.now.octets.now in
    let at = c.in_ok-count_at.count_at in
    count-wrong bs o a.at (sym c.in_ok-count_at.ensures) (field-got (field 4 bs at) (field-ends 4 bs at) c.in_ok-n.ensures)
    (elim c.then-n-lt1.branch [
      | then-n-lt1-via-then-n-lt1 w ↦ inl w.if-n-lt1.true
      | then-n-lt1-via-else-n-lt1+then-n-self w ↦ inr w.if-n-self.true
    ])
    ∙ ap bad (sym c.refuse.ensures)

pub overflow_add-count_at : goal.overflow_add-count_at
overflow_add-count_at c =
    let bs = bits_of c.args.self.now.octets.now in
    let at = c.in_ok-count_at.count_at in
    omega (arith, field_fits bs 4 at (field-got (field 4 bs at) (field-ends 4 bs at) c.in_ok-n.ensures), length-bits_of c.args.self.now.octets.now, c.args.self.now.short)

pub read_parts-requires : goal.read_parts-requires
read_parts-requires c =
    let bs = bits_of c.args.self.now.octets.now in
    let at = c.in_ok-count_at.count_at in
    (omega (arith, c.if-n-lt1.false), omega (arith, c.if-n-self.false))

pub returns : goal.returns
returns c ss place o =
    let a = c.args in
    let bs = bits_of a.self.now.octets.now in
    let at = c.in_ok-count_at.count_at in
    subset-is bs o a.at (sym c.in_ok-count_at.ensures) c.read_parts.result (field-got (field 4 bs at) (field-ends 4 bs at) c.in_ok-n.ensures)
    (omega (arith, c.if-n-lt1.false)) (omega (arith, c.if-n-self.false)) (c.read_parts.ensures ss place o)
