-- The ID is one of the mask's systems and tells how many satellites its part has; what is passed over behind it is that part.
use Prim.Native.Nat.{◌+◌, ◌≤◌}
use native.Mathlib.Omega.{arith}
use mathlib.Core.List.{[], ◌∷◌}
use lib.Dec.{eqb}
use lib.ListN.{length-take}
use Rattle.bits.specs.Bits.{bits_of}
use Rattle.bits.proofs.Octets.{length-bits_of}
use Rattle.mt1.specs.Parse.{judged, wrong_id}
use Rattle.mt1.specs.Mt1.{subset_system}
use Rattle.reader.proofs.Fields.{handed, judged-ends, field-got, field-bad, step-bad}
use Rattle.reader.proofs.Skipping.{judged-end}
use Rattle.reader.specs.Steps.{step_of}
use mathlib.Core.Path.{ap}
use Rattle.reader.proofs.SubsetSteps.{ids-are, either-few, id-bad, satellites-there, part-bad, part-got}
use Rattle.reader.proofs.SubsetParts.{by-systems, systems-few}
use Rattle.reader.proofs.block.Blocks.read_part.Goals as goal

pub slice_bounds-ids-end : goal.slice_bounds-ids-end
slice_bounds-ids-end c = by-systems c.args.self.now.made λ ss place o. systems-few o

pub slice_bounds-read_id-end : goal.slice_bounds-read_id-end
slice_bounds-read_id-end c =
    let mask = c.args.self.now.mask in
    let few : mask.systems ≤ 2 = by-systems c.args.self.now.made λ ss place o. systems-few o in
    omega (arith, length-take mask.systems (mask.first.id ∷ mask.second.id ∷ []), few)

pub returns-in_err-id : goal.returns-in_err-id
returns-in_err-id c ss place o =
    let a = c.args in
    let bs = bits_of a.self.now.octets.now in
    rw (handed c.from_residual.result c.from_residual.ensures.1) (id-bad bs o a.came.now a.at (ids-are o) (field-bad (judged 4 (wrong_id _ a.came.now) bs a.at) c.in_err-id.ensures))

pub overflow_add-place : goal.overflow_add-place
overflow_add-place c =
    let a = c.args in
    let bs = bits_of a.self.now.octets.now in
    let wrong = wrong_id _ a.came.now in
    let came = field-got (judged 4 wrong bs a.at) (judged-ends 4 wrong bs a.at) c.in_ok-id.ensures in
    omega (arith, (judged-end bs 4 wrong a.at (a.at + 4) (ap step_of came)).1, length-bits_of a.self.now.octets.now, a.self.now.short)

pub skip_part-requires : goal.skip_part-requires
skip_part-requires c =
    let a = c.args in
    by-systems a.self.now.made λ ss place o. omega (arith, c.satellites_of.ensures, either-few o (eqb c.in_ok-id.id a.self.now.mask.first.id))

pub returns-in_err-end : goal.returns-in_err-end
returns-in_err-end c ss place o =
    let a = c.args in
    let bs = bits_of a.self.now.octets.now in
    let id = c.in_ok-id.id in
    let came = field-got (judged 4 (wrong_id _ a.came.now) bs a.at) (judged-ends 4 (wrong_id _ a.came.now) bs a.at) c.in_ok-id.ensures in
    let n = satellites-there bs o a.came.now a.at (ids-are o) came c.satellites_of.ensures in
    rw (handed c.from_residual-in_err-end.result c.from_residual-in_err-end.ensures.1)
    (part-bad bs o a.came.now a.at (ids-are o) came (step-bad (subset_system ss id bs (a.at + 4)) (c.in_err-end.ensures ss id n)))

pub returns : goal.returns
returns c ss place o =
    let a = c.args in
    let bs = bits_of a.self.now.octets.now in
    let id = c.in_ok-id.id in
    let came = field-got (judged 4 (wrong_id _ a.came.now) bs a.at) (judged-ends 4 (wrong_id _ a.came.now) bs a.at) c.in_ok-id.ensures in
    let n = satellites-there bs o a.came.now a.at (ids-are o) came c.satellites_of.ensures in
    let (x, e, same, span) = part-got bs o a.came.now a.at (ids-are o) came (c.in_ok-end.ensures ss id n) in
    (x, e, same, c.with_part.ensures, span)
