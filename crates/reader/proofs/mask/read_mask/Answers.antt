-- The exits in order: how many systems, the first one's GNSS ID, the first system; then the end of the mask, or its second system.
use mathlib.Core.List.{[]}
use mathlib.Core.Logic.{inl, inr}
use mathlib.Core.Path.{◌≡◌, sym, ap, ap₂, ◌∙◌}
use Prim.Native.Nat.{◌+◌}
use native.Mathlib.Omega.{arith}
use Rattle.std.specs.Prelude.{Err}
use Rattle.bits.specs.Bits.{bits_of}
use Rattle.mt1.specs.Parse.{field, judged, wrong_id}
use Rattle.mt1.specs.Mt1.{known, system}
use Rattle.reader.specs.declared.mask.SystemPlan.{SystemPlan}
use Rattle.reader.specs.Steps.{mask_end, mask_answer}
use Rattle.reader.proofs.Fields.{handed, field-ends, judged-ends, field-got, field-bad}
use Rattle.reader.proofs.SystemSteps.{system-bad, system-got, system-near}
use Rattle.reader.proofs.MaskSteps.{count-bad, count-wrong, first-id-bad, first-bad, mask_one, mask-two}
use Rattle.reader.proofs.mask.read_mask.Goals as goal
use Rattle.reader.proofs.mask.read_mask.Goals.{then-n-lt1-via-then-n-lt1, then-n-lt1-via-else-n-lt1+then-n-gt2}

pub returns-in_err-n : goal.returns-in_err-n
returns-in_err-n c =
    let a = c.args in
    let bs = bits_of a.octets.now in
    handed _ c.from_residual.ensures.1 ∙ sym (ap (mask_answer a.at) (count-bad a.at bs (field-bad (field 4 bs a.at) c.in_err-n.ensures)))

pub returns-then-n-lt1 : goal.returns-then-n-lt1
returns-then-n-lt1 c =
    let a = c.args in
    let bs = bits_of a.octets.now in
    ap Err c.refuse.ensures
    ∙ sym (ap (mask_answer a.at) (count-wrong a.at bs (field-got (field 4 bs a.at) (field-ends 4 bs a.at) c.in_ok-n.ensures)
    (elim c.then-n-lt1.branch [
      | then-n-lt1-via-then-n-lt1 w ↦ inl w.if-n-lt1.true
      | then-n-lt1-via-else-n-lt1+then-n-gt2 w ↦ inr w.if-n-gt2.true
    ])))

pub returns-in_err-id : goal.returns-in_err-id
returns-in_err-id c =
    let a = c.args in
    let bs = bits_of a.octets.now in
    let n = field-got (field 4 bs a.at) (field-ends 4 bs a.at) c.in_ok-n.ensures in
    handed _ c.from_residual-in_err-id.ensures.1
    ∙ sym (ap (mask_answer a.at) (first-id-bad a.at bs n (omega (arith, c.if-n-lt1.false)) (omega (arith, c.if-n-gt2.false)) (field-bad (judged 4 (wrong_id known []) bs (a.at + 4)) c.in_err-id.ensures)))

pub returns-in_err-first : goal.returns-in_err-first
returns-in_err-first c =
    let a = c.args in
    let bs = bits_of a.octets.now in
    let n = field-got (field 4 bs a.at) (field-ends 4 bs a.at) c.in_ok-n.ensures in
    let wrong = wrong_id known [] in
    let id = field-got (judged 4 wrong bs (a.at + 4)) (judged-ends 4 wrong bs (a.at + 4)) c.in_ok-id.ensures in
    handed _ c.from_residual-in_err-first.ensures.1
    ∙ sym (ap (mask_answer a.at) (first-bad a.at bs n (omega (arith, c.if-n-lt1.false)) (omega (arith, c.if-n-gt2.false)) id (system-bad (a.at + 8) (system c.in_ok-id.id bs (a.at + 8)) c.in_err-first.ensures)))

pub second_system-requires : goal.second_system-requires
second_system-requires c = omega (arith, system-near c.in_ok-id.id (c.args.at + 8) (bits_of c.args.octets.now) c.in_ok-first.ensures, c.requires)

pub returns-then-n-eq2 : goal.returns-then-n-eq2
returns-then-n-eq2 c =
    let a = c.args in
    let bs = bits_of a.octets.now in
    let n = field-got (field 4 bs a.at) (field-ends 4 bs a.at) c.in_ok-n.ensures in
    let wrong = wrong_id known [] in
    let id = field-got (judged 4 wrong bs (a.at + 4)) (judged-ends 4 wrong bs (a.at + 4)) c.in_ok-id.ensures in
    system-got (a.at + 8) (system c.in_ok-id.id bs (a.at + 8)) c.in_ok-first.ensures λ t h p.
    mask-two a.at bs n (omega (arith, c.if-n-lt1.false)) (omega (arith, c.if-n-gt2.false)) id h c.if-n-eq2.true p c.second_system.ensures

pub end_mask-requires : goal.end_mask-requires
end_mask-requires c = omega (arith, system-near c.in_ok-id.id (c.args.at + 8) (bits_of c.args.octets.now) c.in_ok-first.ensures, c.requires)

pub returns : goal.returns
returns c =
    let a = c.args in
    let bs = bits_of a.octets.now in
    let n = field-got (field 4 bs a.at) (field-ends 4 bs a.at) c.in_ok-n.ensures in
    let wrong = wrong_id known [] in
    let id = field-got (judged 4 wrong bs (a.at + 4)) (judged-ends 4 wrong bs (a.at + 4)) c.in_ok-id.ensures in
    let one : c.in_ok-n.n ≡ 1 = omega (arith, c.if-n-lt1.false, c.if-n-gt2.false, c.if-n-eq2.false) in
    system-got (a.at + 8) (system c.in_ok-id.id bs (a.at + 8)) c.in_ok-first.ensures λ t h p.
    c.end_mask.ensures
    ∙ ap₂ (λ (plan none : SystemPlan). mask_end (record { systems = 1; first = plan; second = none }) (field 6 bs c.in_ok-first.first.end)) p c.no_system.ensures
    ∙ mask_one a.at bs n (omega (arith, c.if-n-lt1.false)) (omega (arith, c.if-n-gt2.false)) id h one
