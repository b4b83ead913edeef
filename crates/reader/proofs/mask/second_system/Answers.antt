-- The exits in order: the GNSS ID, the system; then the end of the mask.
use mathlib.Core.List.{[], ◌∷◌}
use mathlib.Core.Path.{sym, ap, ◌∙◌}
use Prim.Native.Nat.{◌+◌}
use native.Mathlib.Omega.{arith}
use Rattle.bits.specs.Bits.{bits_of}
use Rattle.mt1.specs.Parse.{field, judged, wrong_id}
use Rattle.mt1.specs.Mt1.{known, system}
use Rattle.reader.specs.declared.mask.SystemPlan.{SystemPlan}
use Rattle.reader.specs.Steps.{mask_end, second_answer}
use Rattle.reader.proofs.Fields.{handed, judged-ends, field-got, field-bad}
use Rattle.reader.proofs.SystemSteps.{system-bad, system-got, system-near}
use Rattle.reader.proofs.MaskSteps.{second-id-bad, second-bad, second-end}
use Rattle.reader.proofs.mask.second_system.Goals as goal

pub returns-in_err-id : goal.returns-in_err-id
returns-in_err-id c =
    let a = c.args in
    let bs = bits_of a.octets.now in
    handed _ c.from_residual.ensures.1
    ∙ sym (ap (second_answer a.first a.at) (second-id-bad a.first.id a.at bs (field-bad (judged 4 (wrong_id known (a.first.id ∷ [])) bs a.at) c.in_err-id.ensures)))

pub returns-in_err-second : goal.returns-in_err-second
returns-in_err-second c =
    let a = c.args in
    let bs = bits_of a.octets.now in
    let wrong = wrong_id known (a.first.id ∷ []) in
    let id = field-got (judged 4 wrong bs a.at) (judged-ends 4 wrong bs a.at) c.in_ok-id.ensures in
    handed _ c.from_residual-in_err-second.ensures.1
    ∙ sym (ap (second_answer a.first a.at) (second-bad a.first.id a.at bs id (system-bad (a.at + 4) (system c.in_ok-id.id bs (a.at + 4)) c.in_err-second.ensures)))

pub end_mask-requires : goal.end_mask-requires
end_mask-requires c =
    let a = c.args in
    omega (arith, system-near c.in_ok-id.id (a.at + 4) (bits_of a.octets.now) c.in_ok-second.ensures, c.requires)

pub returns : goal.returns
returns c =
    let a = c.args in
    let bs = bits_of a.octets.now in
    let wrong = wrong_id known (a.first.id ∷ []) in
    let id = field-got (judged 4 wrong bs a.at) (judged-ends 4 wrong bs a.at) c.in_ok-id.ensures in
    system-got (a.at + 4) (system c.in_ok-id.id bs (a.at + 4)) c.in_ok-second.ensures λ t e p.
    c.end_mask.ensures ∙ ap (λ (plan : SystemPlan). mask_end (record { systems = 2; first = a.first; second = plan }) (field 6 bs c.in_ok-second.second.end)) p
    ∙ sym (second-end a.first.id a.at bs id a.first e)
