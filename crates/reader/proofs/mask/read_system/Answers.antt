-- The exits in the order of the fields: the satellite mask, the signal mask, the cell flag; from the cell mask on by `end_system`.
use mathlib.Core.Path.{refl, sym, ap, subst⁻¹, ◌≡◌, ◌∙◌}
use Prim.Native.Nat.{ℕ, ◌≤◌}
use native.Mathlib.Omega.{arith}
use lib.ListN.{take, drop}
use Rattle.bits.specs.Bits.{bits_of}
use Rattle.mt1.specs.Parse.{Outcome, raw, field}
use Rattle.mt1.specs.Message.{System}
use Rattle.reader.specs.Steps.{system_answer}
use Rattle.reader.proofs.Fields.{handed, field-ends, field-got, field-bad, step-bad, skipped, count-few}
use Rattle.reader.proofs.Ones.{ones}
use Rattle.reader.proofs.SystemSteps.{satellites-bad, signals-bad, flag-bad, to-cells}
use Rattle.reader.proofs.mask.read_system.Goals as goal

pub returns-in_err-signals_at : goal.returns-in_err-signals_at
returns-in_err-signals_at c =
    let a = c.args in
    let bs = bits_of a.octets.now in
    handed _ c.from_residual.ensures.1 ∙ sym (ap (system_answer a.place) (satellites-bad a.id a.place bs (step-bad (raw 40 bs a.place) c.in_err-signals_at.ensures)))

pub skip-requires-2 : goal.skip-requires-2
skip-requires-2 c = (omega (arith, (skipped 40 (bits_of c.args.octets.now) c.args.place c.in_ok-signals_at.ensures).0, c.requires), omega arith)

pub returns-in_err-flag_at : goal.returns-in_err-flag_at
returns-in_err-flag_at c =
    let a = c.args in
    let bs = bits_of a.octets.now in
    let i = c.in_ok-signals_at in
    handed _ c.from_residual-in_err-flag_at.ensures.1
    ∙ sym (ap (system_answer a.place) (signals-bad a.id a.place bs (skipped 40 bs a.place i.ensures) (step-bad (raw 16 bs i.signals_at) c.in_err-flag_at.ensures)))

pub returns-in_err-flag : goal.returns-in_err-flag
returns-in_err-flag c =
    let a = c.args in
    let bs = bits_of a.octets.now in
    let i = c.in_ok-signals_at in
    let j = c.in_ok-flag_at in
    handed _ c.from_residual-in_err-flag.ensures.1
    ∙ sym (ap (system_answer a.place) (flag-bad a.id a.place bs (skipped 40 bs a.place i.ensures) (skipped 16 bs i.signals_at j.ensures) (field-bad (field 1 bs j.flag_at) c.in_err-flag.ensures)))

pub count_bits-signals-requires : goal.count_bits-signals-requires
count_bits-signals-requires c = (omega (arith, (skipped 40 (bits_of c.args.octets.now) c.args.place c.in_ok-signals_at.ensures).0, c.requires), omega arith)

pub end_system-requires : goal.end_system-requires
end_system-requires c =
    let a = c.args in
    let bs = bits_of a.octets.now in (
      c.requires,
      subst⁻¹ (λ (x : ℕ). x ≤ 40) (c.count_bits-satellites.ensures ∙ ones bs a.place 40) (count-few 40 (drop a.place bs)),
      subst⁻¹ (λ (x : ℕ). x ≤ 16) (c.count_bits-signals.ensures ∙ ones bs c.in_ok-signals_at.signals_at 16) (count-few 16 (drop c.in_ok-signals_at.signals_at bs)),
    )

pub returns : goal.returns
returns c =
    let a = c.args in
    let bs = bits_of a.octets.now in
    let i = c.in_ok-signals_at in
    let j = c.in_ok-flag_at in
    let flag = field-got (field 1 bs j.flag_at) (field-ends 1 bs j.flag_at) c.in_ok-flag.ensures in
    subst⁻¹ (λ (o : Outcome System). c.end_system.result ≡ system_answer a.place o) (to-cells a.id a.place bs (skipped 40 bs a.place i.ensures) (skipped 16 bs i.signals_at j.ensures) flag)
    (c.end_system.ensures (take 40 (drop a.place bs)) (take 16 (drop i.signals_at bs)) c.in_ok-flag.flag (c.count_bits-satellites.ensures ∙ ones bs a.place 40) (c.count_bits-signals.ensures ∙ ones bs i.signals_at 16) refl)
