-- The code is that of the answer.
use Prim.Native.Nat.{◌<◌}
use mathlib.Core.Path.{sym, subst}
use Prim.Native.Nat.{ℕ}
use Rattle.std.specs.Prelude.{Result}
use Rattle.refusal.specs.declared.Refusal.{Refusal}
use Rattle.has_c.specs.Codes.{Is, value_code}
use Rattle.has_c.proofs.Values.{time-few}
use Rattle.has_c.proofs.has_reference_time.Goals as goal

pub value_code-requires : goal.value_code-requires
value_code-requires c =
    let a = c.args in
    subst (λ (x : Result ℕ Refusal). (value_code x).value < 4294967296) (sym c.reference_time.ensures) (time-few a.second a.time)

pub returns : goal.returns
returns c = subst (λ (x : Result ℕ Refusal). Is (value_code x) c.value_code.result) c.reference_time.ensures c.value_code.ensures
