-- A number names one case only: the case can be read off its number again.
use mathlib.Core.List.{List, [], ◌∷◌}
use mathlib.Core.Logic.{◌≢◌}
use mathlib.Core.Path.{◌≡◌, refl, sym, ap, ◌∙◌}
use Prim.Native.Nat.{ℕ, ◌-◌}
use native.Mathlib.Omega.{arith}
use lib.ListN.{get_or}
use Rattle.refusal.specs.Number.{number_of}
use Rattle.refusal.specs.declared.Refusal.{Refusal}
use Rattle.refusal.specs.declared.Refusal.TheVariants.{Length, Out, Second, Clock, Dummy, Stop, Status, Kind, PageNumber, Done, Repeat, Conflict, Full, Timeout, Id, Toh, Mask, Short, Count, System, Twice, NavMsg, Validity, Form, Long}

-- the cases by number, from 1 on
cases : List Refusal
cases =
    Length ∷ Out ∷ Second ∷ Clock ∷ Dummy ∷ Stop ∷ Status ∷ Kind ∷ PageNumber ∷ Done ∷ Repeat ∷ Conflict ∷ Full ∷ Timeout ∷ Id ∷ Toh ∷ Mask ∷ Short ∷ Count ∷ System ∷ Twice ∷ NavMsg ∷ Validity ∷ Form ∷ Long ∷ []

case_of : ℕ → Refusal
unfolding cases
case_of n = get_or cases (n - 1) Length

back : (r : Refusal) → case_of (number_of r) ≡ r
unfolding case_of
back Length = refl
back Out = refl
back Second = refl
back Clock = refl
back Dummy = refl
back Stop = refl
back Status = refl
back Kind = refl
back PageNumber = refl
back Done = refl
back Repeat = refl
back Conflict = refl
back Full = refl
back Timeout = refl
back Id = refl
back Toh = refl
back Mask = refl
back Short = refl
back Count = refl
back System = refl
back Twice = refl
back NavMsg = refl
back Validity = refl
back Form = refl
back Long = refl

pub one-case : (a b : Refusal) → number_of a ≡ number_of b → a ≡ b
one-case a b e = sym (back a) ∙ ap case_of e ∙ back b

-- 0 is no refusal's number
pub no-nought : (r : Refusal) → number_of r ≢ 0
unfolding case_of
no-nought r e =
    let one : number_of r ≡ 1 = ap number_of (sym (back r) ∙ ap case_of e) in
    omega arith
