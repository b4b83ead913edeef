-- What is logged of an answer, case by case: how much room it takes, and that its octets are those of the answer.
-- The answer that the code has tells its case, and its buffer holds the message in front.
use mathlib.Core.List.{List, [], ◌∷◌}
use mathlib.Core.Path.{◌≡◌, refl, sym, ap, subst}
use Prim.Native.Nat.{ℕ, ◌+◌, ◌*◌, ◌≤◌}
use native.Mathlib.Omega.{arith}
use lib.ListN.{length, take, drop}
use lib.Seq.{length-take-le, take_at}
use Rattle.refusal.specs.declared.Refusal.{Refusal}
use Rattle.collector.specs.declared.state.Fed.{Fed}
use Rattle.collector.specs.declared.state.Fed.TheVariants.{Ready}
use Rattle.std.specs.Prelude.{Result, Ok}
use Rattle.collector.specs.Feed.{Answer, kept, ready, refused, written}
use Rattle.collector.specs.Image.{answer_image}
use Rattle.collector.proofs.Holdings.{Counted}
use Rattle.drive.specs.Drive.{logged}
use Rattle.drive.specs.Steps.{Appends, Small, fed_log}
use Rattle.drive.proofs.Appending.{appends-both}

-- ---- the room of each case
module _ {answer : Result Fed Refusal} (out : List ℕ) (at room : ℕ) (small : Small answer) (fits : at + length (fed_log answer out) ≤ room) where
  fits-as : {a : Result Fed Refusal} → answer ≡ a → at + length (fed_log a out) ≤ room
  fits-as e = subst (λ (a : Result Fed Refusal). at + length (fed_log a out) ≤ room) e fits

  pub ready-fits : {k : ℕ} → length out ≡ 1696 → answer ≡ Ok (Ready k) → (k ≤ 32) × (length (take (k * 53) out) ≡ k * 53) × (at + (2 + k * 53) ≤ room)
  ready-fits {k} l e =
      let few : k ≤ 32 = subst Small e small in
      let long = length-take-le (k * 53) out (omega (arith, few, l)) in
      (few, long, omega (arith, fits-as e, long))

-- ---- what each case lays
module _ {answer : Result Fed Refusal} (out log after : List ℕ) (at end : ℕ) where
  lays : {a : Result Fed Refusal} → answer ≡ a → Appends log at (fed_log a out) after end → Appends log at (fed_log answer out) after end
  lays e = subst (λ (a : Result Fed Refusal). Appends log at (fed_log a out) after end) (sym e)

  pub lays-ready : {k between : ℕ} {middle : List ℕ} → answer ≡ Ok (Ready k) → at + (2 + length (take (k * 53) out)) ≤ length log
      → Appends log at (2 ∷ k ∷ []) middle between → Appends middle between (take (k * 53) out) after end → Appends log at (fed_log answer out) after end
  lays-ready {k} e room a b = lays e (appends-both {l = 2 ∷ k ∷ []} {k = take (k * 53) out} room a b)

-- ---- the octets are those of the answer
pub fed-small : (a : Answer) (h h' : ℕ) → Counted a h h' → Small (answer_image a)
fed-small (kept n) h h' c = c.0
fed-small (ready k octets) h h' c = c.0
fed-small (refused r) h h' c = tt

pub fed-logged : (a : Answer) (before : List ℕ) (h h' : ℕ) → Counted a h h' → fed_log (answer_image a) (written a before) ≡ logged a
fed-logged (kept n) before h h' c = refl
fed-logged (ready k octets) before h h' c = ap (λ (l : List ℕ). 2 ∷ k ∷ l) (take_at octets (drop (length octets) before) (k * 53) c.1)
fed-logged (refused r) before h h' c = refl
