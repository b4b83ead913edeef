-- How a bit string is read: 01, Message type 1. A parser is given the whole string, of any length, and a place in it.
-- It gets a value and the place behind it, or it is bad: a refusal with the place that it names. Leans on bit strings.
use Rattle.std.specs.Prelude.{ℕ, zero, suc, ◌+◌, Bool, true, false, cond, List, [], ◌∷◌, take, drop}
use Rattle.std.proofs.Math.Option.{Option, none, some}
use Rattle.bits.specs.Bits.{value, fits_in}
use Rattle.lists.specs.Lists.{memb}
use Rattle.refusal.specs.declared.Refusal.{Refusal}
use Rattle.refusal.specs.declared.Refusal.TheVariants.{Short, System, Twice}
use Rattle.mt1.specs.declared.answer.RefusalAt.{RefusalAt}

pub data Outcome (A : Type 0) : Type 0 where
  got : A → ℕ → Outcome A
  bad : RefusalAt → Outcome A

abbrev pub Parser : Type 0 → Type 0
Parser A = List Bool → ℕ → Outcome A

-- "Every refusal names a bit place"
abbrev pub refuse : Refusal → ℕ → RefusalAt
refuse w at = record { why = w; place = at }

-- one parser behind another: a refusal stays
abbrev pub next : {A B : Type 0} → Outcome A → (A → ℕ → Outcome B) → Outcome B
next (got a at) k = k a at
next (bad r) k = bad r

infixl 10 ◌>>=◌
unfoldable pub ◌>>=◌ : {A B : Type 0} → Parser A → (A → Parser B) → Parser B
◌>>=◌ p k bs at = next (p bs at) (λ a end. k a bs end)

unfoldable pub ret : {A : Type 0} → A → Parser A
ret a bs at = got a at

unfoldable pub fail : {A : Type 0} → RefusalAt → Parser A
fail r bs at = bad r

-- ---- fields
-- "A field that does not fit is SHORT before its value is judged", at "the field's first bit": n bits as they are
unfoldable pub raw : ℕ → Parser (List Bool)
raw n bs at = cond (fits_in bs at n) (got (take n (drop at bs)) (at + n)) (bad (refuse Short at))

-- n bits as a number
unfoldable pub field : ℕ → Parser ℕ
unfolding raw value
field n bs at = next (raw n bs at) (λ b end. got (value b) end)

-- a number that is judged by what is wrong with it, if anything
abbrev pub verdict : Option Refusal → ℕ → ℕ → ℕ → Outcome ℕ
verdict none v at end = got v end
verdict (some w) v at end = bad (refuse w at)

unfoldable pub judged : ℕ → (ℕ → Option Refusal) → Parser ℕ
unfolding field
judged n wrong bs at = next (field n bs at) (λ v end. verdict (wrong v) v at end)

-- ---- several
-- n in a row
unfoldable pub times : {A : Type 0} → ℕ → Parser A → Parser (List A)
unfolding ◌>>=◌ ret
times zero p = ret []
times (suc n) p = p >>= λ x. times n p >>= λ xs. ret (x ∷ xs)

-- one for each of a list
unfoldable pub for_each : {S A : Type 0} → List S → (S → Parser A) → Parser (List A)
unfolding ◌>>=◌ ret
for_each [] p = ret []
for_each (s ∷ ss) p = p s >>= λ x. for_each ss p >>= λ xs. ret (x ∷ xs)

-- one, if it is there
abbrev pub optional : {A : Type 0} → Bool → Parser A → Parser (Option A)
optional true p = p >>= λ x. ret (some x)
optional false p = ret none

-- ---- systems by GNSS ID
-- "A GNSS ID that is reserved or, in the subset, not in the mask: SYSTEM; given twice in one block: TWICE": those that may come, and those that came
unfoldable pub wrong_id : List ℕ → List ℕ → ℕ → Option Refusal
wrong_id may came id = cond (memb id may) (cond (memb id came) (some Twice) none) (some System)

-- n systems of different IDs, each read behind its ID
unfoldable pub systems : {A : Type 0} → List ℕ → (ℕ → Parser A) → List ℕ → ℕ → Parser (List A)
unfolding ◌>>=◌ ret judged wrong_id
systems may p came zero = ret []
systems may p came (suc n) = do
  id ← judged 4 (wrong_id may came)
  x ← p id
  xs ← systems may p (id ∷ came) n
  ret (x ∷ xs)
