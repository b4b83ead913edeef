-- What both calls answer: 01, Refusal numbers.
-- Leans on the table of refusals.
use Rattle.std.specs.Prelude.{Bool, true, false, List, ℕ, Result, Ok, Err}
use Rattle.refusal.specs.Number.{number_of}
use Rattle.refusal.specs.declared.Refusal.{Refusal}

-- done, or the refusal
abbrev pub Answer : Type 0
Answer = Result (Unit {0}) Refusal

-- the number of an answer: 0, which no refusal has, where nothing is refused
abbrev pub answer_number : Answer → ℕ
answer_number (Ok _) = 0
answer_number (Err r) = number_of r

-- one check of a list of checks: where the test fails, its refusal; else what follows
abbrev pub check : Bool → Refusal → Answer → Answer
check true r next = next
check false r next = Err r

-- "No refusal writes a lent buffer"
abbrev pub when_good : Answer → List ℕ → List ℕ → List ℕ
when_good (Ok _) new old = new
when_good (Err r) new old = old
