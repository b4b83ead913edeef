-- What a call answers in C: one number of 64 bits, the refusal's number in its high 32 bits, 0 for none, and the value in its low 32 bits.
-- Leans on the numbers of the refusals, and on the answers of the calls.
use Rattle.std.specs.Prelude.{ℕ, ◌+◌, ◌/◌, ◌%◌, ◌≡◌, Result, Ok, Err}
use Rattle.refusal.specs.declared.Refusal.{Refusal}
use Rattle.refusal.specs.Number.{number_of}
use Rattle.pagecode.specs.Answer.{Answer}
use Rattle.collector.specs.declared.state.Fed.{Fed}
use Rattle.collector.specs.declared.state.Fed.TheVariants.{Kept, Ready}
use Rattle.mt1.specs.declared.answer.RefusalAt.{RefusalAt}

pub record Code : Type 0 where
  pub number : ℕ
  pub value : ℕ

-- r has them in its halves
pub record Is (c : Code) (r : ℕ) : Type 0 where
  pub high : r / 4294967296 ≡ c.number
  pub low : r % 4294967296 ≡ c.value

-- the contract of a call: r is the code of an answer that the contract of the call behind it allows
abbrev pub Codes : {A : Type 0} → (A → Type 0) → (A → Code) → ℕ → Type 0
Codes {A} Allowed code r = (a : A) × Allowed a × Is (code a) r

-- ---- the codes of the answers
abbrev pub good : ℕ → Code
good value = record { number = 0; value = value }

abbrev pub refused : Refusal → ℕ → Code
refused r value = record { number = number_of r; value = value }

-- of an answer that has no value of its own: that of the call
abbrev pub page_code : ℕ → Answer → Code
page_code value (Ok _) = good value
page_code value (Err r) = refused r 0

-- how many records, or the bit place of the refusal
abbrev pub read_code : Result ℕ RefusalAt → Code
read_code (Ok n) = good n
read_code (Err r) = refused r.why r.place

-- the size that is written, the second that a time of hour means, or how many octets of log
abbrev pub value_code : Result ℕ Refusal → Code
value_code (Ok value) = good value
value_code (Err r) = refused r 0

-- 1 for KEPT and 2 for READY in bits 24 to 31, the count or the size below
abbrev pub fed_code : Result Fed Refusal → Code
fed_code (Ok (Kept n)) = good (16777216 + n)
fed_code (Ok (Ready k)) = good (33554432 + k)
fed_code (Err r) = refused r 0
