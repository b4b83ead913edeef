-- What `read` and `read_octets` answer and write: 01, Message type 1, last paragraph, and Records.
-- Leans on the parser and the records, and of pagecode on which lengths are pages.
use Rattle.std.specs.Prelude.{ℕ, ◌/◌, Bool, ◌&&◌, cond, List, ◌≡◌, eqb, leb, length, Result, Ok, Err}
use Rattle.lists.specs.Lists.{laid}
use Rattle.bits.specs.Bits.{bits_of}
use Rattle.pagecode.specs.Encode.{are_pages}
use Rattle.refusal.specs.declared.Refusal.TheVariants.{Length, Out}
use Rattle.mt1.specs.declared.answer.RefusalAt.{RefusalAt}
use Rattle.mt1.specs.Parse.{Outcome, got, bad, refuse}
use Rattle.mt1.specs.Message.{Message}
use Rattle.mt1.specs.Mt1.{Lent, message}
use Rattle.mt1.specs.Records.{records_of}

-- "The reader takes 53k octets, a lent mask .. and a record buffer of 21,808 octets": of the buffer, how long it is
pub record Call : Type 0 where
  pub octets : List ℕ
  pub lent : Lent
  pub room : ℕ

-- what is read of octets whose number is good or not: "Checks: LENGTH, OUT, .."; "0 for LENGTH and OUT"
abbrev pub reading_if : Bool → Call → Outcome Message
reading_if good c = cond good (cond (eqb c.room 21808) (message c.lent (bits_of c.octets) 0) (bad (refuse Out 0))) (bad (refuse Length 0))

-- "Checks: LENGTH, OUT, TOH, MASK, then fields in reading order"; "0 for LENGTH and OUT"
unfoldable pub reading : Call → Outcome Message
unfolding are_pages bits_of message
reading c = reading_if (are_pages (length c.octets / 53) (length c.octets)) c

-- octets that need not be pages
unfoldable pub reading_octets : Call → Outcome Message
unfolding bits_of message
reading_octets c = reading_if (leb 4 (length c.octets) && leb (length c.octets) 20480) c

-- "A good answer gives the number of records"
abbrev pub answer_of : Lent → Outcome Message → Result ℕ RefusalAt
answer_of lent (got m end) = Ok (length (records_of lent m) / 16)
answer_of lent (bad r) = Err r

-- "the buffer behind them is untouched"; "No refusal writes a lent buffer"
abbrev pub buffer_of : Lent → Outcome Message → List ℕ → List ℕ
buffer_of lent (got m end) before = laid before 0 (records_of lent m)
buffer_of lent (bad r) before = before

-- the contract of `read` and of `read_octets`, whose buffer holds `before`, and then `after`
pub record Reads (how : Call → Outcome Message) (c : Call) (before : List ℕ) (answer : Result ℕ RefusalAt) (after : List ℕ) : Type 0 where
  pub answered : answer ≡ answer_of c.lent (how c)
  pub buffer : after ≡ buffer_of c.lent (how c) before
