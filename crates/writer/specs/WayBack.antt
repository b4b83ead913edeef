-- The way back of message type 1: 01, Records, last sentence of "The writer takes", and 00, demand 2.
-- Leans on the contracts of `write` and of `read`.
use Rattle.std.specs.Prelude.{ℕ, ◌*◌, ◌/◌, Bool, List, ◌≡◌, length, take, Result, Ok}
use Rattle.lists.specs.Lists.{laid}
use Rattle.bits.specs.Bits.{octets_of}
use Rattle.mt1.specs.Mt1.{Lent}
use Rattle.mt1.specs.declared.answer.RefusalAt.{RefusalAt}
use Rattle.reader.specs.Reader as reader
use Rattle.refusal.specs.declared.Refusal.{Refusal}
use Rattle.writer.specs.Writer as writer

-- what `read` answers of octets, with a mask lent and a buffer that holds `before`, and then `after`
abbrev pub ReadsAs : Lent → List ℕ → List ℕ → Result ℕ RefusalAt → List ℕ → Type 0
ReadsAs lent octets before answer after = reader.Reads reader.reading (record { octets = octets; lent = lent; room = 21808 }) before answer after

-- what `write` answers of records
abbrev pub WritesAs : Lent → List ℕ → List ℕ → Result ℕ Refusal → List ℕ → Type 0
WritesAs lent l before answer after = writer.Writes (record { records = l; lent = lent; room = 1696 }) before answer after

-- "With the same mask lent, ..
pub record WayBack (lent : Lent) : Type 0 where
  -- .. writing and reading gives the same records"
  pub write-then-read : (l before after : List ℕ) (k : ℕ) → WritesAs lent l before (Ok k) after
      → (room room' : List ℕ) (answer : Result ℕ RefusalAt) → ReadsAs lent (take (53 * k) after) room answer room'
      → (answer ≡ Ok (length l / 16)) × (room' ≡ laid room 0 l)
  -- .. reading and writing again gives the same octets for a message already so written": it is read to l, and l is written to it
  pub read-then-write : (l : List ℕ) (k : ℕ) (bs : List Bool) → writer.SoWritten lent l k bs
      → ((room room' : List ℕ) (answer : Result ℕ RefusalAt) → ReadsAs lent (octets_of bs) room answer room' → (answer ≡ Ok (length l / 16)) × (room' ≡ laid room 0 l))
      × ((before after : List ℕ) (answer : Result ℕ Refusal) → WritesAs lent l before answer after → (answer ≡ Ok k) × (after ≡ laid before 0 (octets_of bs)))
