-- A recorded drive: its entries, fed to a fresh collector one after another, and the log of the answers.
-- Leans on the collector, on the number that bits are, and on the numbers of the refusals.
use Rattle.std.specs.Prelude.{ℕ, zero, suc, ◌*◌, ◌/◌, ◌%◌, Bool, not, ◌&&◌, cond, List, [], ◌∷◌, ◌++◌, ◌≡◌, eqb, leb, length, take, drop, Result, Ok, Err}
use Rattle.refusal.specs.Number.{number_of}
use Rattle.refusal.specs.declared.Refusal.TheVariants.{Length, Out, Timeout}
use Rattle.bits.specs.Bits.{bits_of, value}
use Rattle.collector.specs.Feed.{Answer, kept, ready, refused, Call, fresh, startable, answers}
use Rattle.refusal.specs.declared.Refusal.{Refusal}

-- an entry is 64 octets: a second (8 octets, the highest first) and a page of 56. The buffer that a feed takes has 1,696 octets.
abbrev pub entry_of : List ℕ → Call
entry_of entry = record { second = value (bits_of (take 8 entry)); page = drop 8 entry; room = 1696 }

-- the first n entries
abbrev pub entries_of : ℕ → List ℕ → List Call
entries_of zero octets = []
entries_of (suc n) octets = entry_of (take 64 octets) ∷ entries_of n (drop 64 octets)

-- what is logged of an answer: 1 and the count for KEPT, 2 and the size for READY, 3 and the refusal's number for a refusal; behind a READY the message's 53k octets
abbrev pub logged : Answer → List ℕ
logged (kept n) = 1 ∷ n ∷ []
logged (ready k message) = 2 ∷ k ∷ message
logged (refused r) = 3 ∷ number_of r ∷ []

-- the log of answers, and of a drive of this time-out
abbrev pub logs : List Answer → List ℕ
logs [] = []
logs (a ∷ rest) = logged a ++ logs rest

unfoldable pub log_of : ℕ → List ℕ → List ℕ
log_of timeout octets = logs (answers (fresh timeout) (entries_of (length octets / 64) octets))

-- whole entries: a multiple of 64 octets, and not more than 4,294,967,296
unfoldable pub are_entries : ℕ → Bool
are_entries n = eqb (n % 64) 0 && leb n 4294967296

-- the checks in their order: LENGTH for octets that are no entries, OUT for a log that is not exactly 55 octets for each entry, TIMEOUT for a time-out that is not 1 to 600 s.
-- The answer is how many octets of log
unfoldable pub replay_answer : ℕ → List ℕ → ℕ → Result ℕ Refusal
replay_answer timeout octets room =
    cond (not (are_entries (length octets))) (Err Length)
    (cond (not (eqb room (55 * (length octets / 64)))) (Err Out)
    (cond (not (startable timeout)) (Err Timeout)
    (Ok (length (log_of timeout octets)))))

-- the log is in front of the buffer, the rest is untouched; a refusal writes nothing
abbrev pub replay_buffer : Result ℕ Refusal → List ℕ → List ℕ → List ℕ
replay_buffer (Ok n) log before = log ++ drop n before
replay_buffer (Err r) log before = before

-- the contract of `replay`, whose buffer holds `before`, and then `after`
pub record Replays (timeout : ℕ) (octets before : List ℕ) (r : Result ℕ Refusal) (after : List ℕ) : Type 0 where
  pub answered : r ≡ replay_answer timeout octets (length before)
  pub buffer : after ≡ replay_buffer r (log_of timeout octets) before
