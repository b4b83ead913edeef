-- 55 octets an entry are room enough: a message of k pages comes out only with k pages that were held, each fed once.
-- The octets logged and 53 for each page now held are together at most 55 for each entry: KEPT logs 2 and holds a page more, READY logs 2 and 53 for each page that goes.
use mathlib.Core.Bool.{true}
use mathlib.Core.List.{List, [], ◌∷◌}
use mathlib.Core.Path.{◌≡◌}
use Prim.Native.Nat.{ℕ, zero, suc, ◌+◌, ◌*◌, ◌/◌, ◌≤◌, ◌<◌}
use native.Mathlib.Omega.{arith}
use lib.Dec.{leb}
use lib.ListN.{length, take, drop, length-append}
use borrow.Author.Tests.{leb-true}
use Rattle.pagecode.specs.Field.{Octets}
use Rattle.lists.specs.Lists.{Every}
use Rattle.lists.proofs.Tests.{and_left, and_right}
use Rattle.collector.specs.Feed.{Collector, Answer, kept, ready, refused, Call, fresh, startable, feed, run, answers}
use Rattle.collector.specs.Valid.{Valid}
use Rattle.collector.proofs.Keeps.{drop-octets, valid-fresh, valid-feed}
use Rattle.collector.proofs.Holdings.{held_in, Counted, feed-counted}
use Rattle.drive.specs.Drive.{entries_of, logged, logs, log_of}
use Rattle.drive.proofs.Entries.{log_first, length-entries}

-- ---- one answer, and the answers to a list of calls: what is logged, and 53 octets for each page held
answer-fits : (a : Answer) (h h' : ℕ) → Counted a h h' → length (logged a) + 53 * h' ≤ 55 + 53 * h
answer-fits (kept n) h h' c = omega (arith, c.1)
answer-fits (ready k message) h h' c = omega (arith, c.1, c.2)
answer-fits (refused r) h h' c = omega (arith, c)

abbrev pub OctetPages : List Call → Type 0
OctetPages fs = Every (λ (f : Call). Octets f.page) fs

pub answers-fit : (c : Collector) (fs : List Call) → Valid c → OctetPages fs
    → length (logs (answers c fs)) + 53 * held_in (run c fs).places ≤ 55 * length fs + 53 * held_in c.places
answers-fit c [] v o = omega arith
answers-fit c (f ∷ fs) v o =
    let d = feed c f in
    omega (
      arith,
      answer-fits d.answer (held_in c.places) (held_in d.after.places) (feed-counted c f v o.0),
      answers-fit d.after fs (valid-feed c f v o.0) o.1,
      length-append (logged d.answer) (logs (answers d.after fs)),
    )

-- ---- the entries of octets
take-octets : (n : ℕ) (l : List ℕ) → Octets l → Octets (take n l)
take-octets zero l o i = omega arith
take-octets (suc n) [] o i = omega arith
take-octets (suc n) (x ∷ l) o zero = o 0
take-octets (suc n) (x ∷ l) o (suc i) = take-octets n l (λ j. o (suc j)) i

entries-octets : (n : ℕ) (octets : List ℕ) → Octets octets → OctetPages (entries_of n octets)
entries-octets zero octets o = tt
entries-octets (suc n) octets o = (drop-octets 8 (take 64 octets) (take-octets 64 octets o), entries-octets n (drop 64 octets) (drop-octets 64 octets o))

first_fits : (timeout n : ℕ) (octets : List ℕ) → Valid (fresh timeout) → Octets octets → length (log_first timeout n octets) ≤ 55 * n
first_fits timeout n octets v o = omega (arith, answers-fit (fresh timeout) (entries_of n octets) v (entries-octets n octets o), length-entries n octets)

-- one entry more, where there are more
pub next_fits : (timeout i : ℕ) (octets : List ℕ) (room : ℕ) → Valid (fresh timeout) → Octets octets → room ≡ 55 * (length octets / 64) → i < length octets / 64
    → length (log_first timeout (suc i) octets) ≤ room
next_fits timeout i octets room v o e h = omega (arith, first_fits timeout (suc i) octets v o, e, h)

-- a time-out of 1 to 600 s
pub valid-start : (timeout : ℕ) → startable timeout ≡ true → Valid (fresh timeout)
unfolding startable
valid-start timeout e =
    valid-fresh timeout (leb-true 1 timeout (and_left (leb 1 timeout) (leb timeout 600) e)) (leb-true timeout 600 (and_right (leb 1 timeout) (leb timeout 600) e))

-- ---- the log fits
pub log-fits : (timeout : ℕ) (octets : List ℕ) → startable timeout ≡ true → Octets octets → length (log_of timeout octets) ≤ 55 * (length octets / 64)
unfolding log_of
log-fits timeout octets e o = first_fits timeout (length octets / 64) octets (valid-start timeout e) o
