-- Demand 3 as statements about the collector, for a fresh one and for one already used. The words of the parts are the client's.
-- Leans on the words of demand 3.
use Rattle.std.specs.Prelude.{ℕ, suc, ◌+◌, ◌≤◌, ◌≡◌, ◌⊎◌, false, cond, length, leb}
use mathlib.Core.List.{List, ◌∷◌, ◌++◌, map, Memᴰ}
use Rattle.std.proofs.Math.Option.{none, some}
use Rattle.lists.specs.Lists.{memb}
use Rattle.collector.specs.Place.{Key}
use Rattle.collector.specs.Feed.{Collector, ready, fresh, feed, run, answers, held_at}
use Rattle.collector.specs.Valid.{Valid}
use Rattle.collector.specs.Demand.{Message, key_for, content_at, Fed, call, seen, expected, outs}

-- "to a fresh collector"; "as well for a collector already used, if the first of these seconds is a time-out or more after the last second it took"
pub data Start (c : Collector) (T t₀ : ℕ) : Type 0 where
  new : c ≡ fresh T → Start c T t₀
  used : Valid c → c.timeout ≡ T → c.last + T ≤ t₀ → Start c T t₀

-- 1 where a message is out after the different numbers s, else 0
abbrev pub is_out : Message → List ℕ → ℕ
is_out m s = cond (leb m.size (length s)) 1 0

-- what READY says: "octet for octet as sent, with its kth different page number"
pub record Comes (m : Message) (s : List ℕ) (n k : ℕ) (octets : List ℕ) : Type 0 where
  pub size : k ≡ m.size
  pub whole : octets ≡ m.octets
  pub new : memb n s ≡ false
  pub kth : suc (length s) ≡ m.size

pub record Demand3 (c : Collector) (ms : List Message) (fs : List Fed) : Type 0 where
  -- the exact answer to each feed, from the different page numbers of its message fed before
  pub exact : (pre : List Fed) (f : Fed) (post : List Fed) → fs ≡ pre ++ (f ∷ post) → (feed (run c (map call pre)) (call f)).answer ≡ expected f.message (seen f.message pre) f.page
  -- "A message of k pages comes out .., octet for octet as sent, with its kth different page number"
  pub whole : (pre : List Fed) (f : Fed) (post : List Fed) → fs ≡ pre ++ (f ∷ post) → (k : ℕ) (octets : List ℕ)
      → (feed (run c (map call pre)) (call f)).answer ≡ ready k octets → Comes f.message (seen f.message pre) f.page k octets
  -- "exactly once", "and with fewer it never comes out"
  pub once : (m : Message) → Memᴰ m ms → outs (key_for m) fs (answers c (map call fs)) ≡ is_out m (seen m fs)
  -- the pages left waiting, and no others
  pub waits : (m : Message) → Memᴰ m ms → (n : ℕ)
      → held_at (run c (map call fs)) (key_for m) n ≡ cond (leb m.size (length (seen m fs))) none (cond (memb n (seen m fs)) (some (content_at m n)) none)
  pub nothing-else : (k : Key) (n : ℕ) → (held_at (run c (map call fs)) k n ≡ none) ⊎ Memᴰ k (map key_for ms)

-- "The same pages in another order give the same messages and leave the same pages waiting."
pub record SameOutcome (c d : Collector) (ms : List Message) (fs gs : List Fed) : Type 0 where
  pub messages : (m : Message) → Memᴰ m ms → outs (key_for m) fs (answers c (map call fs)) ≡ outs (key_for m) gs (answers d (map call gs))
  pub waiting : (k : Key) (n : ℕ) → held_at (run c (map call fs)) k n ≡ held_at (run d (map call gs)) k n
