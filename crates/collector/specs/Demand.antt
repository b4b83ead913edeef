-- The words of demand 3: messages, their pages, feeds of their pages, the seconds, the answer that each feed must get.
-- Leans on the collector, and of pagecode on the encoding.
use Rattle.std.specs.Prelude.{ℕ, suc, ◌+◌, ◌*◌, ◌≤◌, ◌<◌, ◌≡◌, Bool, true, false, ◌&&◌, cond, length, leb, eqb}
use mathlib.Core.List.{List, [], ◌∷◌, map, Memᴰ}
use Rattle.refusal.specs.declared.Refusal.TheVariants.{Done, Repeat}
use Rattle.pagecode.specs.Field.{Octets}
use Rattle.pagecode.specs.Page.{legal, content, encoded_page}
use Rattle.lists.specs.Lists.{Every, memb}
use Rattle.collector.specs.Lists.{Nodup, different}
use Rattle.collector.specs.Place.{Key, same_key}
use Rattle.collector.specs.Feed.{Answer, kept, ready, refused, Call}

pub record Message : Type 0 where
  pub status : ℕ
  pub number : ℕ
  pub size : ℕ
  pub octets : List ℕ

abbrev pub key_for : Message → Key
key_for m = record { status = m.status; number = m.number; size = m.size }

-- a message that can be encoded
pub record Sound (m : Message) : Type 0 where
  pub status : m.status ≤ 1
  pub number : m.number ≤ 31
  pub some : 1 ≤ m.size
  pub few : m.size ≤ 32
  pub long : length m.octets ≡ m.size * 53
  pub octets : Octets m.octets

-- "at most eight messages of 1 to 32 pages, no two with the same status, number and size"
pub record Sent (ms : List Message) : Type 0 where
  pub few : length ms ≤ 8
  pub sound : (m : Message) → Memᴰ m ms → Sound m
  pub apart : Nodup (map key_for ms)

-- ---- "Encode each and feed any of their pages, in any order and with any repeats"
pub record Fed : Type 0 where
  pub second : ℕ
  pub message : Message
  pub page : ℕ

-- a legal page of one of the messages
pub record Of (ms : List Message) (f : Fed) : Type 0 where
  pub one : Memᴰ f.message ms
  pub legal-number : legal f.message.size f.page ≡ true

-- page n of a message, as it is sent and as it is held
abbrev pub encoded : Message → ℕ → List ℕ
encoded m n = encoded_page m.octets m.status m.number n

abbrev pub content_at : Message → ℕ → List ℕ
content_at m n = content m.size m.octets n

-- "in calls with buffers of the right length"
abbrev pub call : Fed → Call
call f = record { second = f.second; page = encoded f.message f.page; room = 1696 }

-- "at seconds within range that never fall", the first at `from` or later, the last before `end`
abbrev pub Timed : ℕ → ℕ → List Fed → Type 0
Timed from end [] = Unit {0}
Timed from end (f ∷ fs) = (from ≤ f.second) × (f.second < end) × (f.second ≤ 2477260799) × Timed f.second end fs

-- the setting: fed to a collector whose time-out is T, from the second t₀ on, "the last less than one time-out after the first"
pub record Setting (ms : List Message) (T t₀ : ℕ) (fs : List Fed) : Type 0 where
  pub sent : Sent ms
  pub pages : Every (Of ms) fs
  pub timed : Timed t₀ (t₀ + T) fs

-- ---- the different page numbers of a message among some feeds
abbrev pub numbers_of : Key → List Fed → List ℕ
numbers_of k [] = []
numbers_of k (f ∷ fs) = cond (same_key (key_for f.message) k) (f.page ∷ numbers_of k fs) (numbers_of k fs)

abbrev pub seen : Message → List Fed → List ℕ
seen m fs = different (numbers_of (key_for m) fs)

-- the answer that page n of m must get, with s the different numbers of m fed before
unfoldable pub expected : Message → List ℕ → ℕ → Answer
expected m s n =
    cond (leb m.size (length s)) (refused Done)
    (cond (memb n s) (refused Repeat)
    (cond (eqb (suc (length s)) m.size) (ready m.size m.octets)
    (kept (suc (length s)))))

-- how often a message comes out: READY answers to pages of its key
abbrev pub is_ready : Answer → Bool
is_ready (kept n) = false
is_ready (ready k octets) = true
is_ready (refused r) = false

abbrev pub outs : Key → List Fed → List Answer → ℕ
outs k [] rs = 0
outs k (f ∷ fs) [] = 0
outs k (f ∷ fs) (r ∷ rs) = cond (same_key (key_for f.message) k && is_ready r) (suc (outs k fs rs)) (outs k fs rs)

-- ---- "The same pages in another order": the same page numbers of each key, whatever the order, repeats and seconds
abbrev pub SamePages : List Fed → List Fed → Type 0
SamePages fs gs = (k : Key) (n : ℕ) → (Memᴰ n (numbers_of k fs) → Memᴰ n (numbers_of k gs)) × (Memᴰ n (numbers_of k gs) → Memᴰ n (numbers_of k fs))

-- the literal reading: each page as often, in another order, at whatever seconds
pub data Reordered : List Fed → List Fed → Type 0 where
  none : Reordered [] []
  next : {f g : Fed} {fs gs : List Fed} → f.message ≡ g.message → f.page ≡ g.page → Reordered fs gs → Reordered (f ∷ fs) (g ∷ gs)
  swap : {f g : Fed} {fs : List Fed} → Reordered (f ∷ g ∷ fs) (g ∷ f ∷ fs)
  then : {fs gs hs : List Fed} → Reordered fs gs → Reordered gs hs → Reordered fs hs
