-- The collector as a function, check by check: 01, The collector.
-- Leans on the places, and of pagecode on the header, the legal numbers and the unique solution.
use Rattle.std.specs.Prelude.{ℕ, Bool, true, false, not, ◌&&◌, cond, List, [], ◌∷◌, ◌++◌, map, length, drop, replicate, leb, ltb, eqb, Ok, Err}
use Rattle.std.proofs.Math.Option.{Option, none, some}
use Rattle.refusal.specs.declared.Refusal.{Refusal}
use Rattle.refusal.specs.declared.Refusal.TheVariants.{Length, Out, Second, Clock, Dummy, Stop, Status, Kind, PageNumber, Done, Repeat, Conflict, Full, Timeout}
use Rattle.pagecode.specs.Answer.{Answer as StartAnswer}
use Rattle.pagecode.specs.Page.{legal, header_of, is_dummy}
use Rattle.pagecode.proofs.Promises.{solution_of}
use Rattle.collector.specs.Place.{Key, Held, Place, free, waiting, done, has_key, is_free, find, any_free, replace, expire, pages_in, lookup, numbers, contents}

pub record Collector : Type 0 where
  pub timeout : ℕ
  pub last : ℕ
  pub places : List Place

-- "The answer is KEPT with the count of different numbers now held, 1 to k-1, or READY with k": beside k, the message's octets
pub data Answer : Type 0 where
  kept : ℕ → Answer
  ready : ℕ → List ℕ → Answer
  refused : Refusal → Answer

-- "The buffer is written by READY alone": "the message is in the first 53k octets, the rest is untouched"
abbrev pub written : Answer → List ℕ → List ℕ
written (kept n) buffer = buffer
written (ready k octets) buffer = octets ++ drop (length octets) buffer
written (refused r) buffer = buffer

-- "A feed takes a second, a page and an output buffer": of the buffer, how long it is
pub record Call : Type 0 where
  pub second : ℕ
  pub page : List ℕ
  pub room : ℕ

pub record Step : Type 0 where
  pub answer : Answer
  pub after : Collector

-- ---- "Start: a time-out of 1 to 600 s, else TIMEOUT beside a fresh collector of 1 s. A fresh collector's last second is 0." "There are eight places."
abbrev pub fresh : ℕ → Collector
fresh timeout = record { timeout = timeout; last = 0; places = replicate 8 free }

unfoldable pub startable : ℕ → Bool
startable timeout = leb 1 timeout && leb timeout 600

unfoldable pub start_answer : ℕ → StartAnswer
start_answer timeout = cond (startable timeout) (Ok tt) (Err Timeout)

unfoldable pub begun : ℕ → Collector
begun timeout = fresh (cond (startable timeout) timeout 1)

-- ---- check 2: "The second becomes the last one, and every place whose first second is a time-out or more ago is freed."
unfoldable pub tick : ℕ → Collector → Collector
tick t c = record { timeout = c.timeout; last = t; places = map (expire c.timeout t) c.places }

-- ---- check 3: "DUMMY; status 3: STOP ..; status 2: STATUS; type not 1: TYPE; PAGENUMBER"
abbrev pub key_of : List ℕ → Key
key_of page = record { status = (header_of page).status; number = (header_of page).number; size = (header_of page).size }

abbrev pub held_of : List ℕ → Held
held_of page = record { number = (header_of page).page; content = drop 3 page }

pub data Judged : Type 0 where
  bad : Refusal → Judged
  stop : Judged
  good : Key → Held → Judged

unfoldable pub judge : List ℕ → Judged
judge page =
    cond (is_dummy page) (bad Dummy)
    (cond (eqb (header_of page).status 3) stop
    (cond (eqb (header_of page).status 2) (bad Status)
    (cond (not (eqb (header_of page).kind 1)) (bad Kind)
    (cond (not (legal (header_of page).size (header_of page).page)) (bad PageNumber)
    (good (key_of page) (held_of page))))))

-- ---- check 4: one page at the place of its key
abbrev pub same_octets : List ℕ → List ℕ → Bool
same_octets [] [] = true
same_octets [] (y ∷ ys) = false
same_octets (x ∷ xs) [] = false
same_octets (x ∷ xs) (y ∷ ys) = eqb x y && same_octets xs ys

-- "the message": the one that has these pages
abbrev pub message_of : List Held → List ℕ
message_of pages = solution_of (numbers pages) (contents pages)

pub record Settled : Type 0 where
  pub answer : Answer
  pub place : Place

-- these pages are now held: KEPT with their count, or READY, and the place is done
unfoldable pub grow : Key → ℕ → List Held → Settled
grow k first pages =
    cond (eqb (length pages) k.size)
    (record { answer = ready k.size (message_of pages); place = done k first })
    (record { answer = kept (length pages); place = waiting k first pages })

-- "Key open and number held: REPEAT if the 53 content octets are equal, CONFLICT if not; the first page stays."
unfoldable pub again : Option (List ℕ) → Key → ℕ → List Held → Held → Settled
again none k first pages p = grow k first (pages ++ (p ∷ []))
again (some held) k first pages p = record { answer = refused (cond (same_octets held p.content) Repeat Conflict); place = waiting k first pages }

-- "key done: DONE"
unfoldable pub arrive : Place → Key → ℕ → Held → Settled
arrive free k t p = grow k t (p ∷ [])
arrive (waiting j first pages) k t p = again (lookup p.number pages) j first pages p
arrive (done j first) k t p = record { answer = refused Done; place = done j first }

-- ---- check 5: "no place has the key and none is free: FULL". "A new key takes the lowest free place."
unfoldable pub hold : Collector → ℕ → Key → Held → Step
hold c t k p =
    let at = find k c.places in
    let s = arrive at k t p in
    cond (is_free at && not (any_free c.places))
    (record { answer = refused Full; after = c })
    (record {
      answer = s.answer;
      after = record { timeout = c.timeout; last = c.last; places = replace (cond (is_free at) is_free (has_key k)) s.place c.places };
    })

-- "STOP, all places freed"
unfoldable pub received : Collector → ℕ → Judged → Step
received c t (bad r) = record { answer = refused r; after = c }
received c t stop = record { answer = refused Stop; after = record { timeout = c.timeout; last = c.last; places = replicate 8 free } }
received c t (good k p) = hold c t k p

-- ---- a feed. Check 1: "page not 56 octets: LENGTH; buffer not 1,696: OUT; second over the range: SECOND; second below the last one: CLOCK. These leave everything unchanged."
unfoldable pub feed : Collector → Call → Step
feed c f =
    cond (not (eqb (length f.page) 56)) (record { answer = refused Length; after = c })
    (cond (not (eqb f.room 1696)) (record { answer = refused Out; after = c })
    (cond (ltb 2477260799 f.second) (record { answer = refused Second; after = c })
    (cond (ltb f.second c.last) (record { answer = refused Clock; after = c })
    (received (tick f.second c) f.second (judge f.page)))))

-- the collector after a list of calls, and their answers
abbrev pub run : Collector → List Call → Collector
run c [] = c
run c (f ∷ fs) = run (feed c f).after fs

abbrev pub answers : Collector → List Call → List Answer
answers c [] = []
answers c (f ∷ fs) = (feed c f).answer ∷ answers (feed c f).after fs

-- "The same pages waiting .. means keys and pages held": of each key and number, the content held
unfoldable pub held_at : Collector → Key → ℕ → Option (List ℕ)
held_at c k n = lookup n (pages_in (find k c.places))
