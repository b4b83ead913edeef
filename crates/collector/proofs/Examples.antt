-- Worked cases of document 01, The collector, computed on the definitions.
-- None comes to READY: its message is given by a proof, and does not compute.
use mathlib.Core.List.{List, [], ◌∷◌}
use mathlib.Core.Option.{none, some}
use mathlib.Core.Path.{◌≡◌, refl}
use Prim.Native.Nat.{ℕ}
use lib.ListN.{replicate}
use Rattle.refusal.specs.declared.Refusal.TheVariants.{Clock, Dummy, Stop, PageNumber, Repeat, Conflict}
use Rattle.pagecode.specs.Page.{legal, first_bits, bits_from, header_of, is_dummy}
use Rattle.collector.specs.Place.{Key, Held, free, waiting, done, same_key, over, expire}
use Rattle.collector.specs.Feed.{kept, refused, Call, fresh, tick, bad, good, judge, grow, again, arrive, hold, received, feed, run, answers, held_at}

-- ---- "Place first fed at 100, time-out 60: kept at 159, freed at 160", open or done
pub kept-at-159 : (k : Key) (pages : List Held) → expire 60 159 (waiting k 100 pages) ≡ waiting k 100 pages
unfolding over
kept-at-159 k pages = refl

pub freed-at-160 : (k : Key) (pages : List Held) → expire 60 160 (waiting k 100 pages) ≡ free
unfolding over
freed-at-160 k pages = refl

pub done-at-159 : (k : Key) → expire 60 159 (done k 100) ≡ done k 100
unfolding over
done-at-159 k = refl

pub done-no-more-at-160 : (k : Key) → expire 60 160 (done k 100) ≡ free
unfolding over
done-no-more-at-160 k = refl

-- ---- the same by feeds. Header 446221: operational, type 1, number 3, size 3, page 33
abbrev pub page_a : ℕ → List ℕ
page_a x = 0x44 ∷ 0x62 ∷ 0x21 ∷ x ∷ replicate 52 0

-- page 1 of the same message; page 4, which it does not have
abbrev pub page_b : List ℕ
page_b = 0x44 ∷ 0x62 ∷ 0x01 ∷ replicate 53 7

abbrev pub page_c : List ℕ
page_c = 0x44 ∷ 0x62 ∷ 0x04 ∷ replicate 53 7

abbrev pub dummy : List ℕ
dummy = 0xAF ∷ 0x3B ∷ 0xC3 ∷ replicate 53 0

abbrev pub stop_page : List ℕ
stop_page = 0xC4 ∷ 0x62 ∷ 0x01 ∷ replicate 53 7

abbrev pub at : ℕ → List ℕ → Call
at t page = record { second = t; page = page; room = 1696 }

abbrev pub key_a : Key
key_a = record { status = 1; number = 3; size = 3 }

pub header : judge (page_a 9) ≡ good key_a (record { number = 33; content = 9 ∷ replicate 52 0 })
unfolding judge is_dummy first_bits bits_from header_of legal
header = refl

pub dummy-first : judge dummy ≡ bad Dummy
unfolding judge is_dummy first_bits
dummy-first = refl

pub held-at-159 : held_at (run (fresh 60) (at 100 (page_a 9) ∷ at 159 dummy ∷ [])) key_a 33 ≡ some (9 ∷ replicate 52 0)
unfolding judge is_dummy first_bits bits_from header_of legal same_key over tick grow again arrive hold received feed held_at
held-at-159 = refl

pub gone-at-160 : held_at (run (fresh 60) (at 100 (page_a 9) ∷ at 160 dummy ∷ [])) key_a 33 ≡ none
unfolding judge is_dummy first_bits bits_from header_of legal same_key over tick grow again arrive hold received feed held_at
gone-at-160 = refl

-- a page, the same again, other content, a second that falls, a second page, a number that is not legal; from nothing at 160; STOP; from nothing again
pub a-run : answers (fresh 60)
    (at 100 (page_a 9) ∷ at 100 (page_a 9) ∷ at 101 (page_a 8) ∷ at 100 page_b ∷ at 159 page_b ∷ at 159 page_c ∷ at 160 page_b ∷ at 160 stop_page ∷ at 160 page_b ∷ [])
    ≡ kept 1 ∷ refused Repeat ∷ refused Conflict ∷ refused Clock ∷ kept 2 ∷ refused PageNumber ∷ kept 1 ∷ refused Stop ∷ kept 1 ∷ []
unfolding judge is_dummy first_bits bits_from header_of legal same_key over tick grow again arrive hold received feed
a-run = refl
