-- The place that a refusal names is in the bit string, or at its end; so is the place where a reading ends.
-- Each field begins where the one before ended, and that fitted. MASK is at 22, so the string has as many bits.
use Prim.Native.Nat.{ℕ, zero, suc, ◌+◌, ◌≤◌}
use native.Mathlib.Omega.{arith}
use mathlib.Core.Bool.{Bool, true, false, ◌&&◌, cond}
use mathlib.Core.List.{List, [], ◌∷◌}
use mathlib.Core.Option.{Option, none, some}
use mathlib.Core.Path.{◌≡◌}
use lib.Dec.{eqb, leb, ltb}
use lib.ListN.{length}
use borrow.Author.Tests.{leb-true}
use Rattle.bits.specs.Bits.{fits_in}
use Rattle.lists.proofs.Tests.{on_bool}
use Rattle.refusal.specs.declared.Refusal.{Refusal}
use Rattle.mt1.specs.Parse.{Outcome, got, bad, Parser, next, ◌>>=◌, ret, fail, raw, field, verdict, judged, times, for_each, optional, wrong_id, systems}
use Rattle.refusal.specs.declared.Refusal.TheVariants as refusal
use Rattle.mt1.specs.Message.{Header, has_mask, has_orbit, has_clock, has_subset, has_code, has_phase, System, count, cell_bits, cells_of, Mask}
use Rattle.mt1.specs.Mt1.{unless, header, system, known, counted, mask, interval, block, iod_bits, orbit, orbits, clocks, satellites_of, subset_system, ids, subset, codes, phase, phases, used, or_mask, behind, Lent, lent_for, message}

-- the place that an outcome has is n at most
abbrev pub Ends : {A : Type 0} → ℕ → Outcome A → Type 0
Ends n (got a end) = end ≤ n
Ends n (bad r) = r.place ≤ n

-- a parser that begins in the string ends in it
record Stays {A : Type 0} (p : Parser A) : Type 0 where
  ends : (bs : List Bool) (at : ℕ) → 22 ≤ length bs → at ≤ length bs → Ends (length bs) (p bs at)

next-ends : {A B : Type 0} {n : ℕ} (o : Outcome A) (k : A → ℕ → Outcome B) → Ends n o → ((a : A) (m : ℕ) → m ≤ n → Ends n (k a m)) → Ends n (next o k)
next-ends (got a m) k e f = f a m e
next-ends (bad r) k e f = e

infixl 10 ◌then◌
◌then◌ : {A B : Type 0} {p : Parser A} {k : A → Parser B} → Stays p → ((a : A) → Stays (k a)) → Stays (p >>= k)
unfolding ◌>>=◌
◌then◌ {p = p} {k = k} P K = record { ends = λ bs at h i. next-ends (p bs at) (λ a end. k a bs end) (P.ends bs at h i) (λ a m j. (K a).ends bs m h j) }

ret-stays : {A : Type 0} (a : A) → Stays (ret a)
unfolding ret
ret-stays a = record { ends = λ bs at h i. i }

-- ---- fields
raw-stays : (n : ℕ) → Stays (raw n)
unfolding raw
raw-stays n = record {
  ends = λ bs at h i. on_bool (fits_in bs at n) (λ (e : fits_in bs at n ≡ true). rw e (leb-true (at + n) (length bs) e)) (λ (e : fits_in bs at n ≡ false). rw e i);
}

field-stays : (n : ℕ) → Stays (field n)
unfolding field
field-stays n = record { ends = λ bs at h i. next-ends (raw n bs at) _ ((raw-stays n).ends bs at h i) (λ b m j. j) }

verdict-ends : {n : ℕ} (o : Option Refusal) (v at end : ℕ) → at ≤ n → end ≤ n → Ends n (verdict o v at end)
verdict-ends none v at end i j = j
verdict-ends (some w) v at end i j = i

judged-stays : (n : ℕ) (wrong : ℕ → Option Refusal) → Stays (judged n wrong)
unfolding judged
judged-stays n wrong = record { ends = λ bs at h i. next-ends (field n bs at) _ ((field-stays n).ends bs at h i) (λ v end j. verdict-ends (wrong v) v at end i j) }

-- ---- several
times-stays : {A : Type 0} (n : ℕ) {p : Parser A} → Stays p → Stays (times n p)
unfolding times
times-stays zero P = ret-stays []
times-stays (suc n) P = P then λ x. times-stays n P then λ xs. ret-stays (x ∷ xs)

each-stays : {S A : Type 0} (ss : List S) {p : S → Parser A} → ((s : S) → Stays (p s)) → Stays (for_each ss p)
unfolding for_each
each-stays [] P = ret-stays []
each-stays (s ∷ ss) P = P s then λ x. each-stays ss P then λ xs. ret-stays (x ∷ xs)

optional-stays : {A : Type 0} (flag : Bool) {p : Parser A} → Stays p → Stays (optional flag p)
optional-stays true P = P then λ x. ret-stays (some x)
optional-stays false P = ret-stays none

systems-stay : {A : Type 0} (may : List ℕ) {p : ℕ → Parser A} (came : List ℕ) (n : ℕ) → ((id : ℕ) → Stays (p id)) → Stays (systems may p came n)
unfolding systems
systems-stay may came zero P = ret-stays []
systems-stay may came (suc n) P = judged-stays 4 (wrong_id may came) then λ id. P id then λ x. systems-stay may (id ∷ came) n P then λ xs. ret-stays (x ∷ xs)

-- ---- the message
header-stays : Stays header
unfolding header
header-stays =
    judged-stays 12 (λ v. unless (ltb v 3600) refusal.Toh) then λ time.
    raw-stays 6 then λ flags.
    field-stays 4 then λ reserved.
    field-stays 5 then λ mask_id.
    field-stays 5 then λ iod_set.
    ret-stays (record { time = time; flags = flags; reserved = reserved; mask_id = mask_id; iod_set = iod_set })

system-stays : (id : ℕ) → Stays (system id)
unfolding system
system-stays id =
    raw-stays 40 then λ satellites.
    raw-stays 16 then λ signals.
    field-stays 1 then λ cell_flag.
    raw-stays (cond (eqb cell_flag 1) (cell_bits satellites signals) 0) then λ cells.
    judged-stays 3 (λ v. unless (eqb v 0) refusal.NavMsg) then λ navigation.
    ret-stays (record { id = id; satellites = satellites; signals = signals; cell_flag = cell_flag; cells = cells; navigation = navigation })

counted-stays : (most : ℕ) → Stays (counted most)
unfolding counted
counted-stays most = judged-stays 4 (λ n. unless (leb 1 n && leb n most) refusal.Count)

mask-stays : Stays mask
unfolding mask
mask-stays = counted-stays 2 then λ n. systems-stay known [] n system-stays then λ ss. field-stays 6 then λ reserved. ret-stays (record { systems = ss; reserved = reserved })

interval-stays : Stays interval
unfolding interval
interval-stays = judged-stays 4 (λ v. unless (ltb v 15) refusal.Validity)

block-stays : {A : Type 0} {p : Parser A} → Stays p → Stays (block p)
unfolding block
block-stays P = interval-stays then λ i. P then λ x. ret-stays (record { interval = i; body = x })

orbit-stays : (id : ℕ) → Stays (orbit id)
unfolding orbit
orbit-stays id =
    field-stays (iod_bits id) then λ iod.
    field-stays 13 then λ radial.
    field-stays 12 then λ in_track.
    field-stays 12 then λ cross_track.
    ret-stays (record { iod = iod; radial = radial; in_track = in_track; cross_track = cross_track })

orbits-stay : (ss : List System) → Stays (orbits ss)
unfolding orbits
orbits-stay ss = each-stays ss (λ s. times-stays (count s.satellites) (orbit-stays s.id))

clocks-stay : (ss : List System) → Stays (clocks ss)
unfolding clocks
clocks-stay ss =
    times-stays (length ss) (field-stays 2) then λ ms.
    each-stays ss (λ s. times-stays (count s.satellites) (field-stays 13)) then λ cs.
    ret-stays (record { multipliers = ms; clocks = cs })

subset-system-stays : (ss : List System) (id : ℕ) → Stays (subset_system ss id)
unfolding subset_system
subset-system-stays ss id =
    field-stays 2 then λ m.
    raw-stays (count (satellites_of ss id)) then λ chosen.
    times-stays (count chosen) (field-stays 13) then λ cs.
    ret-stays (record { id = id; multiplier = m; chosen = chosen; clocks = cs })

subset-stays : (ss : List System) → Stays (subset ss)
unfolding subset
subset-stays ss = counted-stays (length ss) then λ n. systems-stay (ids ss) [] n (subset-system-stays ss)

codes-stay : (ss : List System) → Stays (codes ss)
unfolding codes
codes-stay ss = each-stays ss (λ s. times-stays (count (cells_of s)) (field-stays 11))

phase-stays : Stays phase
unfolding phase
phase-stays = field-stays 11 then λ b. field-stays 2 then λ d. ret-stays (record { bias = b; discontinuity = d })

phases-stay : (ss : List System) → Stays (phases ss)
unfolding phases
phases-stay ss = each-stays ss (λ s. times-stays (count (cells_of s)) phase-stays)

or-mask-stays : (o : Option (List System)) → Stays (or_mask o)
unfolding fail
or-mask-stays (some ss) = ret-stays ss
or-mask-stays none = record { ends = λ bs at h i. h }

behind-stays : (lent : Option Mask) (h : Header) → Stays (behind lent h)
unfolding behind
behind-stays lent h =
    optional-stays (has_mask h) mask-stays then λ own.
    or-mask-stays (used lent h own) then λ ss.
    optional-stays (has_orbit h) (block-stays (orbits-stay ss)) then λ os.
    optional-stays (has_clock h) (block-stays (clocks-stay ss)) then λ cs.
    optional-stays (has_subset h) (block-stays (subset-stays ss)) then λ sub.
    optional-stays (has_code h) (block-stays (codes-stay ss)) then λ bs.
    optional-stays (has_phase h) (block-stays (phases-stay ss)) then λ ps.
    ret-stays (record { header = h; mask = own; orbits = os; clocks = cs; subset = sub; codes = bs; phases = ps })

message-stays : (lent : Lent) → Stays (message lent)
unfolding message
message-stays lent = header-stays then λ h. behind-stays (lent_for lent h.mask_id) h

pub message-ends : (lent : Lent) (bs : List Bool) → 22 ≤ length bs → Ends (length bs) (message lent bs 0)
message-ends lent bs h = (message-stays lent).ends bs 0 h (omega arith)
