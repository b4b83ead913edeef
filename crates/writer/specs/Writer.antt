-- What `write` answers and writes: 01, Records ("The writer takes records, a lent mask and a buffer of 1,696").
-- Leans on the parser and on the records.
use Rattle.std.specs.Prelude.{ℕ, zero, suc, ◌+◌, ◌*◌, ◌-◌, ◌%◌, ◌≤◌, Bool, false, not, ◌&&◌, cond, List, [], ◌∷◌, map, ◌⊎◌, ◌≡◌, eqb, ltb, length, get_or, drop, Result, Ok, Err}
use Rattle.std.proofs.Math.Option.{Option, none, some}
use Rattle.lists.specs.Lists.{laid, memb}
use Rattle.bits.specs.Bits.{bits, octets_of}
use Rattle.refusal.specs.declared.Refusal.{Refusal}
use Rattle.refusal.specs.declared.Refusal.TheVariants.{Out, Mask, Form, Long}
use Rattle.mt1.specs.Parse.{got}
use Rattle.mt1.specs.Message.{Header, has_mask, has_orbit, has_clock, has_subset, has_code, has_phase, Subset, Block, Message}
use Rattle.mt1.specs.Message as message-type
use Rattle.mt1.specs.Mt1.{needs_mask, ids, Lent, lent_for, is_none, used, message}
use Rattle.mt1.specs.Records.{systems_in, header_record, records_of}

-- of the buffer, how long it is
pub record Call : Type 0 where
  pub records : List ℕ
  pub lent : Lent
  pub room : ℕ

-- ---- "Checks: OUT; FORM for a length that is no positive multiple of 16 or a header record no message has; MASK"
abbrev pub are_records : ℕ → Bool
are_records n = ltb 0 n && eqb (n % 16) 0

-- two octets of records, "big-endian"
abbrev pub pair : List ℕ → ℕ → ℕ
pair l i = 256 * get_or l i 0 + get_or l (i + 1) 0

-- the header that a header record is of
unfoldable pub header_of : List ℕ → Header
unfolding bits
header_of l = record { time = pair l 4; flags = bits 6 (get_or l 1 0); reserved = 0; mask_id = get_or l 2 0; iod_set = get_or l 3 0 }

-- a block's interval: an index that is not reserved, or 255 if the block is not there
abbrev pub interval_fits : Bool → ℕ → Bool
interval_fits there v = cond there (ltb v 15) (eqb v 255)

abbrev pub numbers_fit : List ℕ → Bool
numbers_fit l = eqb (get_or l 0 0) 1 && (ltb (get_or l 1 0) 64 && (ltb (get_or l 2 0) 32 && (ltb (get_or l 3 0) 32 && ltb (pair l 4) 3600)))

abbrev pub intervals_fit : Header → List ℕ → Bool
intervals_fit h l =
    interval_fits (has_orbit h) (get_or l 6 0)
    && (interval_fits (has_clock h) (get_or l 7 0)
    && (interval_fits (has_subset h) (get_or l 8 0)
    && (interval_fits (has_code h) (get_or l 9 0)
    && interval_fits (has_phase h) (get_or l 10 0))))

abbrev pub unnamed_zero : List ℕ → Bool
unnamed_zero l = eqb (get_or l 11 0) 0 && (eqb (get_or l 12 0) 0 && (eqb (get_or l 13 0) 0 && (eqb (get_or l 14 0) 0 && eqb (get_or l 15 0) 0)))

-- a header record that a message has: kind 1, flags, IDs and a time of hour that fit, intervals as the flags say, "unnamed octets 0"
unfoldable pub is_header : List ℕ → Bool
unfolding header_of
is_header l = numbers_fit l && (intervals_fit (header_of l) l && unnamed_zero l)

-- a message that is read, with whatever mask lent, has it
pub record AMessageHas (r : List ℕ) : Type 0 where
  pub lent : Lent
  pub bs : List Bool
  pub m : Message
  pub end : ℕ
  pub reads : message lent bs 0 ≡ got m end
  pub header : header_record m ≡ r

-- "MASK: mask flag 0, another flag 1, and the lent mask is absent, has another ID or does not read cleanly"
unfoldable pub lacks_mask : Lent → Header → Bool
unfolding lent_for
lacks_mask lent h = not (has_mask h) && (needs_mask h && is_none (lent_for lent h.mask_id))

-- what these checks refuse, if anything
unfoldable pub check : Call → Option Refusal
unfolding is_header lacks_mask header_of
check c =
    cond (eqb c.room 1696)
    (cond (are_records (length c.records) && is_header c.records)
    (cond (lacks_mask c.lent (header_of c.records)) (some Mask) none)
    (some Form))
    (some Out)

-- ---- "FORM exactly if no bit string of any length reads, with that mask lent, to the list; LONG exactly if one does but none within 13,568 bits"
-- a bit string reads, with that mask lent, to the list
pub record ReadsTo (lent : Lent) (bs : List Bool) (l : List ℕ) : Type 0 where
  pub m : Message
  pub end : ℕ
  pub reads : message lent bs 0 ≡ got m end
  pub records : records_of lent m ≡ l

-- a bit string of some such length does
abbrev pub SomeReads : Lent → List ℕ → (ℕ → Type 0) → Type 0
SomeReads lent l Length = (bs : List Bool) × Length (length bs) × ReadsTo lent bs l

abbrev pub AnyLength : ℕ → Type 0
AnyLength n = Unit {0}

abbrev pub Within : ℕ → Type 0
Within n = n ≤ 13568

abbrev pub Exactly : Type 0 → Type 0 → Type 0
Exactly P Q = (P → Q) × (Q → P)

-- ---- "It writes reserved bits 0, subset systems in mask order, the fewest pages, and fills the last one with 0101.."
abbrev pub mask_reserved : Option message-type.Mask → ℕ
mask_reserved none = 0
mask_reserved (some m) = m.reserved

abbrev pub subset_ids : Option (Block (List Subset)) → List ℕ
subset_ids none = []
subset_ids (some b) = map (λ s. s.id) b.body

-- those of a list that are also in another, in the first one's order
unfoldable pub among : List ℕ → List ℕ → List ℕ
among [] chosen = []
among (i ∷ is) chosen = cond (memb i chosen) (i ∷ among is chosen) (among is chosen)

-- the GNSS IDs of the mask that a message uses
abbrev pub mask_ids : Lent → Message → List ℕ
mask_ids lent m = ids (systems_in (used (lent_for lent m.header.mask_id) m.header m.mask))

-- n bits in turn, from this one on
unfoldable pub turns : Bool → ℕ → List Bool
turns b zero = []
turns b (suc n) = b ∷ turns (not b) n

-- bits that are a message of k pages so written, of these records
pub record SoWritten (lent : Lent) (l : List ℕ) (k : ℕ) (bs : List Bool) : Type 0 where
  pub m : Message
  pub end : ℕ
  pub reads : message lent bs 0 ≡ got m end
  pub records : records_of lent m ≡ l
  pub header_reserved : m.header.reserved ≡ 0
  pub mask_reserved : mask_reserved m.mask ≡ 0
  pub mask_order : subset_ids m.subset ≡ among (mask_ids lent m) (subset_ids m.subset)
  pub size : (1 ≤ k) × (k ≤ 32)
  pub pages : length bs ≡ 424 * k
  pub fewest : (n : ℕ) → end ≤ 424 * n → k ≤ n
  pub filling : drop end bs ≡ turns false (424 * k - end)

-- behind the first checks. "The answer is the size; octets behind the message are untouched"
pub record Judged (lent : Lent) (l before : List ℕ) (answer : Result ℕ Refusal) (after : List ℕ) : Type 0 where
  pub form : Exactly (answer ≡ Err Form) (SomeReads lent l AnyLength → ⊥)
  pub long : Exactly (answer ≡ Err Long) (SomeReads lent l AnyLength × (SomeReads lent l Within → ⊥))
  pub only : (r : Refusal) → answer ≡ Err r → (r ≡ Form) ⊎ (r ≡ Long)
  pub size : (k : ℕ) → answer ≡ Ok k → (bs : List Bool) × SoWritten lent l k bs × (after ≡ laid before 0 (octets_of bs))

-- the contract of `write`, whose buffer holds `before`, and then `after`
pub record Writes (c : Call) (before : List ℕ) (answer : Result ℕ Refusal) (after : List ℕ) : Type 0 where
  pub checks : (r : Refusal) → check c ≡ some r → answer ≡ Err r
  pub judged : check c ≡ none → Judged c.lent c.records before answer after
  -- "No refusal writes a lent buffer"
  pub kept : (r : Refusal) → answer ≡ Err r → after ≡ before
