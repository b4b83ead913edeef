-- The header records that `is_header` lets pass are those that a message has, and it looks at the first record only.
-- A message that is read is valid, so its header record passes; for a record that passes there is a message with a mask of one system that has no satellites.
use Prim.Native.Nat.{ℕ, zero, suc, ◌+◌, ◌*◌, ◌/◌, ◌%◌, ◌<◌, ◌≤◌}
use native.Mathlib.Nat.{mod-eq_of_lt}
use native.Mathlib.Omega.{arith}
use mathlib.Core.Bool.{Bool, true, false, ◌&&◌, or-true, cond}
use mathlib.Core.List.{List, [], ◌∷◌, ◌++◌}
use mathlib.Core.Option.{Option, none, some}
use mathlib.Core.Path.{◌≡◌, refl, sym, ap, ap₂, ◌∙◌}
use lib.Dec.{eqb, ltb}
use lib.ListN.{length, get_or, take, drop, replicate}
use lib.Seq.{drop-cons, take_all}
use borrow.Author.Tests.{ltb-true, eqb-true, lt-ltb, eq-eqb}
use Rattle.bits.specs.Bits.{bits, value}
use Rattle.bits.proofs.Values.{length-bits, value-lt, value-bits, bits-value}
use Rattle.lists.proofs.Tests.{and_left, and_right}
use Rattle.mt1.specs.Message.{Header, has_mask, has_orbit, has_clock, has_subset, has_code, has_phase, System, cells_of, count, Mask, Block, Message}
use Rattle.mt1.specs.Mt1.{needs_mask, used, Lent, lent_for, satellites_of}
use Rattle.mt1.specs.Encode.{encode}
use Rattle.mt1.specs.Valid.{HeaderOk, MaskOk, OrbitsOk, ClocksOk, SubsetsOk, CodesOk, PhasesOk, BlockOk, IfFlag, Ok}
use Rattle.mt1.specs.Records.{interval_of, header_record, systems_in}
use Rattle.mt1.proofs.Several.{if-flag}
use Rattle.mt1.proofs.Inverted.{inverse}
use Rattle.writer.specs.Writer.{Exactly, pair, header_of, interval_fits, numbers_fit, intervals_fit, unnamed_zero, is_header, AMessageHas}

-- ---- a list by its elements: n of them, from a place on
abbrev from : ℕ → ℕ → List ℕ → List ℕ
from zero k l = []
from (suc n) k l = get_or l k 0 ∷ from n (suc k) l

elements : (n k : ℕ) (l : List ℕ) → k + n ≤ length l → take n (drop k l) ≡ from n k l
elements zero k l h = refl
elements (suc n) k l h = ap (take (suc n)) (drop-cons l k 0 (omega arith)) ∙ ap (λ (r : List ℕ). get_or l k 0 ∷ r) (elements n (suc k) l (omega arith))

-- it looks at the first record only: said for who reads, nothing leans on it
pub header-front : (l : List ℕ) → 16 ≤ length l → is_header l ≡ is_header (take 16 l)
unfolding is_header header_of
header-front l h = sym (ap is_header (elements 16 0 l h))

-- ---- from a message
interval-fits : {A : Type 0} (P : A → Type 0) (flag : Bool) (b : Option (Block A)) → IfFlag flag (BlockOk P) b → interval_fits flag (interval_of b) ≡ true
interval-fits P = if-flag (BlockOk P) (λ flag x. interval_fits flag (interval_of x) ≡ true) (λ b o. lt-ltb b.interval 15 o.interval) refl

module _ (lent : Option Mask) (ss : List System) (m : Message) (o : Ok lent ss m) where
  numbers_fit_lem : numbers_fit (header_record m) ≡ true
  unfolding header_record
  numbers_fit_lem =
      let h = m.header in
      let v : value h.flags < 64 = rw o.header.flags at (value-lt h.flags) in
      ap₂ ◌&&◌ (lt-ltb (value h.flags) 64 v)
      (ap₂ ◌&&◌ (lt-ltb h.mask_id 32 o.header.mask_id)
      (ap₂ ◌&&◌ (lt-ltb h.iod_set 32 o.header.iod_set)
      (lt-ltb (256 * (h.time / 256) + h.time % 256) 3600 (omega (arith, o.header.time)))))

  -- a block's flag is in the record as it is in the header
  fits : {A : Type 0} (P : A → Type 0) (k : ℕ) (b : Option (Block A)) → IfFlag (get_or m.header.flags k false) (BlockOk P) b
      → interval_fits (get_or (bits 6 (value m.header.flags)) k false) (interval_of b) ≡ true
  fits P k b i =
      ap (λ (fs : List Bool). interval_fits (get_or fs k false) (interval_of b)) (bits-value 6 m.header.flags o.header.flags)
      ∙ interval-fits P (get_or m.header.flags k false) b i

  pub message-header : is_header (header_record m) ≡ true
  unfolding is_header header_of header_record
  message-header = ap₂ ◌&&◌ numbers_fit_lem (ap₂ ◌&&◌
      (ap₂ ◌&&◌ (fits (OrbitsOk ss) 1 m.orbits o.orbits)
      (ap₂ ◌&&◌ (fits (ClocksOk ss) 2 m.clocks o.clocks)
      (ap₂ ◌&&◌ (fits (SubsetsOk ss) 3 m.subset o.subset)
      (ap₂ ◌&&◌ (fits (CodesOk ss) 4 m.codes o.codes)
      (fits (PhasesOk ss) 5 m.phases o.phases)))))
      refl)

-- ---- to a message: its mask has one system, that has no satellites and no signals
plain : System
plain = record { id = 0; satellites = replicate 40 false; signals = replicate 16 false; cell_flag = 0; cells = []; navigation = 0 }

plain_mask : Mask
plain_mask = record { systems = plain ∷ []; reserved = 0 }

-- its bits, and some behind them
abbrev octets : List ℕ
octets = 16 ∷ replicate 9 0

plain_ok : MaskOk plain_mask
unfolding plain plain_mask count
plain_ok = record {
  some = omega arith;
  few = omega arith;
  ids = (refl, refl, tt);
  systems = (record { satellites = refl; signals = refl; cell_flag = omega arith; cells = refl; navigation = refl }, tt);
  reserved = omega arith;
}

lends : (id : ℕ) → lent_for (record { id = id; octets = octets }) id ≡ some plain_mask
unfolding lent_for plain_mask plain
lends id = rw (eq-eqb id id refl)

-- its blocks have nothing but an interval
abbrev block_if : {A : Type 0} → Bool → ℕ → A → Option (Block A)
block_if true v x = some (record { interval = v; body = x })
block_if false v x = none

abbrev mask_if : Bool → Option Mask
mask_if true = some plain_mask
mask_if false = none

abbrev plain_message : List ℕ → Message
plain_message r =
    let h = header_of r in
    record {
      header = h;
      mask = mask_if (has_mask h);
      orbits = block_if (has_orbit h) (get_or r 6 0) ([] ∷ []);
      clocks = block_if (has_clock h) (get_or r 7 0) (record { multipliers = 0 ∷ []; clocks = [] ∷ [] });
      subset = block_if (has_subset h) (get_or r 8 0) (record { id = 0; multiplier = 0; chosen = []; clocks = [] } ∷ []);
      codes = block_if (has_code h) (get_or r 9 0) ([] ∷ []);
      phases = block_if (has_phase h) (get_or r 10 0) ([] ∷ []);
    }

-- the systems that it uses: the plain one, or none
abbrev plain_systems : Header → List System
plain_systems h = systems_in (used (some plain_mask) h (mask_if (has_mask h)))

used-plain : (h : Header) (own : Option Mask) → used (some plain_mask) h own ≡ some (systems_in (used (some plain_mask) h own))
unfolding used
used-plain h none = refl
used-plain h (some m) = refl

needed : (h : Header) (own : Bool) → needs_mask h ≡ true → systems_in (used (some plain_mask) h (mask_if own)) ≡ plain ∷ []
unfolding used plain_mask
needed h true e = refl
needed h false e = ap (λ (b : Bool). cond b (plain ∷ []) []) e

mask-ok : (flag : Bool) → IfFlag flag MaskOk (mask_if flag)
mask-ok true = plain_ok
mask-ok false = tt

block-ok : {A : Type 0} (P : List System → A → Type 0) (flag : Bool) (v : ℕ) (x : A) (ss : List System) → P (plain ∷ []) x → (flag ≡ true → ss ≡ plain ∷ [])
    → interval_fits flag v ≡ true → IfFlag flag (BlockOk (P ss)) (block_if flag v x)
block-ok P true v x ss p s e = record { interval = ltb-true v 15 e; body = rw (s refl) p }
block-ok P false v x ss p s e = tt

interval-is : {A : Type 0} (flag : Bool) (v : ℕ) (x : A) → interval_fits flag v ≡ true → interval_of (block_if flag v x) ≡ v
interval-is true v x e = refl
interval-is false v x e = sym (eqb-true v 255 e)

-- ---- what a record that passes tells: its tests come in fives
five : (a b c d e : Bool) → (a && (b && (c && (d && e)))) ≡ true → (a ≡ true) × (b ≡ true) × (c ≡ true) × (d ≡ true) × (e ≡ true)
five a b c d e t =
    let t₁ = and_right a (b && (c && (d && e))) t in
    let t₂ = and_right b (c && (d && e)) t₁ in
    let t₃ = and_right c (d && e) t₂ in
    (and_left a (b && (c && (d && e))) t, and_left b (c && (d && e)) t₁, and_left c (d && e) t₂, and_left d e t₃, and_right d e t₃)

module _ (r : List ℕ) (long : length r ≡ 16) (octet : (i : ℕ) → get_or r i 0 < 256) (e : is_header r ≡ true) where
  numbers : (get_or r 0 0 ≡ 1) × (get_or r 1 0 < 64) × (get_or r 2 0 < 32) × (get_or r 3 0 < 32) × (pair r 4 < 3600)
  unfolding is_header
  numbers =
      let (kind, flags, mask_id, iod_set, time) = five (eqb (get_or r 0 0) 1) (ltb (get_or r 1 0) 64) (ltb (get_or r 2 0) 32) (ltb (get_or r 3 0) 32) (ltb (pair r 4) 3600)
      (and_left (numbers_fit r) (intervals_fit (header_of r) r && unnamed_zero r) e) in
      (eqb-true (get_or r 0 0) 1 kind, ltb-true (get_or r 1 0) 64 flags, ltb-true (get_or r 2 0) 32 mask_id, ltb-true (get_or r 3 0) 32 iod_set, ltb-true (pair r 4) 3600 time)

  fit : ℕ → ℕ → Bool
  fit k i = interval_fits (get_or (header_of r).flags k false) (get_or r i 0)

  intervals : (fit 1 6 ≡ true) × (fit 2 7 ≡ true) × (fit 3 8 ≡ true) × (fit 4 9 ≡ true) × (fit 5 10 ≡ true)
  unfolding is_header fit
  intervals = five (fit 1 6) (fit 2 7) (fit 3 8) (fit 4 9) (fit 5 10)
      (and_left (intervals_fit (header_of r) r) (unnamed_zero r) (and_right (numbers_fit r) (intervals_fit (header_of r) r && unnamed_zero r) e))

  unnamed : replicate 5 0 ≡ from 5 11 r
  unfolding is_header
  unnamed =
      let (a, b, c, d, f) = five (eqb (get_or r 11 0) 0) (eqb (get_or r 12 0) 0) (eqb (get_or r 13 0) 0) (eqb (get_or r 14 0) 0) (eqb (get_or r 15 0) 0)
      (and_right (intervals_fit (header_of r) r) (unnamed_zero r) (and_right (numbers_fit r) (intervals_fit (header_of r) r && unnamed_zero r) e)) in
      sym (rw (eqb-true (get_or r 11 0) 0 a, eqb-true (get_or r 12 0) 0 b, eqb-true (get_or r 13 0) 0 c, eqb-true (get_or r 14 0) 0 d, eqb-true (get_or r 15 0) 0 f))

  record_is : header_record (plain_message r) ≡ r
  unfolding header_record header_of fit
  record_is =
      let h = header_of r in
      let n = numbers in
      let i = intervals in
      let flags : value (bits 6 (get_or r 1 0)) ≡ get_or r 1 0 = value-bits 6 (get_or r 1 0) ∙ mod-eq_of_lt n.1 in
      let high : pair r 4 / 256 ≡ get_or r 4 0 = omega (arith, octet 5) in
      let low : pair r 4 % 256 ≡ get_or r 5 0 = omega (arith, octet 5) in
      ap₂ ◌∷◌ (sym n.0) (ap₂ ◌∷◌ flags (ap (λ (l : List ℕ). get_or r 2 0 ∷ get_or r 3 0 ∷ l) (ap₂ ◌∷◌ high (ap₂ ◌∷◌ low
      (ap₂ ◌∷◌ (interval-is (has_orbit h) (get_or r 6 0) _ i.0)
      (ap₂ ◌∷◌ (interval-is (has_clock h) (get_or r 7 0) _ i.1)
      (ap₂ ◌∷◌ (interval-is (has_subset h) (get_or r 8 0) _ i.2)
      (ap₂ ◌∷◌ (interval-is (has_code h) (get_or r 9 0) _ i.3)
      (ap₂ ◌∷◌ (interval-is (has_phase h) (get_or r 10 0) _ i.4) unnamed)))))))))
      ∙ sym (elements 16 0 r (omega (arith, long))) ∙ take_all 16 r (omega (arith, long))

  header_ok : HeaderOk (header_of r)
  unfolding header_of
  header_ok = record { time = numbers.4; flags = length-bits 6 (get_or r 1 0); reserved = omega arith; mask_id = numbers.2; iod_set = numbers.3 }

  plain-message-ok : Ok (some plain_mask) (plain_systems (header_of r)) (plain_message r)
  unfolding plain count cells_of satellites_of fit
  plain-message-ok =
      let h = header_of r in
      let i = intervals in
      let ss = plain_systems h in
      let uses = needed h (has_mask h) in
      record {
        header = header_ok;
        mask = mask-ok (has_mask h);
        used = used-plain h (mask_if (has_mask h));
        orbits = block-ok OrbitsOk (has_orbit h) (get_or r 6 0) ([] ∷ []) ss ((refl, tt), tt) (λ t. uses (simp t)) i.0;
        clocks = block-ok ClocksOk (has_clock h) (get_or r 7 0) _ ss
            (record { multipliers = (refl, (omega arith, tt)); clocks = ((refl, tt), tt) })
            (λ t. uses (simp (t, or-true))) i.1;
        subset = block-ok SubsetsOk (has_subset h) (get_or r 8 0) _ ss
            (record { some = omega arith; few = omega arith; chosen_ids = (refl, refl, tt); each = (record { multiplier = omega arith; chosen = refl; clocks = (refl, tt) }, tt) })
            (λ t. uses (simp (t, or-true))) i.2;
        codes = block-ok CodesOk (has_code h) (get_or r 9 0) ([] ∷ []) ss ((refl, tt), tt) (λ t. uses (simp (t, or-true))) i.3;
        phases = block-ok PhasesOk (has_phase h) (get_or r 10 0) ([] ∷ []) ss ((refl, tt), tt) (λ t. uses (simp (t, or-true))) i.4;
      }

  has-message : AMessageHas r
  unfolding header_of
  has-message =
      let lent : Lent = record { id = get_or r 2 0; octets = octets } in
      let m = plain_message r in
      let ss = plain_systems (header_of r) in
      record {
        lent = lent;
        bs = encode ss m ++ [];
        m = m;
        end = length (encode ss m);
        reads = (inverse lent).back ss m [] (rw (lends (get_or r 2 0)) plain-message-ok);
        header = record_is;
      }

-- a record is octets: without that, 0 and 300 would pass as the two octets of a time
pub header-records : (r : List ℕ) → length r ≡ 16 → ((i : ℕ) → get_or r i 0 < 256) → Exactly (is_header r ≡ true) (AMessageHas r)
header-records r long octet = (
  has-message r long octet,
  λ a.
      let (ss, v) = (inverse a.lent).again a.bs a.m a.end a.reads in
      ap is_header (sym a.header) ∙ message-header _ ss a.m v.valid,
)
