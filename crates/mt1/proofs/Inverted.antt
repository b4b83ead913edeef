-- The parser of message type 1 and `encode` are inverse to each other.
-- Header, mask and blocks are read where their bits stand, one behind another; the systems of the mask that is used are settled by what was read before.
use Prim.Native.Nat.{ℕ, ◌≤◌}
use native.Mathlib.Omega.{arith}
use mathlib.Core.Bool.{Bool, true, false}
use mathlib.Core.List.{List, [], ◌++◌}
use mathlib.Core.Option.{Option, none, some}
use mathlib.Core.Path.{◌≡◌, refl, sym, ap}
use lib.Dec.{eqb}
use lib.ListN.{length}
use Rattle.bits.specs.Bits.{bits_of}
use Rattle.lists.proofs.Tests.{on_bool}
use Rattle.mt1.specs.Parse.{Outcome, got, bad, Parser, ◌>>=◌, fail}
use Rattle.mt1.specs.Message.{Message, Header, has_mask, has_orbit, has_clock, has_subset, has_code, has_phase, System, Mask}
use Rattle.mt1.specs.Mt1.{mask, needs_mask, used, or_mask, behind, Lent, cleanly, lent_for, message}
use Rattle.mt1.specs.Records.{systems_in, records, records_of}
use Rattle.mt1.specs.Encode.{encode}
use Rattle.mt1.specs.Valid.{MaskOk, IfFlag, Ok}
use Rattle.mt1.specs.Inverse.{Inverse}
use Rattle.mt1.proofs.Spans.{Span, span_rest, span_front}
use Rattle.mt1.proofs.Combinators.{Reads, some-none, bad-got, bind, ret-reads, then, last, reads_ok}
use Rattle.mt1.proofs.Several.{optional-reads}
use Rattle.mt1.proofs.Masks.{header-reads, mask-reads}
use Rattle.mt1.proofs.Blocks.{Masked, block_reads, orbits-reads, clocks-reads, subset-reads, codes-reads, phases-reads}

-- ---- the mask that is used
or_mask-reads : (o : Option (List System)) → Reads (or_mask o) (λ ss. o ≡ some ss) (λ ss. [])
unfolding fail
or_mask-reads (some ss) = reads_ok (λ t e. ap some (sym e)) (λ t e. cc) (ret-reads ss)
or_mask-reads none = record { complete = λ bs at ss end o s. absurd (some-none (sym o)); sound = λ bs at ss end h e. absurd (bad-got e) }

-- what is behind is read for these systems, which are no part of it
given : {B : Type 0} {o : Option (List System)} {k : List System → Parser B} {OkB : List System → B → Type 0} {enc_b : List System → B → List Bool}
    → ((ss : List System) → o ≡ some ss → Reads (k ss) (OkB ss) (enc_b ss)) → Reads (or_mask o >>= k) (λ b. (ss : List System) × (o ≡ some ss) × OkB ss b) (enc_b (systems_in o))
given {o = o} K = bind (λ ss b u r. ((ss, u, r), rw u)) (λ b q. q) (or_mask-reads o) K

lent_ok : (lent : Lent) (id : ℕ) (m : Mask) → lent_for lent id ≡ some m → MaskOk m
unfolding lent_for
lent_ok lent id m = on_bool (eqb lent.id id) (λ t. rw t λ e. clean (mask (bits_of lent.octets) 0) refl e) (λ t. rw t λ e. absurd (some-none (sym e)))
  where
    clean : (r : Outcome Mask) → mask (bits_of lent.octets) 0 ≡ r → cleanly r ≡ some m → MaskOk m
    clean (got x end) t e = let f : x ≡ m = cc in rw (← f) (mask-reads.sound (bits_of lent.octets) 0 x end (omega arith) t).ok
    clean (bad r) t e = absurd (some-none (sym e))

-- its systems are those of a mask that was read, or none
masked : (flag : Bool) (m : Mask) → IfFlag flag MaskOk (some m) → Masked m.systems
masked true m o = record { few = o.few; ids = o.ids; systems = o.systems }
masked false m o = absurd o

unmasked : Masked []
unmasked = record { few = omega arith; ids = tt; systems = tt }

used-masked : (lent : Option Mask) (h : Header) (own : Option Mask) (ss : List System)
    → ((m : Mask) → lent ≡ some m → MaskOk m) → IfFlag (has_mask h) MaskOk own → used lent h own ≡ some ss → Masked ss
unfolding used
used-masked lent h (some m) ss l o = λ u. let e : ss ≡ m.systems = cc in rw e (masked (has_mask h) m o)
used-masked none h none ss l o = on_bool (needs_mask h) (λ t. rw t λ u. absurd (some-none (sym u))) (λ t. rw t λ u. let e : ss ≡ [] = cc in rw e unmasked)
used-masked (some m) h none ss l o = on_bool (needs_mask h)
    (λ t. rw t λ u. let e : ss ≡ m.systems = cc in rw e (masked true m (l m refl)))
    (λ t. rw t λ u. let e : ss ≡ [] = cc in rw e unmasked)

-- ---- the message
pub message-reads : (lent : Lent) → Reads (message lent) (λ m. (ss : List System) × Ok (lent_for lent m.header.mask_id) ss m)
    (λ m. encode (systems_in (used (lent_for lent m.header.mask_id) m.header m.mask)) m)
unfolding message behind encode
message-reads lent = reads_ok
    (λ m o. let (ss, u, r) = o.1.1 in
    (ss, record { header = o.0; mask = o.1.0; used = u; orbits = r.0; clocks = r.1.0; subset = r.1.1.0; codes = r.1.1.1.0; phases = r.1.1.1.1.0 }))
    (λ m q. let (ss, o) = q in (o.header, (o.mask, (ss, o.used, (o.orbits, (o.clocks, (o.subset, (o.codes, (o.phases, refl)))))))))
    (then (λ m. m.header) (λ a m o. cc) header-reads λ h _.
    then (λ m. m.mask) (λ a m o. cc) (optional-reads (has_mask h) mask-reads) λ own o.
    given λ ss u.
    then (λ m. m.orbits) (λ a m o. cc) (optional-reads (has_orbit h) (block_reads (orbits-reads ss))) λ os _.
    then (λ m. m.clocks) (λ a m o. cc) (optional-reads (has_clock h) (block_reads (clocks-reads ss))) λ cs _.
    then (λ m. m.subset) (λ a m o. cc) (optional-reads (has_subset h) (block_reads (subset-reads ss (used-masked _ h own ss (lent_ok lent h.mask_id) o u)))) λ sub _.
    then (λ m. m.codes) (λ a m o. cc) (optional-reads (has_code h) (block_reads (codes-reads ss))) λ bs _.
    last (λ m. m.phases) (λ a. refl) (optional-reads (has_phase h) (block_reads (phases-reads ss))))

pub inverse : (lent : Lent) → Inverse lent
inverse lent = record {
  back = λ ss m rest o. (message-reads lent).complete (encode ss m ++ rest) 0 m (length (encode ss m)) (ss, o) (rw o.used (span_front (encode ss m) rest));
  again = λ bs m end e.
      let T = (message-reads lent).sound bs 0 m end (omega arith) e in
      let (ss, o) = T.ok in
      let s : Span bs 0 (encode ss m) end = rw o.used at T.span in
      (ss, record { valid = o; bits = span_rest s; ends = omega (arith, s.after) });
}

-- the systems that a message uses are those of a mask, or none
pub ok-masked : (lent : Lent) (ss : List System) (m : Message) → Ok (lent_for lent m.header.mask_id) ss m → Masked ss
ok-masked lent ss m o = used-masked (lent_for lent m.header.mask_id) m.header m.mask ss (lent_ok lent m.header.mask_id) o.mask o.used

-- and its records are theirs
pub records-used : (lent : Lent) (ss : List System) (m : Message) → used (lent_for lent m.header.mask_id) m.header m.mask ≡ some ss → records_of lent m ≡ records ss m
unfolding records_of
records-used lent ss m e = ap (λ (o : Option (List System)). records (systems_in o) m) e

-- what is read is no longer than the bit string
pub end-within : (lent : Lent) (bs : List Bool) (m : Message) (end : ℕ) → message lent bs 0 ≡ got m end → end ≤ length bs
end-within lent bs m end e = ((message-reads lent).sound bs 0 m end (omega arith) e).span.fits
