-- Writing and reading gives the same records, and reading and writing again gives the same octets for a message so written.
-- The octets are the bits that are so written, which read to the list; the list passes the checks as its message does, and of it one bit string is written.
use Prim.Native.Nat.{ℕ, ◌*◌, ◌/◌, ◌%◌, ◌≤◌}
use native.Mathlib.Omega.{arith}
use mathlib.Core.Bool.{Bool, true, false, not, ◌&&◌, and-false, cond}
use mathlib.Core.List.{List, []}
use mathlib.Core.Option.{Option, none, some}
use mathlib.Core.Path.{◌≡◌, refl, sym, ap, ap₂, subst, ◌∙◌}
use lib.ListN.{length, take}
use Rattle.std.specs.Prelude.{Result, Ok}
use borrow.Author.Tests.{lt-ltb, eq-eqb}
use Rattle.lists.specs.Lists.{laid}
use Rattle.lists.proofs.Laid.{laid-front}
use Rattle.bits.specs.Bits.{bits_of, octets_of}
use Rattle.bits.proofs.Octets.{length-bits_of, bits-of-octets}
use Rattle.refusal.specs.declared.Refusal.{Refusal}
use Rattle.mt1.specs.declared.answer.RefusalAt.{RefusalAt}
use Rattle.mt1.specs.Parse.{Outcome, got}
use Rattle.mt1.specs.Message.{Header, has_mask, System, Mask, Message}
use Rattle.mt1.specs.Mt1.{needs_mask, used, Lent, lent_for, is_none}
use Rattle.mt1.specs.Valid.{MaskOk, IfFlag}
use Rattle.mt1.specs.Records.{header_record, records}
use Rattle.mt1.proofs.Combinators.{some-none}
use Rattle.mt1.proofs.Inverted.{inverse, records-used, end-within}
use Rattle.reader.specs.Reader.{reading, answer_of, buffer_of}
use Rattle.reader.proofs.Answers.{pages}
use Rattle.writer.specs.Writer.{Call, are_records, header_of, is_header, lacks_mask, check, ReadsTo, SoWritten, Writes}
use Rattle.writer.specs.Rendering.{rendered}
use Rattle.writer.specs.WayBack.{ReadsAs, WayBack}
use Rattle.writer.proofs.Canonical.{canonical_header}
use Rattle.writer.proofs.Headed.{header_is}
use Rattle.writer.proofs.HeaderRecords.{message-header}
use Rattle.writer.proofs.Written.{records-few, size-refused, judged-size}
use Rattle.writer.proofs.Unique.{written-rendered}
use Rattle.writer.proofs.Settled.{one-writing}

-- ---- the checks
-- the first record alone is looked at
first_passes : (m : Message) (ss : List System) → is_header (records ss m) ≡ is_header (header_record m)
unfolding is_header header_of records header_record
first_passes m ss = refl

-- a message that has the systems of its mask lacks none
lacks-none : (lent : Lent) (h : Header) (own : Option Mask) (ss : List System) → IfFlag (has_mask h) MaskOk own → used (lent_for lent h.mask_id) h own ≡ some ss
    → lacks_mask lent h ≡ false
unfolding lacks_mask used
lacks-none lent h own ss o u = pick (has_mask h) own (lent_for lent h.mask_id) o u
  where
    unused : (needs : Bool) → cond needs none (some []) ≡ some ss → (needs && true) ≡ false
    unused true e = absurd (some-none (sym e))
    unused false e = refl

    pick : (flag : Bool) (own lends : Option Mask) → IfFlag flag MaskOk own → used lends h own ≡ some ss → (not flag && (needs_mask h && is_none lends)) ≡ false
    pick true own lends o u = refl
    pick false (some x) lends o u = absurd o
    pick false none none o u = unused (needs_mask h) u
    pick false none (some x) o u = and-false (needs_mask h)

module _ (lent : Lent) (l : List ℕ) (k : ℕ) (bs : List Bool) (w : SoWritten lent l k bs) where
  -- ---- the octets
  octets-bits : bits_of (octets_of bs) ≡ bs
  octets-bits = bits-of-octets (53 * k) bs (omega (arith, w.pages))

  octets-length : length (octets_of bs) ≡ 53 * k
  octets-length = omega (arith, w.pages, length-bits_of (octets_of bs), ap length octets-bits)

  octets-read : reading (record { octets = octets_of bs; lent = lent; room = 21808 }) ≡ got w.m w.end
  unfolding reading
  octets-read = rw (pages (length (octets_of bs)) (omega (arith, octets-length, w.size.0)) (omega (arith, octets-length, w.size.1)) (omega (arith, octets-length)), octets-bits) w.reads

  reads-back : (room room' : List ℕ) (answer : Result ℕ RefusalAt) → ReadsAs lent (octets_of bs) room answer room' → (answer ≡ Ok (length l / 16)) × (room' ≡ laid room 0 l)
  reads-back room room' answer r = (
    r.answered ∙ ap (answer_of lent) octets-read ∙ ap (λ (x : List ℕ). Ok (length x / 16)) w.records,
    r.buffer ∙ ap (λ (o : Outcome Message). buffer_of lent o room) octets-read ∙ ap (laid room 0) w.records,
  )

  -- ---- the list
  abbrev call : Call
  call = record { records = l; lent = lent; room = 1696 }

  reads-to : ReadsTo lent bs l
  reads-to = record { m = w.m; end = w.end; reads = w.reads; records = w.records }

  within : length (rendered l) ≤ 13568
  within = omega (arith, (written-rendered lent l k bs w).0, end-within lent bs w.m w.end w.reads, w.pages, w.size.1)

  -- it passes the checks
  unrefused : check call ≡ none
  unfolding check
  unrefused =
      let (ss, x) = (inverse lent).again bs w.m w.end w.reads in
      let e : l ≡ records ss w.m = sym w.records ∙ records-used lent ss w.m x.valid.used in
      let p : is_header l ≡ true = ap is_header e ∙ first_passes w.m ss ∙ message-header (lent_for lent w.m.header.mask_id) ss w.m x.valid in
      let h : header_of l ≡ canonical_header w.m.header = ap header_of e ∙ header_is w.m ss x.valid.header in
      let few = records-few lent bs l reads-to in
      let n : are_records (length l) ≡ true = ap₂ ◌&&◌ (lt-ltb 0 (length l) few.2) (eq-eqb (length l % 16) 0 few.0) in
      let y : lacks_mask lent (header_of l) ≡ false = ap (lacks_mask lent) h ∙ lacks-none lent w.m.header w.m.mask ss x.valid.mask x.valid.used in
      rw (n, p, y)

  writes_again : (before : List ℕ) → Writes call before (Ok k) (laid before 0 (octets_of bs))
  writes_again before = record {
    checks = λ r e. absurd (some-none (sym e ∙ unrefused));
    judged = λ e. judged-size lent l before (laid before 0 (octets_of bs)) bs reads-to within k bs w refl;
    kept = λ r e. absurd (size-refused e);
  }

-- what was written passed the checks
passed : (c : Call) (before after : List ℕ) (k : ℕ) → Writes c before (Ok k) after → check c ≡ none
passed c before after k w = pick (check c) refl
  where
    pick : (o : Option Refusal) → check c ≡ o → check c ≡ none
    pick none e = e
    pick (some r) e = absurd (size-refused (w.checks r e))

pub way_back : (lent : Lent) → WayBack lent
way_back lent = record {
  write-then-read = λ l before after k w room room' answer r.
      let (bs, o, e) = (w.judged (passed _ before after k w)).size k refl in
      let f : take (53 * k) after ≡ octets_of bs = ap (take (53 * k)) e ∙ laid-front before (octets_of bs) (53 * k) (octets-length lent l k bs o) in
      reads-back lent l k bs o room room' answer (subst (λ (x : List ℕ). ReadsAs lent x room answer room') f r);
  read-then-write = λ l k bs o. (
    reads-back lent l k bs o,
    λ before after answer x. one-writing _ before answer (Ok k) after (laid before 0 (octets_of bs)) x (writes_again lent l k bs o before),
  );
}
