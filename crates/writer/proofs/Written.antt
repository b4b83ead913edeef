-- A list that some bit string reads to is rendered as bits that read to it, with reserved bits 0 and the subset in mask order, and these are as long.
-- Such a list is the records of a valid message; its rendering is the encoding of the message in canonical form, which has the same records.
use Prim.Native.Nat.{ℕ, ◌+◌, ◌*◌, ◌-◌, ◌/◌, ◌%◌, ◌≤◌, ◌<◌}
use native.Mathlib.Omega.{arith}
use mathlib.Core.Bool.{Bool, false}
use mathlib.Core.List.{List, [], ◌++◌}
use mathlib.Core.Logic.{inl, inr}
use mathlib.Core.Option.{Option, none, some}
use mathlib.Core.Path.{◌≡◌, refl, sym, ap, subst, ◌∙◌}
use lib.ListN.{length, length-append}
use lib.Seq.{drop-append_seam}
use Rattle.std.specs.Prelude.{Result, Ok, Err}
use Rattle.lists.specs.Lists.{laid}
use Rattle.bits.specs.Bits.{octets_of}
use Rattle.refusal.specs.declared.Refusal.{Refusal}
use Rattle.refusal.specs.declared.Refusal.TheVariants.{Form, Long}
use Rattle.mt1.specs.Parse.{got}
use Rattle.mt1.specs.Message.{System, Mask, Message}
use Rattle.mt1.specs.Mt1.{Lent, lent_for, ids, message}
use Rattle.mt1.specs.Encode.{encode}
use Rattle.mt1.specs.Records.{part, records, systems_in, records_of}
use Rattle.mt1.proofs.Counts.{length-records, room-for-records}
use Rattle.mt1.proofs.Inverted.{inverse, ok-masked, records-used, end-within}
use Rattle.writer.specs.Writer.{ReadsTo, SomeReads, AnyLength, Within, mask_reserved, subset_ids, among, mask_ids, turns, SoWritten, Judged}
use Rattle.writer.specs.Rendering.{rendered, rendered_of, header_part}
use Rattle.writer.proofs.Canonical.{canonical, canonical_mask, canonical-ok, canonical-records, canonical-length, canonical-order}
use Rattle.writer.proofs.Rendered.{rendered-records}
use Rattle.writer.proofs.Filling.{length-turns}

-- the message c that the rendering of a list is, however it goes on
pub record Again (lent : Lent) (l : List ℕ) (end : ℕ) (c : Message) : Type 0 where
  pub reads : (rest : List Bool) → message lent (rendered l ++ rest) 0 ≡ got c end
  pub records : records_of lent c ≡ l
  pub ends : length (rendered l) ≡ end
  pub header_reserved : c.header.reserved ≡ 0
  pub mask_reserved : mask_reserved c.mask ≡ 0
  pub mask_order : subset_ids c.subset ≡ among (mask_ids lent c) (subset_ids c.subset)

-- ---- a message that is read
reserved-none : (k : Option Mask) → mask_reserved (part canonical_mask k) ≡ 0
reserved-none none = refl
reserved-none (some k) = refl

pub again : (lent : Lent) (bs : List Bool) (m : Message) (end : ℕ) → message lent bs 0 ≡ got m end → (c : Message) × Again lent (records_of lent m) end c
again lent bs m end e =
    let (ss, x) = (inverse lent).again bs m end e in
    let k = ok-masked lent ss m x.valid in
    let lends = lent_for lent m.header.mask_id in
    let c = canonical ss m in
    let o = canonical-ok lends ss m x.valid k in
    let l : records_of lent m ≡ records ss m = records-used lent ss m x.valid.used in
    let r : rendered (records_of lent m) ≡ encode ss c = ap rendered l ∙ rendered-records lends ss m x.valid k in
    let n : length (rendered (records_of lent m)) ≡ end = ap length r ∙ canonical-length lends ss m x.valid k ∙ sym x.ends in (
      c,
      record {
        reads = λ rest. ap (λ (bs : List Bool). message lent (bs ++ rest) 0) r ∙ (inverse lent).back ss c rest o ∙ ap (got c) (sym (ap length r) ∙ n);
        records = records-used lent ss c o.used ∙ canonical-records lends ss m x.valid k ∙ sym l;
        ends = n;
        header_reserved = refl;
        mask_reserved = reserved-none m.mask;
        mask_order = subst (λ (u : Option (List System)). subset_ids c.subset ≡ among (ids (systems_in u)) (subset_ids c.subset)) (sym o.used) (canonical-order lends ss m x.valid k);
      },
    )

-- the records of a message are whole, no more than 1,363, and not none
pub records-few : (lent : Lent) (bs : List Bool) (l : List ℕ) → ReadsTo lent bs l → (length l % 16 ≡ 0) × (length l ≤ 21808) × (0 < length l)
records-few lent bs l t =
    let (ss, x) = (inverse lent).again bs t.m t.end t.reads in
    let k = ok-masked lent ss t.m x.valid in
    let e : records ss t.m ≡ l = sym (records-used lent ss t.m x.valid.used) ∙ t.records in
    let n = length-records t.m ss k.systems in
    (omega (arith, ap length e, n), omega (arith, ap length e, room-for-records t.m ss k.few k.systems), omega (arith, ap length e, n))

-- ---- lengths
-- a header has 32 bits
pub header-long : (l : List ℕ) → 32 ≤ length (rendered l)
unfolding rendered rendered_of header_part
header-long l = simp length-append omega arith

-- ---- answers differ
pub size-refused : {k : ℕ} {r : Refusal} → ◌≡◌ {A = Result ℕ Refusal} (Ok k) (Err r) → ⊥
size-refused e = let z : ◌≡◌ {A = ℕ} 0 1 = cc in omega arith

form-long : ◌≡◌ {A = Result ℕ Refusal} (Err Form) (Err Long) → ⊥
form-long e = let z : ◌≡◌ {A = ℕ} 0 1 = cc in omega arith

refused-same : {r s : Refusal} → ◌≡◌ {A = Result ℕ Refusal} (Err r) (Err s) → r ≡ s
refused-same e = cc

size_same : {j k : ℕ} → ◌≡◌ {A = Result ℕ Refusal} (Ok j) (Ok k) → j ≡ k
size_same e = cc

-- ---- the rendering of a list
module _ (lent : Lent) (l : List ℕ) where
  -- the message that it is, if some bit string reads to the list
  renders : (bs : List Bool) (t : ReadsTo lent bs l) → (c : Message) × Again lent l t.end c
  renders bs t = subst (λ (x : List ℕ). (c : Message) × Again lent x t.end c) t.records (again lent bs t.m t.end t.reads)

  reads-rendered : (rest : List Bool) → SomeReads lent l AnyLength → ReadsTo lent (rendered l ++ rest) l
  reads-rendered rest (bs, u, t) = let (c, a) = renders bs t in record { m = c; end = t.end; reads = a.reads rest; records = a.records }

  within-rendered : SomeReads lent l Within → length (rendered l) ≤ 13568
  within-rendered (bs, w, t) = let (c, a) = renders bs t in omega (arith, w, a.ends, end-within lent bs t.m t.end t.reads)

  rendered-within : (bs : List Bool) → ReadsTo lent bs l → length (rendered l) ≤ 13568 → SomeReads lent l Within
  rendered-within bs t w = (rendered l ++ [], omega (arith, w, length-append (rendered l) []), reads-rendered [] (bs, tt, t))

  -- the rendering with the filling behind it
  pub so-written : (bs : List Bool) → ReadsTo lent bs l → (k : ℕ) → k ≡ (length (rendered l) + 423) / 424 → length (rendered l) ≤ 13568
      → SoWritten lent l k (rendered l ++ turns false (424 * k - length (rendered l)))
  so-written bs t k e w =
      let (c, a) = renders bs t in
      let n = length (rendered l) in
      let fill = turns false (424 * k - n) in
      let h = header-long l in
      record {
        m = c;
        end = n;
        reads = a.reads fill ∙ ap (got c) (sym a.ends);
        records = a.records;
        header_reserved = a.header_reserved;
        mask_reserved = a.mask_reserved;
        mask_order = a.mask_order;
        size = (omega (arith, e, h), omega (arith, e, w));
        pages = omega (arith, e, length-append (rendered l) fill, length-turns false (424 * k - n));
        fewest = λ i g. omega (arith, e, g);
        filling = drop-append_seam (rendered l) fill;
      }

  -- ---- what is answered
  module _ (before after : List ℕ) where
    pub judged-unread : (SomeReads lent l AnyLength → ⊥) → Judged lent l before (Err Form) after
    judged-unread unread = record {
      form = (λ e s. unread s, λ s. refl);
      long = (λ e. absurd (form-long e), λ s. absurd (unread s.0));
      only = λ r e. inl (sym (refused-same e));
      size = λ k e. absurd (size-refused (sym e));
    }

    pub judged-form : (rest : List Bool) → (ReadsTo lent (rendered l ++ rest) l → ⊥) → Judged lent l before (Err Form) after
    judged-form rest unread = judged-unread λ s. unread (reads-rendered rest s)

    pub judged-long : (bs : List Bool) → ReadsTo lent bs l → 13568 < length (rendered l) → Judged lent l before (Err Long) after
    judged-long bs t n = record {
      form = (λ e. absurd (form-long (sym e)), λ s. absurd (s (bs, tt, t)));
      long = (λ e. ((bs, tt, t), λ s. let z : ⊥ = omega (arith, n, within-rendered s) in z), λ s. refl);
      only = λ r e. inr (sym (refused-same e));
      size = λ k e. absurd (size-refused (sym e));
    }

    pub judged-size : (bs : List Bool) → ReadsTo lent bs l → length (rendered l) ≤ 13568 → (k : ℕ) (w : List Bool) → SoWritten lent l k w → after ≡ laid before 0 (octets_of w) → Judged lent l before (Ok k) after
    judged-size bs t few k w o e = record {
      form = (λ e. absurd (size-refused e), λ s. absurd (s (bs, tt, t)));
      long = (λ e. absurd (size-refused e), λ s. absurd (s.1 (rendered-within bs t few)));
      only = λ r e. absurd (size-refused e);
      size = λ i q. (w, subst (λ (j : ℕ). SoWritten lent l j w) (size_same q) o, e);
    }
