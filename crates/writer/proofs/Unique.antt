-- Bits that are so written of a list of records are one bit string, of one number of pages.
-- A message with reserved bits 0 and its subset in mask order is its own canonical form, so its bits are the list's rendering; the filling and the pages follow from its length.
use Prim.Native.Nat.{ℕ, ◌*◌, ◌-◌, ◌≤◌}
use native.Mathlib.Omega.{arith}
use mathlib.Core.Bool.{Bool, false}
use mathlib.Core.List.{List, ◌++◌, map}
use mathlib.Core.Option.{Option, none, some}
use mathlib.Core.Path.{◌≡◌, refl, sym, ap, ap₂, ◌∙◌}
use lib.ListN.{length, get_or}
use Rattle.mt1.specs.Message.{Header, has_subset, System, Mask, Subset, Block, Message}
use Rattle.mt1.specs.Mt1.{Lent, lent_for, ids}
use Rattle.mt1.specs.Encode.{encode}
use Rattle.mt1.specs.Valid.{SubsetsOk, BlockOk, IfFlag, Ok}
use Rattle.mt1.specs.Records.{part, systems_in}
use Rattle.mt1.proofs.Several.{if-flag}
use Rattle.mt1.proofs.Blocks.{Masked}
use Rattle.mt1.proofs.Inverted.{inverse, ok-masked, records-used, end-within}
use Rattle.writer.specs.Writer.{mask_reserved, subset_ids, among, turns, SoWritten}
use Rattle.writer.specs.Rendering.{rendered}
use Rattle.writer.proofs.Canonical.{ordered, canonical_header, canonical_mask, canonical_subset, changed, canonical, by_order, ids-ordered}
use Rattle.writer.proofs.Rendered.{rendered-records}

-- ---- a message that is its own canonical form
header-settled : (h : Header) → h.reserved ≡ 0 → canonical_header h ≡ h
header-settled h e = ap (λ (r : ℕ). record { time = h.time; flags = h.flags; reserved = r; mask_id = h.mask_id; iod_set = h.iod_set }) (sym e)

mask-settled : (own : Option Mask) → mask_reserved own ≡ 0 → part canonical_mask own ≡ own
mask-settled none e = refl
mask-settled (some k) e = ap (λ (r : ℕ). some (record { systems = k.systems; reserved = r })) (sym e)

-- two parts whose IDs differ have not the same IDs when turned
order_settled : (ss : List System) (subs : List Subset) → Masked ss → SubsetsOk ss subs → map (λ s. s.id) subs ≡ map (λ s. s.id) (ordered ss subs) → ordered ss subs ≡ subs
order_settled = by_order (λ l r. map (λ s. s.id) l ≡ map (λ s. s.id) r → r ≡ l) (λ l e. refl)
    (λ a b n e. absurd (n (ap (λ (l : List ℕ). get_or l 0 0) e)))

subset-settled : (ss : List System) → Masked ss → (flag : Bool) (sub : Option (Block (List Subset))) → IfFlag flag (BlockOk (SubsetsOk ss)) sub
    → subset_ids sub ≡ among (ids ss) (subset_ids sub) → part (canonical_subset ss) sub ≡ sub
subset-settled ss k =
    if-flag (BlockOk (SubsetsOk ss)) (λ _ x. subset_ids x ≡ among (ids ss) (subset_ids x) → part (canonical_subset ss) x ≡ x)
    (λ b o e. ap (λ (l : List Subset). some (record { interval = b.interval; body = l })) (order_settled ss b.body k o.body (e ∙ sym (ids-ordered ss b.body))))
    (λ e. refl)

canonical-same : (lent : Option Mask) (ss : List System) (m : Message) → Ok lent ss m → Masked ss
    → m.header.reserved ≡ 0 → mask_reserved m.mask ≡ 0 → subset_ids m.subset ≡ among (ids ss) (subset_ids m.subset) → canonical ss m ≡ m
canonical-same lent ss m o k h r e =
    ap₂ (λ (x : Header) (y : Option Mask). changed m x y (part (canonical_subset ss) m.subset)) (header-settled m.header h) (mask-settled m.mask r)
    ∙ ap (changed m m.header m.mask) (subset-settled ss k (has_subset m.header) m.subset o.subset e)

-- ---- the bits
module _ (lent : Lent) (l : List ℕ) where
  -- they are the rendering of the list and the filling
  pub written-rendered : (k : ℕ) (bs : List Bool) (w : SoWritten lent l k bs) → (w.end ≡ length (rendered l)) × (bs ≡ rendered l ++ turns false (424 * k - length (rendered l)))
  written-rendered k bs w =
      let m = w.m in
      let (ss, x) = (inverse lent).again bs m w.end w.reads in
      let q = ok-masked lent ss m x.valid in
      let lends = lent_for lent m.header.mask_id in
      let order : subset_ids m.subset ≡ among (ids ss) (subset_ids m.subset) = w.mask_order ∙ ap (λ (u : Option (List System)). among (ids (systems_in u)) (subset_ids m.subset)) x.valid.used in
      let same : canonical ss m ≡ m = canonical-same lends ss m x.valid q w.header_reserved w.mask_reserved order in
      let r : encode ss m ≡ rendered l =
      ap (encode ss) (sym same) ∙ sym (rendered-records lends ss m x.valid q) ∙ ap rendered (sym (records-used lent ss m x.valid.used) ∙ w.records) in
      let e : w.end ≡ length (rendered l) = x.ends ∙ ap length r in
      (e, x.bits ∙ ap₂ (λ (a b : List Bool). a ++ b) r (w.filling ∙ ap (λ (n : ℕ). turns false (424 * k - n)) e))

  -- a message ends within its pages, so it has no more of them than another of the same length
  no_more : (k k' : ℕ) (bs bs' : List Bool) (w : SoWritten lent l k bs) (w' : SoWritten lent l k' bs') → w.end ≡ w'.end → k ≤ k'
  no_more k k' bs bs' w w' e = w.fewest k' (omega (arith, e, end-within lent bs' w'.m w'.end w'.reads, w'.pages))

  pub one_written : (k k' : ℕ) (bs bs' : List Bool) → SoWritten lent l k bs → SoWritten lent l k' bs' → (k ≡ k') × (bs ≡ bs')
  one_written k k' bs bs' w w' =
      let (e, b) = written-rendered k bs w in
      let (e', b') = written-rendered k' bs' w' in
      let n : k ≡ k' = omega (arith, no_more k k' bs bs' w w' (e ∙ sym e'), no_more k' k bs' bs w' w (e' ∙ sym e)) in
      (n, b ∙ ap (λ (i : ℕ). rendered l ++ turns false (424 * i - length (rendered l))) n ∙ sym b')
