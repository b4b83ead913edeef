-- The message as it is written, reserved bits 0 and the subset's systems in mask order: valid as before, of the same records and as long.
-- The records hold neither reserved bits nor an order of the subset, and another order is as long.
use Prim.Native.Nat.{ℕ, suc}
use native.Mathlib.Omega.{arith}
use mathlib.Core.Bool.{Bool, true, false, or-false, cond}
use mathlib.Core.List.{List, [], ◌∷◌, ◌++◌, map}
use mathlib.Core.Logic.{◌⊎◌, inl, inr}
use mathlib.Core.Option.{Option, none, some}
use mathlib.Core.Path.{◌≡◌, refl, sym, ap, ap₂, ◌∙◌, fun_ext}
use lib.Dec.{eqb}
use lib.ListN.{length, get_or, length-append}
use borrow.Author.Tests.{eqb-true, eqb-false, eq-eqb, ne_eqb}
use Rattle.bits.proofs.Values.{length-bits}
use Rattle.lists.specs.Lists.{memb}
use Rattle.lists.proofs.Tests.{on_bool}
use Rattle.mt1.specs.Message.{Header, has_mask, has_subset, System, count_before, Mask, Subset, Block, Message}
use Rattle.mt1.specs.Mt1.{ids, used}
use Rattle.mt1.specs.Encode.{each, if_there, mask_bits, block_bits, subsets_bits, encode}
use Rattle.mt1.specs.Valid.{MaskOk, SubsetsOk, BlockOk, IfFlag, Ok}
use Rattle.mt1.specs.Records.{of_id, part, subset_of, interval_of, header_record, system_record, satellite_record, cell_record, build, cell_records, satellite_records, system_records, records}
use Rattle.mt1.proofs.Several.{if-flag}
use Rattle.mt1.proofs.Blocks.{Masked}
use Rattle.writer.specs.Writer.{subset_ids, among}

-- what there is, before a list
abbrev pub or_none : {A : Type 0} → Option A → List A → List A
or_none none l = l
or_none (some x) l = x ∷ l

-- the parts of the subset in the order of the mask's systems
unfoldable pub ordered : List System → List Subset → List Subset
unfolding of_id
ordered [] subs = []
ordered (s ∷ ss) subs = or_none (of_id subs s.id) (ordered ss subs)

abbrev pub canonical_header : Header → Header
canonical_header h = record { time = h.time; flags = h.flags; reserved = 0; mask_id = h.mask_id; iod_set = h.iod_set }

abbrev pub canonical_mask : Mask → Mask
canonical_mask k = record { systems = k.systems; reserved = 0 }

abbrev pub canonical_subset : List System → Block (List Subset) → Block (List Subset)
canonical_subset ss b = record { interval = b.interval; body = ordered ss b.body }

-- a message with another header, mask and subset
abbrev pub changed : Message → Header → Option Mask → Option (Block (List Subset)) → Message
changed m h k sub = record { header = h; mask = k; orbits = m.orbits; clocks = m.clocks; subset = sub; codes = m.codes; phases = m.phases }

abbrev pub canonical : List System → Message → Message
canonical ss m = changed m (canonical_header m.header) (part canonical_mask m.mask) (part (canonical_subset ss) m.subset)

-- ---- by cases: the subset is in mask order, or it is two parts in the other order
memb-one : (i x : ℕ) → memb i (x ∷ []) ≡ true → i ≡ x
memb-one i x e = eqb-true i x (sym (or-false (eqb i x)) ∙ e)

memb-two : (i x y : ℕ) → memb i (x ∷ y ∷ []) ≡ true → (i ≡ x) ⊎ (i ≡ y)
memb-two i x y = on_bool (eqb i x) (λ q e. inl (eqb-true i x q)) (λ q. rw q λ e. inr (memb-one i y e))

memb-not : (i x : ℕ) → memb i (x ∷ []) ≡ false → i ≡ x → ⊥
memb-not i x e = eqb-false i x (sym (or-false (eqb i x)) ∙ e)

-- so what holds of a list and itself, and of two parts and the same turned, holds of the subset and its parts in mask order
module _ (P : List Subset → List Subset → Type 0) (same : (l : List Subset) → P l l) (turned : (a b : Subset) → (a.id ≡ b.id → ⊥) → P (a ∷ b ∷ []) (b ∷ a ∷ [])) where
  one_of_two : (s t : System) (a : Subset) → (t.id ≡ s.id → ⊥) → (a.id ≡ s.id) ⊎ (a.id ≡ t.id) → P (a ∷ []) (ordered (s ∷ t ∷ []) (a ∷ []))
  unfolding ordered of_id
  one_of_two s t a d (inl e) = rw (eq-eqb s.id a.id (sym e), ne_eqb t.id a.id (λ q. d (q ∙ e))) (same (a ∷ []))
  one_of_two s t a d (inr e) = rw (ne_eqb s.id a.id (λ q. d (sym (q ∙ e))), eq-eqb t.id a.id (sym e)) (same (a ∷ []))

  two-of-two : (s t : System) (a b : Subset) → (t.id ≡ s.id → ⊥) → (b.id ≡ a.id → ⊥) → (a.id ≡ s.id) ⊎ (a.id ≡ t.id) → (b.id ≡ s.id) ⊎ (b.id ≡ t.id)
      → P (a ∷ b ∷ []) (ordered (s ∷ t ∷ []) (a ∷ b ∷ []))
  unfolding ordered of_id
  two-of-two s t a b d n (inl e) (inl f) = absurd (n (f ∙ sym e))
  two-of-two s t a b d n (inl e) (inr f) =
      rw (eq-eqb s.id a.id (sym e), ne_eqb t.id a.id (λ q. d (q ∙ e)), eq-eqb t.id b.id (sym f)) (same (a ∷ b ∷ []))
  two-of-two s t a b d n (inr e) (inl f) =
      rw (ne_eqb s.id a.id (λ q. d (sym (q ∙ e))), eq-eqb s.id b.id (sym f), eq-eqb t.id a.id (sym e)) (turned a b (λ q. n (sym q)))
  two-of-two s t a b d n (inr e) (inr f) = absurd (n (f ∙ sym e))

  pub by_order : (ss : List System) (subs : List Subset) → Masked ss → SubsetsOk ss subs → P subs (ordered ss subs)
  unfolding ordered of_id
  by_order [] [] k o = let z : ⊥ = omega (arith, o.some) in absurd z
  by_order [] (a ∷ subs) k o = let z : ⊥ = omega (arith, o.few) in absurd z
  by_order (s ∷ []) [] k o = let z : ⊥ = omega (arith, o.some) in absurd z
  by_order (s ∷ []) (a ∷ []) k o = rw (eq-eqb s.id a.id (sym (memb-one a.id s.id o.chosen_ids.0))) (same (a ∷ []))
  by_order (s ∷ []) (a ∷ b ∷ subs) k o = let z : ⊥ = omega (arith, o.few) in absurd z
  by_order (s ∷ t ∷ []) [] k o = let z : ⊥ = omega (arith, o.some) in absurd z
  by_order (s ∷ t ∷ []) (a ∷ []) k o = one_of_two s t a (memb-not t.id s.id k.ids.2.1) (memb-two a.id s.id t.id o.chosen_ids.0)
  by_order (s ∷ t ∷ []) (a ∷ b ∷ []) k o = two-of-two s t a b
      (memb-not t.id s.id k.ids.2.1) (memb-not b.id a.id o.chosen_ids.2.1)
      (memb-two a.id s.id t.id o.chosen_ids.0) (memb-two b.id s.id t.id o.chosen_ids.2.0)
  by_order (s ∷ t ∷ []) (a ∷ b ∷ c ∷ subs) k o = let z : ⊥ = omega (arith, o.few) in absurd z
  by_order (s ∷ t ∷ u ∷ ss) subs k o = let z : ⊥ = omega (arith, k.few) in absurd z

-- ---- it is valid
part-ok : {A : Type 0} (P : A → Type 0) (f : A → A) (flag : Bool) (x : Option A) → ((a : A) → P a → P (f a)) → IfFlag flag P x → IfFlag flag P (part f x)
part-ok P f flag x g o = if-flag P (λ b y. IfFlag b P (part f y)) g tt flag x o

used-same : (lent : Option Mask) (h : Header) (own : Option Mask) → used lent (canonical_header h) (part canonical_mask own) ≡ used lent h own
unfolding used
used-same lent h (some own) = refl
used-same none h none = refl
used-same (some m) h none = refl

subsets-ok : (ss : List System) → Masked ss → (subs : List Subset) → SubsetsOk ss subs → SubsetsOk ss (ordered ss subs)
subsets-ok ss k subs o = by_order (λ l r. SubsetsOk ss l → SubsetsOk ss r) (λ l v. v)
    (λ a b n v. record {
      some = v.some;
      few = v.few;
      chosen_ids = (v.chosen_ids.2.0, refl, (v.chosen_ids.0, or-false (eqb a.id b.id) ∙ ne_eqb a.id b.id n, tt));
      each = (v.each.1.0, (v.each.0, tt));
    })
    ss subs k o o

-- ---- the records: of the subset they ask which part has an ID
of-ordered : (ss : List System) (subs : List Subset) → Masked ss → SubsetsOk ss subs → (id : ℕ) → of_id (ordered ss subs) id ≡ of_id subs id
unfolding of_id
of-ordered = by_order (λ l r. (id : ℕ) → of_id r id ≡ of_id l id) (λ l id. refl)
    (λ a b n id. on_bool (eqb id a.id)
    (λ q. rw (q, ne_eqb id b.id (λ e. n (sym (eqb-true id a.id q) ∙ e))))
    (λ q. rw q))

interval-same : (ss : List System) (sub : Option (Block (List Subset))) → interval_of (part (canonical_subset ss) sub) ≡ interval_of sub
interval-same ss none = refl
interval-same ss (some b) = refl

subset-same : (ss : List System) → Masked ss → (flag : Bool) (sub : Option (Block (List Subset))) → IfFlag flag (BlockOk (SubsetsOk ss)) sub
    → (id : ℕ) → subset_of (part (canonical_subset ss) sub) id ≡ subset_of sub id
subset-same ss k =
    if-flag (BlockOk (SubsetsOk ss)) (λ _ x. (id : ℕ) → subset_of (part (canonical_subset ss) x) id ≡ subset_of x id) (λ b o. of-ordered ss b.body k o.body) (λ id. refl)

module _ (all : List System) (m : Message) (e : (id : ℕ) → subset_of (part (canonical_subset all) m.subset) id ≡ subset_of m.subset id) where
  header-same : header_record (canonical all m) ≡ header_record m
  unfolding header_record
  header-same = rw (interval-same all m.subset)

  system-same : (p : ℕ) (s : System) → system_record (canonical all m) p s ≡ system_record m p s
  unfolding system_record
  system-same p s = rw (e s.id)

  cells_same : (p : ℕ) (s : System) (i g : ℕ) → cell_records (canonical all m) p s i g ≡ cell_records m p s i g
  unfolding cell_records cell_record
  cells_same p s i g = refl

  satellite-same : (p : ℕ) (s : System) (i n : ℕ) → satellite_record (canonical all m) p s i n ≡ satellite_record m p s i n
  unfolding satellite_record
  satellite-same p s i n = rw (e s.id)

  satellites-same : (p : ℕ) (s : System) (i : ℕ) → satellite_records (canonical all m) p s i ≡ satellite_records m p s i
  unfolding satellite_records
  satellites-same p s i = ap (λ (l : List ℕ). cond (get_or s.satellites i false) l [])
      (ap₂ ◌++◌ (satellite-same p s i (count_before s.satellites i)) (ap (build 16) (fun_ext (cells_same p s i))))

  systems-same : (p : ℕ) (ss : List System) → system_records (canonical all m) p ss ≡ system_records m p ss
  unfolding system_records
  systems-same p [] = refl
  systems-same p (s ∷ ss) = ap₂ ◌++◌ (system-same p s) (ap₂ ◌++◌ (ap (build 40) (fun_ext (satellites-same p s))) (systems-same (suc p) ss))

-- ---- the length: reserved bits are as many, and the subset's parts are the same
length-mask : (own : Option Mask) → length (if_there mask_bits (part canonical_mask own)) ≡ length (if_there mask_bits own)
unfolding mask_bits
length-mask none = refl
length-mask (some k) = simp (length-append, length-bits)

length-subsets : (ss : List System) (subs : List Subset) → Masked ss → SubsetsOk ss subs → length (subsets_bits (ordered ss subs)) ≡ length (subsets_bits subs)
unfolding subsets_bits each
length-subsets = by_order (λ l r. length (subsets_bits r) ≡ length (subsets_bits l)) (λ l. refl)
    (λ a b n. simp length-append (omega arith))

length-subset : (ss : List System) → Masked ss → (flag : Bool) (sub : Option (Block (List Subset))) → IfFlag flag (BlockOk (SubsetsOk ss)) sub
    → length (if_there (block_bits subsets_bits) (part (canonical_subset ss) sub)) ≡ length (if_there (block_bits subsets_bits) sub)
unfolding block_bits
length-subset ss k =
    if-flag (BlockOk (SubsetsOk ss)) (λ _ x. length (if_there (block_bits subsets_bits) (part (canonical_subset ss) x)) ≡ length (if_there (block_bits subsets_bits) x))
    (λ b o. simp (length-append, length-bits, length-subsets ss b.body k o.body) (omega arith)) refl

-- ---- the order: what is put in mask order has its IDs in that order, and putting it so again changes nothing
-- an ID is among those of the subset if a part has it
ids-found : (subs : List Subset) (i : ℕ) (rest : List Subset)
    → map (λ s. s.id) (or_none (of_id subs i) rest) ≡ cond (memb i (map (λ s. s.id) subs)) (i ∷ map (λ s. s.id) rest) (map (λ s. s.id) rest)
unfolding of_id
ids-found [] i rest = refl
ids-found (x ∷ subs) i rest = on_bool (eqb i x.id)
    (λ q. rw q (ap (λ (j : ℕ). j ∷ map (λ s. s.id) rest) (sym (eqb-true i x.id q))))
    (λ q. rw q (ids-found subs i rest))

pub ids-ordered : (ss : List System) (subs : List Subset) → map (λ s. s.id) (ordered ss subs) ≡ among (ids ss) (map (λ s. s.id) subs)
unfolding ordered among
ids-ordered [] subs = refl
ids-ordered (s ∷ ss) subs = ids-found subs s.id (ordered ss subs)
    ∙ ap (λ (l : List ℕ). cond (memb s.id (map (λ s. s.id) subs)) (s.id ∷ l) l) (ids-ordered ss subs)

ordered_same : (ss : List System) (xs ys : List Subset) → ((id : ℕ) → of_id xs id ≡ of_id ys id) → ordered ss xs ≡ ordered ss ys
unfolding ordered
ordered_same [] xs ys e = refl
ordered_same (s ∷ ss) xs ys e = ap₂ or_none (e s.id) (ordered_same ss xs ys e)

among_none : (l : List ℕ) → among l [] ≡ []
unfolding among
among_none [] = refl
among_none (i ∷ l) = among_none l

subset-order : (ss : List System) → Masked ss → (flag : Bool) (sub : Option (Block (List Subset))) → IfFlag flag (BlockOk (SubsetsOk ss)) sub
    → subset_ids (part (canonical_subset ss) sub) ≡ among (ids ss) (subset_ids (part (canonical_subset ss) sub))
subset-order ss k =
    if-flag (BlockOk (SubsetsOk ss)) (λ _ x. subset_ids (part (canonical_subset ss) x) ≡ among (ids ss) (subset_ids (part (canonical_subset ss) x)))
    (λ b o.
    let l = ordered ss b.body in
    ap (map (λ s. s.id)) (sym (ordered_same ss l b.body (of-ordered ss b.body k o.body))) ∙ ids-ordered ss l)
    (sym (among_none (ids ss)))

-- ---- the message
module _ (lent : Option Mask) (ss : List System) (m : Message) (o : Ok lent ss m) (k : Masked ss) where
  pub canonical-ok : Ok lent ss (canonical ss m)
  canonical-ok = record {
    header = record { time = o.header.time; flags = o.header.flags; reserved = omega arith; mask_id = o.header.mask_id; iod_set = o.header.iod_set };
    mask = part-ok MaskOk canonical_mask (has_mask m.header) m.mask (λ a v. record { some = v.some; few = v.few; ids = v.ids; systems = v.systems; reserved = omega arith }) o.mask;
    used = used-same lent m.header m.mask ∙ o.used;
    orbits = o.orbits;
    clocks = o.clocks;
    subset = part-ok (BlockOk (SubsetsOk ss)) (canonical_subset ss) (has_subset m.header) m.subset (λ b v. record { interval = v.interval; body = subsets-ok ss k b.body v.body }) o.subset;
    codes = o.codes;
    phases = o.phases;
  }

  pub canonical-records : records ss (canonical ss m) ≡ records ss m
  unfolding records
  canonical-records = let e = subset-same ss k (has_subset m.header) m.subset o.subset in ap₂ ◌++◌ (header-same ss m e) (systems-same ss m e 0 ss)

  pub canonical-length : length (encode ss (canonical ss m)) ≡ length (encode ss m)
  unfolding encode
  canonical-length = simp (length-append, length-mask m.mask, length-subset ss k (has_subset m.header) m.subset o.subset)

  pub canonical-order : subset_ids (canonical ss m).subset ≡ among (ids ss) (subset_ids (canonical ss m).subset)
  canonical-order = subset-order ss k (has_subset m.header) m.subset o.subset
