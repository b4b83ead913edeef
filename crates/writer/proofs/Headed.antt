-- The header, the mask and a block's flag and interval are rendered as their bits.
-- The header's record holds the flags and intervals, and a system's record both its masks, octet by octet; the cell mask is what its cells' records tell.
use Prim.Native.Nat.{ℕ, ◌+◌, ◌≤◌}
use native.Mathlib.Nat.{add-zero}
use native.Mathlib.Omega.{arith}
use mathlib.Core.Bool.{Bool, true, false, cond}
use mathlib.Core.List.{List, [], ◌∷◌, ◌++◌, append_assoc}
use mathlib.Core.Option.{Option, some, some-injective}
use mathlib.Core.Path.{◌≡◌, refl, sym, ap, ap₂, ◌∙◌}
use lib.Dec.{eqb}
use lib.ListN.{length, get_or, take, drop, length-append}
use lib.Seq.{length-take-le, take_all, take_at, drop_at}
use borrow.Author.Tests.{eqb-true}
use Rattle.lists.proofs.Tests.{on_bool}
use Rattle.bits.specs.Bits.{num, bits, value, bits_of, number_at}
use Rattle.bits.proofs.Values.{bits-value}
use Rattle.bits.proofs.Octets.{length-bits_of}
use Rattle.bits.proofs.Runs.{number_fits}
use Rattle.mt1.specs.Message.{Header, System, Mask, Block, Message, has_mask}
use Rattle.mt1.specs.Mt1.{used}
use Rattle.mt1.specs.Encode.{if_there, header_bits, system_bits, mask_bits, block_bits}
use Rattle.mt1.specs.Valid.{HeaderOk, SystemOk, MaskOk, BlockOk, IfFlag}
use Rattle.mt1.specs.Records.{part, interval_of, header_record, system_record, satellite_records, records, build}
use Rattle.mt1.proofs.Several.{if-flag}
use Rattle.mt1.proofs.Counts.{length-system, records_of_system}
use Rattle.mt1.proofs.Blocks.{Masked}
use Rattle.writer.specs.declared.part.Part.TheVariants as the-part
use Rattle.writer.specs.Writer.{header_of}
use Rattle.writer.specs.Rendering.{is_kind, gathered, system_part, header_part, mask_part, block_part}
use Rattle.writer.proofs.Canonical.{canonical_header, canonical_mask}
use Rattle.writer.proofs.FieldOctets.{two-pair}
use Rattle.writer.proofs.Cutting.{first, second}
use Rattle.writer.proofs.CellParts.{system-bits, cell-part}
use Rattle.writer.proofs.BySystem.{by-system, systems-each, total-one, bits-by-system}

-- ---- the header
module _ (m : Message) (ss : List System) (h : HeaderOk m.header) where
  pub header_is : header_of (records ss m) ≡ canonical_header m.header
  unfolding header_of records header_record
  header_is =
      ap₂ (λ (t : ℕ) (fs : List Bool). record { time = t; flags = fs; reserved = 0; mask_id = m.header.mask_id; iod_set = m.header.iod_set })
      (two-pair m.header.time []) (bits-value 6 m.header.flags h.flags)

  pub header-part : header_part (records ss m) ≡ header_bits (canonical_header m.header)
  unfolding header_part header_bits header_of
  header-part = ap header_bits header_is

  -- a block: its flag and its interval
  pub block-part : {A : Type 0} (P : A → Type 0) (k : ℕ) (b : Option (Block A)) (enc : A → List Bool) (bs : List Bool) → get_or (records ss m) (5 + k) 0 ≡ interval_of b
      → IfFlag (get_or m.header.flags k false) (BlockOk P) b → ((x : Block A) → b ≡ some x → P x.body → bs ≡ enc x.body)
      → block_part (records ss m) k bs ≡ if_there (block_bits enc) b
  unfolding block_part block_bits
  block-part {A} P k b enc bs e o f = ap₂ (λ (x : Header) (i : ℕ). cond (get_or x.flags k false) (bits 4 i ++ bs) []) header_is e
      ∙ if-flag (BlockOk P) (λ flag y. ((x : Block A) → y ≡ some x → P x.body → bs ≡ enc x.body) → cond flag (bits 4 (interval_of y) ++ bs) [] ≡ if_there (block_bits enc) y)
      (λ x v g. ap (λ (l : List Bool). bits 4 x.interval ++ l) (g x refl v.body)) (λ g. refl) (get_or m.header.flags k false) b o f

-- ---- the mask
module _ (m : Message) (p : ℕ) (s : System) (ok : SystemOk s) where
  -- the 56 bits of both masks, at bit 56 of the system's record
  masks-are : bits 56 (number_at (bits_of (records_of_system m p s)) 56 56) ≡ s.satellites ++ s.signals
  masks-are =
      let rest : List ℕ = build 40 (satellite_records m p s) in
      let l : List ℕ = records_of_system m p s in
      let front : List ℕ = take 7 (system_record m p s) in
      let masks : List Bool = s.satellites ++ s.signals in
      let behind : List Bool = bits_of (0 ∷ 0 ∷ rest) in
      let room : 56 + 56 ≤ length (bits_of l) = omega (arith, length-bits_of l, length-append (system_record m p s) rest, length-system m p s ok) in
      let n : length masks ≡ 56 = omega (arith, length-append s.satellites s.signals, ok.satellites, ok.signals) in
      let seven : length front ≡ 7 = length-take-le 7 (system_record m p s) (omega (arith, length-system m p s ok)) in
      ap (bits 56) (number_fits (bits_of l) 56 56 room (omega arith) ∙ ap value
      (ap (λ (b : List Bool). take 56 (drop 56 b)) (system-bits m p s ok rest)
      ∙ ap (take 56) (drop_at (bits_of front) (s.satellites ++ (s.signals ++ behind)) 56 (omega (arith, length-bits_of front, seven)) ∙ sym (append_assoc s.satellites s.signals behind))
      ∙ take_at masks behind 56 n))
      ∙ bits-value 56 masks n

  cells_are : cond (eqb s.cell_flag 1) (gathered the-part.Cell (records_of_system m p s)) [] ≡ s.cells
  cells_are = on_bool (eqb s.cell_flag 1)
      (λ e. ap (λ (b : Bool). cond b (gathered the-part.Cell (records_of_system m p s)) []) e ∙ cell-part m p s ok (eqb-true s.cell_flag 1 e))
      (λ e. ap (λ (b : Bool). cond b (gathered the-part.Cell (records_of_system m p s)) []) e ∙ take_all 0 s.cells (omega (arith, rw e at ok.cells)))

  system-part : system_part (records_of_system m p s) ≡ system_bits s
  unfolding system_part system_bits system_record
  system-part =
      ap₂ (λ (x y : List Bool). bits 4 s.id ++ (x ++ (bits 1 s.cell_flag ++ (y ++ bits 3 s.navigation)))) masks-are cells_are
      ∙ ap (λ (l : List Bool). bits 4 s.id ++ l) (append_assoc s.satellites s.signals (bits 1 s.cell_flag ++ (s.cells ++ bits 3 s.navigation)))

  is-system : is_kind 2 (records_of_system m p s) ≡ true
  unfolding system_record
  is-system = refl

module _ (m : Message) (ss : List System) (k : Masked ss) where
  systems-part : bits 4 (num (is_kind 2 (first m ss)) + num (is_kind 2 (second m ss))) ++ (system_part (first m ss) ++ (system_part (second m ss) ++ bits 6 0))
      ≡ mask_bits (record { systems = ss; reserved = 0 })
  unfolding mask_bits system_part
  systems-part =
      ap₂ (λ (n : ℕ) (l : List Bool). bits 4 n ++ l)
      (by-system ◌+◌ 0 add-zero m (λ l. num (is_kind 2 l)) (λ p s. 1) ss k refl (λ p s e ok. ap num (is-system m p s ok)) ∙ total-one ss)
      (sym (append_assoc (system_part (first m ss)) (system_part (second m ss)) (bits 6 0))
      ∙ ap (λ (l : List Bool). l ++ bits 6 0) (bits-by-system m ss k system_part (λ p s. system_bits s) refl (λ p s e ok. system-part m p s ok) ∙ systems-each system_bits ss))

  pub mask-part : (lent : Option Mask) → HeaderOk m.header → IfFlag (has_mask m.header) MaskOk m.mask → used lent m.header m.mask ≡ some ss
      → mask_part (records ss m) (first m ss) (second m ss) ≡ if_there mask_bits (part canonical_mask m.mask)
  unfolding mask_part used
  mask-part lent h o u =
      ap (λ (x : Header). cond (has_mask x) bs []) (header_is m ss h)
      ∙ if-flag MaskOk (λ flag b. used lent m.header b ≡ some ss → cond flag bs [] ≡ if_there mask_bits (part canonical_mask b))
      (λ own v w. systems-part ∙ ap (λ (l : List System). mask_bits (record { systems = l; reserved = 0 })) (sym (some-injective own.systems ss w)))
      (λ w. refl) (has_mask m.header) m.mask o u
    where
      bs : List Bool
      bs = bits 4 (num (is_kind 2 (first m ss)) + num (is_kind 2 (second m ss))) ++ (system_part (first m ss) ++ (system_part (second m ss) ++ bits 6 0))
