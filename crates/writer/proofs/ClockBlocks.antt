-- The clock blocks, subset and full, are rendered as their bits.
-- A system's record tells its multipliers, and so whether it is in the subset; GNSS IDs differ, so the part that is found by an ID is the system's own.
use Prim.Native.Nat.{ℕ, ◌+◌, ◌^◌, ◌<◌}
use native.Mathlib.Nat.{add-zero}
use native.Mathlib.Omega.{arith}
use mathlib.Core.Bool.{Bool, true, false}
use mathlib.Core.List.{List, [], ◌∷◌, ◌++◌, append_assoc}
use mathlib.Core.Option.{Option, none, some}
use mathlib.Core.Path.{◌≡◌, refl, sym, ap, ap₂, ◌∙◌}
use lib.Dec.{eqb}
use lib.ListN.{length, get_or}
use borrow.Author.Tests.{ne_eqb}
use Rattle.bits.specs.Bits.{num, bits}
use Rattle.mt1.specs.Message.{System, Clocks, Subset, Block, Message, count}
use Rattle.mt1.specs.Mt1.{known, satellites_of}
use Rattle.mt1.specs.Encode.{each, if_there, clocks_bits, subset_bits, subsets_bits}
use Rattle.mt1.specs.Valid.{SystemOk, Row, ClocksOk, SubsetOk, SubsetsOk}
use Rattle.mt1.specs.Records.{part, at, octet_or, multiplier_of, of_id, subset_of, system_record}
use Rattle.mt1.proofs.Elements.{satellites-of, part-found}
use Rattle.mt1.proofs.Blocks.{Masked}
use Rattle.mt1.proofs.Counts.{records_of_system}
use Rattle.writer.specs.declared.part.Part.TheVariants as the-part
use Rattle.writer.specs.Rendering.{is_kind, gathered, multiplier_part, in_subset, subset_part, both, clocks_part, subsets_part}
use Rattle.writer.proofs.Canonical.{or_none, ordered}
use Rattle.writer.proofs.Cutting.{first, second}
use Rattle.writer.proofs.SatelliteParts.{clock-part, chosen-part, subset-clock-part}
use Rattle.writer.proofs.BySystem.{by-system, bits_over, total, bits-by-system, both-same}

-- ---- the clock subset
-- one or none
abbrev there : Option Subset → ℕ
there none = 0
there (some x) = 1

total-there : (ss : List System) (subs : List Subset) → total (λ s. there (of_id subs s.id)) ss ≡ length (ordered ss subs)
unfolding ordered
total-there [] subs = refl
total-there (s ∷ ss) subs = step (of_id subs s.id) (ordered ss subs) (total-there ss subs)
  where
    step : (x : Option Subset) (l : List Subset) {n : ℕ} → n ≡ length l → there x + n ≡ length (or_none x l)
    step none l e = omega (arith, e)
    step (some x) l e = omega (arith, e)

each-there : (ss : List System) (subs : List Subset) → bits_over (λ p s. if_there subset_bits (of_id subs s.id)) ss ≡ each subset_bits (ordered ss subs)
unfolding ordered each
each-there [] subs = refl
each-there (s ∷ ss) subs = step (of_id subs s.id) (ordered ss subs) (each-there ss subs)
  where
    step : (x : Option Subset) (l : List Subset) {bs : List Bool} → bs ≡ each subset_bits l → if_there subset_bits x ++ bs ≡ each subset_bits (or_none x l)
    step none l e = e
    step (some x) l e = ap (λ (r : List Bool). subset_bits x ++ r) e

-- whether a system is in it, of its records
in-part : (l : List ℕ) → is_kind 2 l ≡ true → eqb (get_or l 6 0) 255 ≡ false
    → (in_subset l ≡ true) × (subset_part l ≡ bits 4 (get_or l 2 0) ++ (bits 2 (get_or l 6 0) ++ (gathered the-part.Chosen l ++ gathered the-part.SubsetClock l)))
unfolding subset_part
in-part l e f = (rw (e, f), rw (e, f))

out-part : (l : List ℕ) → is_kind 2 l ≡ true → eqb (get_or l 6 0) 255 ≡ true → (in_subset l ≡ false) × (subset_part l ≡ [])
unfolding subset_part
out-part l e f = (rw (e, f), rw (e, f))

module _ (m : Message) (ss : List System) (k : Masked ss) (b : Block (List Subset)) (q : m.subset ≡ some b) (o : SubsetsOk ss b.body) where
  in-subset : (p : ℕ) (s : System) → at ss p ≡ some s → SystemOk s
      → (num (in_subset (records_of_system m p s)) ≡ there (of_id b.body s.id)) × (subset_part (records_of_system m p s) ≡ if_there subset_bits (of_id b.body s.id))
  unfolding system_record subset_bits
  in-subset p s e ok = go (of_id b.body s.id) refl
    where
      l : List ℕ
      l = records_of_system m p s

      is : (r : Option Subset) → of_id b.body s.id ≡ r → subset_of m.subset s.id ≡ r
      is r f = ap (λ (x : Option (Block (List Subset))). subset_of x s.id) q ∙ f

      octet : (r : Option Subset) → of_id b.body s.id ≡ r → get_or l 6 0 ≡ octet_or (part (λ x. x.multiplier) r)
      octet r f = ap (λ (x : Option Subset). octet_or (part (λ y. y.multiplier) x)) (is r f)

      go : (r : Option Subset) → of_id b.body s.id ≡ r → (num (in_subset l) ≡ there r) × (subset_part l ≡ if_there subset_bits r)
      go none f = let (x, y) = out-part l refl (ap (λ (v : ℕ). eqb v 255) (octet none f)) in (ap num x, y)
      go (some x) f =
          let (i, w) = part-found (SubsetOk ss) b.body s.id x o.each f in
          let n : length x.chosen ≡ count s.satellites = w.chosen ∙ ap (λ (j : ℕ). count (satellites_of ss j)) i ∙ ap count (satellites-of known [] ss p e k.ids) in
          let (u, v) = in-part l refl (ne_eqb (get_or l 6 0) 255 (λ h. let z : ⊥ = omega (arith, octet (some x) f, w.multiplier, h) in z)) in (
            ap num u,
            v ∙ ap₂ (λ (j y : ℕ). bits 4 j ++ (bits 2 y ++ (gathered the-part.Chosen l ++ gathered the-part.SubsetClock l))) (sym i) (octet (some x) f)
                ∙ ap₂ (λ (a c : List Bool). bits 4 x.id ++ (bits 2 x.multiplier ++ (a ++ c)))
                (chosen-part m p s ok x (is (some x) f) n w.clocks) (subset-clock-part m p s ok x (is (some x) f) n w.clocks),
          )

  pub subsets-part : subsets_part (first m ss) (second m ss) ≡ subsets_bits (ordered ss b.body)
  unfolding subsets_bits subset_part
  subsets-part =
      ap₂ (λ (n : ℕ) (l : List Bool). bits 4 n ++ l)
      (by-system ◌+◌ 0 add-zero m (λ l. num (in_subset l)) (λ p s. there (of_id b.body s.id)) ss k refl (λ p s e ok. (in-subset p s e ok).0) ∙ total-there ss b.body)
      (bits-by-system m ss k subset_part (λ p s. if_there subset_bits (of_id b.body s.id)) refl (λ p s e ok. (in-subset p s e ok).1) ∙ each-there ss b.body)

-- ---- the full clocks: multipliers, then a row for each system
each-multiplier : (ss : List System) (xs : List ℕ) → length xs ≡ length ss → bits_over (λ p s. bits 2 (octet_or (at xs p))) ss ≡ each (bits 2) xs
unfolding at each
each-multiplier [] [] e = refl
each-multiplier [] (x ∷ xs) e = absurd (let z : ⊥ = omega arith in z)
each-multiplier (s ∷ ss) [] e = absurd (let z : ⊥ = omega arith in z)
each-multiplier (s ∷ ss) (x ∷ xs) e = ap (λ (l : List Bool). bits 2 x ++ l) (each-multiplier ss xs (omega arith))

module _ (m : Message) (ss : List System) (k : Masked ss) (b : Block Clocks) (q : m.clocks ≡ some b) (o : ClocksOk ss b.body) where
  multiplier-part : (p : ℕ) (s : System) → multiplier_part (records_of_system m p s) ≡ bits 2 (octet_or (at b.body.multipliers p))
  unfolding multiplier_part system_record
  multiplier-part p s = ap (λ (c : Option (Block Clocks)). bits 2 (octet_or (multiplier_of c p))) q

  pub clocks-part : clocks_part (first m ss) (second m ss) ≡ clocks_bits b.body
  unfolding clocks_bits multiplier_part
  clocks-part =
      let ms : List ℕ = b.body.multipliers in
      sym (append_assoc (multiplier_part (first m ss)) (multiplier_part (second m ss)) (both the-part.Clock (first m ss) (second m ss)))
      ∙ ap₂ (λ (x y : List Bool). x ++ y)
      (bits-by-system m ss k multiplier_part (λ p s. bits 2 (octet_or (at ms p))) refl (λ p s e ok. multiplier-part p s) ∙ each-multiplier ss ms o.multipliers.0)
      (both-same m ss k the-part.Clock (λ s row. Row (count s.satellites) (λ v. v < 2 ^ 13) row) (each (bits 13)) b.body.clocks o.clocks (λ p s ok r. clock-part m p s ok b q r))
