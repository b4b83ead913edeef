-- What the header record holds, and what a part takes of the record at the front of a list.
-- A flag is a bit of octet 1; a part takes nothing of a record of another kind.
use Prim.Native.Nat.{ℕ, zero, suc, ◌+◌, ◌/◌, ◌%◌, ◌-◌, ◌^◌, ◌≤◌}
use native.Mathlib.Omega.{arith}
use mathlib.Core.Bool.{Bool, true, false, cond}
use mathlib.Core.List.{List, [], ◌∷◌, ◌++◌}
use mathlib.Core.Path.{◌≡◌, refl, sym, ap, ◌∙◌}
use lib.ListN.{length, get_or, drop, get_or-eq_default}
use borrow.Author.Tests.{eqb-true, eq-eqb, ne_eqb}
use Rattle.bits.specs.Bits.{num, odd, bits, bits_of}
use Rattle.bits.proofs.Values.{bits_at}
use Rattle.bits.proofs.Octets.{length-bits_of, bits_of-at}
use Rattle.writer.specs.declared.append.Body.{Body}
use Rattle.writer.specs.declared.part.Part.{Part}
use Rattle.writer.specs.declared.part.Part.TheVariants.{Orbit, Clock, Chosen, SubsetClock, Code, Phase, Cell}
use Rattle.writer.specs.Writer.{pair, header_of}
use Rattle.writer.specs.Rendering.{Appends, is_kind, is_chosen, row, signals_of, kind_of, orbit_fields, part_of}
use Rattle.writer.proofs.Appending.{appends-is}

no_flag : (k : ℕ) → get_or {A = Bool} (false ∷ false ∷ false ∷ false ∷ false ∷ false ∷ []) k false ≡ false
no_flag zero = refl
no_flag (suc zero) = refl
no_flag (suc (suc zero)) = refl
no_flag (suc (suc (suc zero))) = refl
no_flag (suc (suc (suc (suc zero)))) = refl
no_flag (suc (suc (suc (suc (suc zero))))) = refl
no_flag (suc (suc (suc (suc (suc (suc k)))))) = refl

-- a flag of the header record; of none, and of one that is cut off, each is 0
pub flag_at : (l : List ℕ) (k : ℕ) → k ≤ 5 → get_or (bits_of l) (10 + k) false ≡ get_or (header_of l).flags k false
unfolding header_of bits_of
flag_at [] k h = sym (no_flag k)
flag_at (x ∷ []) k h = get_or-eq_default (bits_of (x ∷ [])) false (omega (arith, length-bits_of (x ∷ []))) ∙ sym (no_flag k)
flag_at (x ∷ y ∷ l) k h =
    let e : 7 - (2 + k) ≡ 6 - 1 - k = omega arith in
    bits_of-at (x ∷ y ∷ l) 1 (omega arith) (10 + k) (2 + k) (omega arith) (omega arith)
    ∙ ap (λ (m : ℕ). odd (y / 2 ^ m)) e
    ∙ sym (bits_at 6 y k (omega arith))

-- whole records of which the first has a kind are one at least
pub kind-long : (k : ℕ) (l : List ℕ) → is_kind (suc k) l ≡ true → length l % 16 ≡ 0 → 16 ≤ length l
kind-long k [] e w = omega (arith, eqb-true 0 (suc k) e)
kind-long k (x ∷ l) e w = omega (arith, w)

-- ---- a part, of the record at the front of l
module _ (s l : List ℕ) where
  pub part_none : (part : Part) → (get_or l 0 0 ≡ kind_of part → ⊥) → part_of part s l ≡ []
  unfolding part_of
  part_none Orbit n = rw (ne_eqb _ 3 n)
  part_none Clock n = rw (ne_eqb _ 3 n)
  part_none Chosen n = rw (ne_eqb _ 3 n)
  part_none SubsetClock n = rw (ne_eqb _ 3 n)
  part_none Code n = rw (ne_eqb _ 4 n)
  part_none Phase n = rw (ne_eqb _ 4 n)
  part_none Cell n = rw (ne_eqb _ 3 n)

  -- what is taken of a record of the part's kind
  abbrev pub taken : Part → List Bool
  taken Orbit = orbit_fields s l
  taken Clock = bits 13 (pair l 12)
  taken Chosen = bits 1 (num (is_chosen l))
  taken SubsetClock = cond (is_chosen l) (bits 13 (pair l 14)) []
  taken Code = bits 11 (pair l 4)
  taken Phase = bits 11 (pair l 6) ++ bits 2 (get_or l 8 0)
  taken Cell = row (signals_of s) 0 (drop 16 l)

  part_taken : (part : Part) → get_or l 0 0 ≡ kind_of part → part_of part s l ≡ taken part
  unfolding part_of
  part_taken Orbit e = rw (eq-eqb _ 3 e)
  part_taken Clock e = rw (eq-eqb _ 3 e)
  part_taken Chosen e = rw (eq-eqb _ 3 e)
  part_taken SubsetClock e = rw (eq-eqb _ 3 e)
  part_taken Code e = rw (eq-eqb _ 4 e)
  part_taken Phase e = rw (eq-eqb _ 4 e)
  part_taken Cell e = rw (eq-eqb _ 3 e)

  pub appends-part : {a b : Body} {part : Part} (p : Part) → part ≡ p → get_or l 0 0 ≡ kind_of part → Appends a b (taken p) → Appends a b (part_of part s l)
  appends-part p e k q = appends-is (sym (part_taken _ k ∙ ap taken e)) q
