-- Where the second system's records begin: at the record that is found, or behind the last one.
-- The records before it are no system's, so they are passed over one by one.
use Prim.Native.Nat.{ℕ, zero, suc, ◌+◌, ◌*◌, ◌-◌, ◌/◌, ◌%◌, ◌≤◌, ◌<◌}
use native.Mathlib.Nat.{add-zero}
use native.Mathlib.Omega.{arith}
use mathlib.Core.Bool.{Bool, true, false}
use mathlib.Core.List.{List}
use mathlib.Core.Path.{◌≡◌, refl, sym, ap, ◌∙◌}
use borrow.Author.Tests.{eqb-true, eqb-false}
use lib.Dec.{eqb}
use lib.ListN.{length, get_or, drop}
use lib.Seq.{get_or-drop, drop-drop}
use Rattle.std.specs.Prelude.{Option, Some, None, ◌==◌, slice_index}
use Rattle.std.specs.List.{find, range_with_len}
use Rattle.lists.proofs.Tests.{on_bool}
use Rattle.writer.specs.Rendering.{is_kind, until_system, second_at}

-- ---- one record
pub until_stop : (m : ℕ) (l : List ℕ) → is_kind 2 l ≡ true → until_system m l ≡ 0
unfolding until_system
until_stop zero l e = refl
until_stop (suc m) l e = rw e

pub until_go : (m : ℕ) (l : List ℕ) → is_kind 2 l ≡ false → until_system (suc m) l ≡ 16 + until_system m (drop 16 l)
unfolding until_system
until_go m l e = rw e

-- whether the kth record is a system's
abbrev system_at : List ℕ → ℕ → Bool
system_at l k = slice_index l (16 * k) == 2

-- the first of n records, from the ath on, that is a system's
abbrev found : List ℕ → ℕ → ℕ → Option ℕ
found l a n = find (system_at l) (range_with_len a n)

-- no number is none
none-some : {a : ℕ} → ◌≡◌ {A = Option ℕ} (Some a) None → ⊥
none-some e = let z : ◌≡◌ {A = ℕ} 0 1 = cc in omega arith

-- ---- n records from the ath on
module _ (l : List ℕ) where
  here : (a : ℕ) → is_kind 2 (drop (16 * a) l) ≡ system_at l a
  here a = ap (λ (x : ℕ). eqb x 2) (get_or-drop (16 * a) l 0 0 ∙ ap (λ (i : ℕ). get_or l i 0) (add-zero (16 * a)))

  next : (a : ℕ) → drop 16 (drop (16 * a) l) ≡ drop (16 * (a + 1)) l
  next a = let e : 16 * a + 16 ≡ 16 * (a + 1) = omega arith in drop-drop 16 (16 * a) l ∙ ap (λ (i : ℕ). drop i l) e

  go : (a n : ℕ) → system_at l a ≡ false → until_system (suc n) (drop (16 * a) l) ≡ 16 + until_system n (drop (16 * (a + 1)) l)
  go a n f = until_go n (drop (16 * a) l) (here a ∙ f) ∙ ap (λ (r : List ℕ). 16 + until_system n r) (next a)

  found-none : (a n : ℕ) → found l a n ≡ None → until_system n (drop (16 * a) l) ≡ 16 * n
  unfolding until_system
  found-none a zero e = refl
  found-none a (suc n) e = on_bool (system_at l a)
      (λ t. let z : ◌≡◌ {A = Option ℕ} (Some a) None = rw t at e in absurd (none-some z))
      (λ f. omega (arith, go a n f, found-none (a + 1) n (rw f at e)))

  found-some : (a n k : ℕ) → found l a n ≡ Some k → (16 * a + until_system n (drop (16 * a) l) ≡ 16 * k) × (a ≤ k) × (k < a + n)
  found-some a zero k e = absurd (none-some (sym e))
  found-some a (suc n) k e = on_bool (system_at l a)
      (λ t.
      let z : ◌≡◌ {A = Option ℕ} (Some a) (Some k) = rw t at e in
      let y : a ≡ k = cc in
      (omega (arith, until_stop (suc n) (drop (16 * a) l) (here a ∙ t), y), omega (arith, y), omega (arith, y)))
      (λ f.
      let (u, v, w) = found-some (a + 1) n k (rw f at e) in
      (omega (arith, go a n f, u), omega (arith, v), omega (arith, w)))

  -- ---- where the second system begins
  pub second-none : 16 ≤ length l → length l % 16 ≡ 0 → found l 2 (length l / 16 - 2) ≡ None → length l ≡ second_at l
  unfolding second_at
  second-none h w e = on_bool (eqb (length l) 16)
      (λ t. rw t (eqb-true (length l) 16 t))
      (λ f. rw f (let d = eqb-false (length l) 16 f in omega (arith, found-none 2 (length l / 16 - 2) e, h, w, d)))

  pub second-some : (k : ℕ) → 16 ≤ length l → found l 2 (length l / 16 - 2) ≡ Some k → (16 * k ≡ second_at l) × (2 ≤ k) × (16 * k ≤ length l)
  unfolding second_at
  second-some k h e =
      let (u, v, w) = found-some 2 (length l / 16 - 2) k e in
      (on_bool (eqb (length l) 16) (λ t. let z : ⊥ = omega (arith, v, w, eqb-true (length l) 16 t) in absurd z) (λ f. rw f (sym u)), v, omega (arith, v, w, h))
