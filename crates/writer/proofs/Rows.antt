-- A row of the cell mask, signal after signal: what one signal adds.
-- A masked signal adds a bit, and passes its cell if that is next; another adds nothing.
use Prim.Native.Nat.{ℕ, suc, ◌+◌, ◌-◌, min, ◌≤◌, ◌<◌}
use native.Mathlib.Numerals.{add-one}
use native.Mathlib.Omega.{arith}
use mathlib.Core.Bool.{Bool, true, false, cond}
use mathlib.Core.List.{List, [], ◌∷◌, ◌++◌}
use mathlib.Core.Path.{◌≡◌, sym, ap, ◌∙◌}
use lib.Dec.{leb, ltb}
use lib.ListN.{length, get_or, take, drop, length-take, drop_of_length-le, get_or-eq_default}
use lib.Seq.{drop-cons, get_or-take, get_or-drop}
use Rattle.std.proofs.lemmas.List.{take_rest}
use borrow.Author.Tests.{leb-true, leb-false, ltb-true, ltb-false}
use Rattle.lists.proofs.Tests.{on_bool, clash}
use Rattle.bits.specs.Bits.{num, bits, bits_of}
use Rattle.writer.specs.Rendering.{is_cell, row, signals_of}

-- a system's signals; of records that are cut off there are fewer than 16
module _ (s : List ℕ) where
  length-signals : length (signals_of s) ≤ 16
  length-signals = omega (arith, length-take 16 (drop 96 (bits_of s)))

  signal-at : (g : ℕ) → g < 16 → get_or (signals_of s) g false ≡ get_or (bits_of s) (96 + g) false
  signal-at g k = get_or-take 16 (drop 96 (bits_of s)) g false k ∙ get_or-drop 96 (bits_of s) g false

  -- no signal is left
  none-left : (g : ℕ) (l : List ℕ) → length (signals_of s) ≤ g → row (drop g (signals_of s)) g l ≡ []
  unfolding row
  none-left g l k = ap (λ (bs : List Bool). row bs g l) (drop_of_length-le (signals_of s) {i = g} k)

  pub row-end : (g : ℕ) (l : List ℕ) → 16 ≤ g → row (drop g (signals_of s)) g l ≡ []
  row-end g l k = none-left g l (omega (arith, length-signals, k))

  module _ (g : ℕ) (k : g < 16) (l : List ℕ) where
    turn : g < length (signals_of s) → row (drop g (signals_of s)) g l ≡ row (get_or (bits_of s) (96 + g) false ∷ drop (g + 1) (signals_of s)) g l
    turn h =
        ap (λ (bs : List Bool). row bs g l) (drop-cons (signals_of s) g false h)
        ∙ ap (λ (b : Bool). row (b ∷ drop (suc g) (signals_of s)) g l) (signal-at g k)
        ∙ ap (λ (n : ℕ). row (get_or (bits_of s) (96 + g) false ∷ drop n (signals_of s)) g l) (sym (add-one g))

    pub row-unmasked : get_or (bits_of s) (96 + g) false ≡ false → row (drop g (signals_of s)) g l ≡ row (drop (g + 1) (signals_of s)) (g + 1) l
    unfolding row
    row-unmasked e = on_bool (ltb g (length (signals_of s)))
        (λ t. turn (ltb-true g (length (signals_of s)) t) ∙ rw e (ap (λ (n : ℕ). row (drop (g + 1) (signals_of s)) n l) (sym (add-one g))))
        (λ f. let h = ltb-false g (length (signals_of s)) f in none-left g l (omega (arith, h)) ∙ sym (none-left (g + 1) l (omega (arith, h))))

    there : get_or (bits_of s) (96 + g) false ≡ true → g < length (signals_of s)
    there e = on_bool (ltb g (length (signals_of s)))
        (λ t. ltb-true g (length (signals_of s)) t)
        (λ f. clash e (sym (signal-at g k) ∙ get_or-eq_default (signals_of s) false (omega (arith, ltb-false g (length (signals_of s)) f))))

    row-masked : get_or (bits_of s) (96 + g) false ≡ true
        → row (drop g (signals_of s)) g l ≡ bits 1 (num (is_cell g l)) ++ row (drop (g + 1) (signals_of s)) (g + 1) (cond (is_cell g l) (drop 16 l) l)
    unfolding row
    row-masked e = turn (there e) ∙ rw e (ap (λ (n : ℕ). bits 1 (num (is_cell g l)) ++ row (drop (g + 1) (signals_of s)) n (cond (is_cell g l) (drop 16 l) l)) (sym (add-one g)))

    -- its cell is next, or it is not
    pub row-there : get_or (bits_of s) (96 + g) false ≡ true → is_cell g l ≡ true
        → row (drop g (signals_of s)) g l ≡ bits 1 1 ++ row (drop (g + 1) (signals_of s)) (g + 1) (drop 16 l)
    row-there e f = rw f at (row-masked e)

    pub row-elsewhere : get_or (bits_of s) (96 + g) false ≡ true → is_cell g l ≡ false
        → row (drop g (signals_of s)) g l ≡ bits 1 0 ++ row (drop (g + 1) (signals_of s)) (g + 1) l
    row-elsewhere e f = rw f at (row-masked e)

-- the records behind the first one
pub behind-first : (l : List ℕ) (k : ℕ) → k ≡ min (length l) 16 → take (length l - k) (drop k l) ≡ drop 16 l
behind-first l k e = take_rest l k ∙ on_bool (leb 16 (length l))
    (λ t. let h : k ≡ 16 = omega (arith, e, leb-true 16 (length l) t) in ap (λ (i : ℕ). drop i l) h)
    (λ t. let h : length l < 16 = omega (arith, leb-false 16 (length l) t) in
    drop_of_length-le l {i = k} (omega (arith, e, h)) ∙ sym (drop_of_length-le l {i = 16} (omega (arith, h))))
