-- The cells of a square and its right sides: that they are octets, and what becomes of them when a row takes a multiple of another.
-- A sum and a multiple of lists are known at every place, so a row's length does not matter.
use mathlib.Core.Bool.{Bool, cond}
use mathlib.Core.Logic.{◌≢◌}
use mathlib.Core.Path.{◌≡◌, refl, sym, ap, ap₂, ◌∙◌}
use mathlib.Core.List.{List, [], ◌∷◌, ◌++◌}
use Prim.Native.Nat.{ℕ, zero, suc, ◌+◌, ◌-◌, ◌*◌, ◌≤◌, ◌<◌}
use native.Mathlib.Decide.{dec_lt}
use native.Mathlib.Omega.{arith}
use lib.ListN.{length, get_or, set, take, drop, length-take, length-drop, length-append, get_or-append, get_or-eq_default, drop_of_length-le}
use lib.Seq.{get_or-append-add, get_or-take, get_or-drop, get_or-set_same, get_or-set_other, drop-append-add, drop-drop}
use borrow.Author.Rules.{elem_Fits}
use borrow.Author.Tests.{lt-ltb, le-ltb}
use denote.Array.{Array, each}
use denote.Plain.{UInt}
use denote.Shadow.{shadow}
use mir.Syntax.{w8}
use mir.Val.{Val}
use Rattle.pagecode.specs.Field.{◌⊕◌, ◌⊗◌, Octets}
use Rattle.pagecode.specs.Code.{plus, scale}
use Rattle.pagecode.specs.System.{cell}
use Rattle.pagecode.proofs.Linear.{⊕-comm, ⊕-zero}
use Rattle.pagecode.proofs.Pieces.{piece, piece-length, piece-get}
use Rattle.pagecode.proofs.Polynomials.{plus-get, scale-get, scale-length, plus-length, scale-octets, plus-octets, append-octets}

-- ---- a cell is in the square or in the right sides
module _ (n : List (List ℕ)) (s : List ℕ) (r c : ℕ) where
  pub cell-low : c < 32 → cell n s r c ≡ get_or (get_or n r []) c 0
  unfolding cell
  cell-low h = ap (λ (b : Bool). cond b (get_or (get_or n r []) c 0) (get_or s (r * 53 + (c - 32)) 0)) (lt-ltb c 32 h)

  pub cell-high : 32 ≤ c → cell n s r c ≡ get_or s (r * 53 + (c - 32)) 0
  unfolding cell
  cell-high h = ap (λ (b : Bool). cond b (get_or (get_or n r []) c 0) (get_or s (r * 53 + (c - 32)) 0)) (le-ltb c 32 h)

-- an array of arrays of octets, as its type tells
pub rows-octets : (xs : List (List ℕ)) (us : List Val) → shadow (each (List ℕ) (Array (UInt w8) 32).own_val xs us) → (r : ℕ) → Octets (get_or xs r [])
rows-octets [] us p r c = omega arith
rows-octets (x ∷ xs) [] p r c = absurd p
rows-octets (x ∷ xs) (u ∷ us) p zero c = (elem_Fits w8 w8 x _ c p.0.1.1 tt).fits
rows-octets (x ∷ xs) (u ∷ us) p (suc r) c = rows-octets xs us p.1 r c

pub cell-octets : (n : List (List ℕ)) (s : List ℕ) → ((r : ℕ) → Octets (get_or n r [])) → Octets s → (r c : ℕ) → cell n s r c < 256
cell-octets n s o p r c = pick (dec_lt c 32)
  where
    pick : Dec (c < 32) → cell n s r c < 256
    pick (yes l) = omega (arith, cell-low n s r c l, o r c)
    pick (no d) = omega (arith, cell-high n s r c (omega arith), p (r * 53 + (c - 32)))

-- ---- a list to which another is added from a place on
plus-drop : (u v : List ℕ) (m : ℕ) → length u ≤ m → drop m (plus u v) ≡ drop m v
unfolding plus
plus-drop [] v m h = refl
plus-drop (x ∷ u) v zero h = absurd (omega arith)
plus-drop (x ∷ u) [] (suc m) h = drop_of_length-le u {i = m} (omega arith)
plus-drop (x ∷ u) (y ∷ v) (suc m) h = plus-drop u v m (omega arith)

module _ (w u : List ℕ) (at : ℕ) (fits : at + length u ≤ length w) where
  front : length (take at w) ≡ at
  front = omega (arith, length-take at w)

  add-below : (i : ℕ) → i < at → get_or (take at w ++ plus u (drop at w)) i 0 ≡ get_or w i 0
  add-below i l = get_or-append (take at w) (plus u (drop at w)) 0 i (omega (arith, front)) ∙ get_or-take at w i 0 l

  add-from : (j : ℕ) → get_or (take at w ++ plus u (drop at w)) (at + j) 0 ≡ get_or w (at + j) 0 ⊕ get_or u j 0
  add-from j =
      ap (λ (i : ℕ). get_or (take at w ++ plus u (drop at w)) (i + j) 0) (sym front)
      ∙ get_or-append-add (take at w) (plus u (drop at w)) j 0 ∙ plus-get u (drop at w) j ∙ ap (λ (x : ℕ). get_or u j 0 ⊕ x) (get_or-drop at w j 0) ∙ ⊕-comm (get_or u j 0) (get_or w (at + j) 0)

  add-above : (i : ℕ) → at + length u ≤ i → get_or (take at w ++ plus u (drop at w)) i 0 ≡ get_or w i 0
  add-above i h =
      ap (λ (x : ℕ). get_or (take at w ++ plus u (drop at w)) x 0) (sym split) ∙ add-from (i - at)
      ∙ ap₂ ◌⊕◌ (ap (λ (x : ℕ). get_or w x 0) split) (get_or-eq_default u 0 {n = i - at} (omega arith)) ∙ ⊕-zero (get_or w i 0)
    where
      split : at + (i - at) ≡ i
      split = omega arith

  add-drop : (m : ℕ) → at + length u ≤ m → drop m (take at w ++ plus u (drop at w)) ≡ drop m w
  add-drop m h =
      ap (λ (x : ℕ). drop x (take at w ++ plus u (drop at w))) (sym split)
      ∙ drop-append-add (take at w) (plus u (drop at w)) (m - at) ∙ plus-drop u (drop at w) (m - at) (omega arith) ∙ drop-drop (m - at) at w
      ∙ ap (λ (x : ℕ). drop x w) whole
    where
      split : length (take at w) + (m - at) ≡ m
      split = omega (arith, front)

      whole : at + (m - at) ≡ m
      whole = omega arith

  add-length : length (take at w ++ plus u (drop at w)) ≡ length w
  add-length = omega (arith, length-append (take at w) (plus u (drop at w)), front, plus-length u (drop at w) (omega (arith, length-drop at w)), length-drop at w)

-- ---- row r takes f times the row x
pub record Added (r f : ℕ) (x : ℕ → ℕ) (E F : ℕ → ℕ → ℕ) : Type 0 where
  pub here : (c : ℕ) → c < 85 → F r c ≡ E r c ⊕ f ⊗ x c
  pub there : (a c : ℕ) → a ≢ r → c < 85 → F a c ≡ E a c

-- the right sides, of whose rows row r takes f times y
abbrev pub more_side : List ℕ → ℕ → ℕ → List ℕ → List ℕ
more_side s r f y = take (r * 53) s ++ plus (scale f y) (drop (r * 53) s)

take-octets : (n : ℕ) (l : List ℕ) → Octets l → Octets (take n l)
take-octets zero l o i = omega arith
take-octets (suc n) [] o i = omega arith
take-octets (suc n) (x ∷ l) o zero = o 0
take-octets (suc n) (x ∷ l) o (suc i) = take-octets n l (λ k. o (suc k)) i

pub side-octets : (s : List ℕ) (r f : ℕ) (y : List ℕ) → Octets s → Octets (more_side s r f y)
side-octets s r f y o =
    append-octets (take (r * 53) s) (plus (scale f y) (drop (r * 53) s)) (take-octets (r * 53) s o)
    (plus-octets (scale f y) (drop (r * 53) s) (scale-octets f y) (λ i. omega (arith, get_or-drop (r * 53) s i 0, o (r * 53 + i))))

-- the square, of whose rows row r takes f times x
abbrev pub more_row : List (List ℕ) → ℕ → ℕ → List ℕ → List (List ℕ)
more_row n r f x = set n r (plus (get_or n r []) (scale f x))

-- the row that it takes is row p of m and t
module _ (m n : List (List ℕ)) (t s : List ℕ) (p r f : ℕ) (square : r < length n) (from : p * 53 + 53 ≤ length t) (to : r * 53 + 53 ≤ length s) where
  long : length (scale f (piece t p)) ≡ 53
  long = scale-length f (piece t p) ∙ piece-length t p from

  pub added-length : length (more_side s r f (piece t p)) ≡ length s
  added-length = add-length s (scale f (piece t p)) (r * 53) (omega (arith, long))

  pub added-drop : (k : ℕ) → r < k → drop (k * 53) (more_side s r f (piece t p)) ≡ drop (k * 53) s
  added-drop k l = add-drop s (scale f (piece t p)) (r * 53) (omega (arith, long)) (k * 53) (omega (arith, long))

  pub added : Added r f (cell m t p) (cell n s) (cell (more_row n r f (get_or m p [])) (more_side s r f (piece t p)))
  added = record { here = λ c h. here' c h (dec_lt c 32); there = λ a c d h. there' a c d h (dec_lt c 32) (dec_lt a r) }
    where
      N : List (List ℕ)
      N = more_row n r f (get_or m p [])

      S : List ℕ
      S = more_side s r f (piece t p)

      here' : (c : ℕ) → c < 85 → Dec (c < 32) → cell N S r c ≡ cell n s r c ⊕ f ⊗ cell m t p c
      here' c h (yes l) =
          cell-low N S r c l ∙ ap (λ (x : List ℕ). get_or x c 0) (get_or-set_same n r (plus (get_or n r []) (scale f (get_or m p []))) [] square)
          ∙ plus-get (get_or n r []) (scale f (get_or m p [])) c
          ∙ ap₂ ◌⊕◌ (sym (cell-low n s r c l)) (scale-get f (get_or m p []) c ∙ ap (λ (x : ℕ). f ⊗ x) (sym (cell-low m t p c l)))
      here' c h (no d) =
          cell-high N S r c (omega arith) ∙ add-from s (scale f (piece t p)) (r * 53) (omega (arith, long)) (c - 32)
          ∙ ap₂ ◌⊕◌ (sym (cell-high n s r c (omega arith)))
          (scale-get f (piece t p) (c - 32)
          ∙ ap (λ (x : ℕ). f ⊗ x) (piece-get t p (c - 32) (omega arith) ∙ sym (cell-high m t p c (omega arith))))

      there' : (a c : ℕ) → a ≢ r → c < 85 → Dec (c < 32) → Dec (a < r) → cell N S a c ≡ cell n s a c
      there' a c d h (yes l) b =
          cell-low N S a c l ∙ ap (λ (x : List ℕ). get_or x c 0) (get_or-set_other n r a (plus (get_or n r []) (scale f (get_or m p []))) [] d) ∙ sym (cell-low n s a c l)
      there' a c d h (no l) (yes b) =
          cell-high N S a c (omega arith) ∙ add-below s (scale f (piece t p)) (r * 53) (omega (arith, long)) (a * 53 + (c - 32)) (omega arith) ∙ sym (cell-high n s a c (omega arith))
      there' a c d h (no l) (no b) =
          cell-high N S a c (omega arith) ∙ add-above s (scale f (piece t p)) (r * 53) (omega (arith, long)) (a * 53 + (c - 32)) (omega (arith, long)) ∙ sym (cell-high n s a c (omega arith))
