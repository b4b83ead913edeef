-- Octets and their bits: what stands at a place, and what it is made; octets and bits settle each other.
-- Octet q has the eight bits behind the 8 * q of the octets before it.
use mathlib.Core.Path.{◌≡◌, refl, sym, ap, ap₂, ◌∙◌}
use mathlib.Core.Bool.{Bool, false}
use mathlib.Core.List.{List, [], ◌∷◌, ◌++◌, append_assoc}
use Prim.Native.Nat.{ℕ, zero, suc, ◌+◌, ◌*◌, ◌/◌, ◌^◌, ◌-◌, ◌≤◌, ◌<◌}
use native.Mathlib.Nat.{mod-eq_of_lt, zero-add, suc-add}
use native.Mathlib.Omega.{arith}
use lib.ListN.{length, get_or, take, drop, set, length-append, length-drop, take-append-drop, get_or-append}
use lib.Seq.{length-take-le, take_at, drop_at, split_at, get_or-append-add, set_split, set-append_left}
use Rattle.bits.specs.Bits.{odd, bits, value, bits_of, octets, octets_of}
use Rattle.bits.proofs.Values.{length-bits, bits_at, value-bits, bits-value}

set-append-add : {A : Type 0} (xs ys : List A) (n : ℕ) (a : A) → set (xs ++ ys) (length xs + n) a ≡ xs ++ set ys n a
set-append-add [] ys n a = rw zero-add
set-append-add {A} (x ∷ xs) ys n a = rw suc-add (ap {B = List A} (λ r. x ∷ r) (set-append-add xs ys n a))

pub length-bits_of : (s : List ℕ) → length (bits_of s) ≡ 8 * length s
unfolding bits_of
length-bits_of [] = refl
length-bits_of (x ∷ xs) = omega (arith, length-append (bits 8 x) (bits_of xs), length-bits 8 x, length-bits_of xs)

pub bits_of-append : (s t : List ℕ) → bits_of (s ++ t) ≡ bits_of s ++ bits_of t
unfolding bits_of
bits_of-append [] t = refl
bits_of-append (x ∷ s) t = ap (λ (r : List Bool). bits 8 x ++ r) (bits_of-append s t) ∙ sym (append_assoc (bits 8 x) (bits_of s) (bits_of t))

-- the bits of the first octets
length_front : (s : List ℕ) (n : ℕ) → n ≤ length s → length (bits_of (take n s)) ≡ 8 * n
length_front s n h = omega (arith, length-bits_of (take n s), length-take-le n s h)

pub bits_of-take : (s : List ℕ) (n : ℕ) → n ≤ length s → bits_of (take n s) ≡ take (8 * n) (bits_of s)
bits_of-take s n h =
    sym (take_at (bits_of (take n s)) (bits_of (drop n s)) (8 * n) (length_front s n h))
    ∙ ap (take (8 * n)) (sym (bits_of-append (take n s) (drop n s)) ∙ ap bits_of (take-append-drop n s))

-- ---- an octet: its bits stand behind those of the octets before it
module _ (s : List ℕ) (q : ℕ) (here : q < length s) where
  length_before : length (bits_of (take q s)) ≡ 8 * q
  length_before = length_front s q (omega arith)

  octet-split : bits_of s ≡ bits_of (take q s) ++ (bits 8 (get_or s q 0) ++ bits_of (drop (suc q) s))
  unfolding bits_of
  octet-split = ap bits_of (split_at s q 0 here) ∙ bits_of-append (take q s) (get_or s q 0 ∷ drop (suc q) s)

  pub bits_of-at : (i o : ℕ) → i ≡ 8 * q + o → o < 8 → get_or (bits_of s) i false ≡ odd (get_or s q 0 / 2 ^ (7 - o))
  bits_of-at i o e h =
      let x : ℕ = get_or s q 0 in
      let rest : List Bool = bits_of (drop (suc q) s) in
      let f : i ≡ length (bits_of (take q s)) + o = omega (arith, length_before) in
      ap₂ (λ (k : ℕ) (bs : List Bool). get_or bs k false) f octet-split
      ∙ get_or-append-add (bits_of (take q s)) (bits 8 x ++ rest) o false
      ∙ get_or-append (bits 8 x) rest false o (omega (arith, length-bits 8 x))
      ∙ bits_at 8 x o h

  -- one of its bits made another
  pub set-bit : (i o y : ℕ) (b : Bool) → i ≡ 8 * q + o → o < 8 → bits 8 y ≡ set (bits 8 (get_or s q 0)) o b → bits_of (set s q y) ≡ set (bits_of s) i b
  unfolding bits_of
  set-bit i o y b e h g =
      let x : ℕ = get_or s q 0 in
      let rest : List Bool = bits_of (drop (suc q) s) in
      let f : i ≡ length (bits_of (take q s)) + o = omega (arith, length_before) in
      ap bits_of (set_split s q y here)
      ∙ bits_of-append (take q s) (y ∷ drop (suc q) s)
      ∙ ap (λ (r : List Bool). bits_of (take q s) ++ (r ++ rest)) g
      ∙ ap (λ (r : List Bool). bits_of (take q s) ++ r) (sym (set-append_left (bits 8 x) rest o b (omega (arith, length-bits 8 x))))
      ∙ sym (ap₂ (λ (k : ℕ) (bs : List Bool). set bs k b) f octet-split ∙ set-append-add (bits_of (take q s)) (bits 8 x ++ rest) o b)

-- ---- there and back
octets-again : (s : List ℕ) → ((i : ℕ) → get_or s i 0 < 256) → octets (length s) (bits_of s) ≡ s
unfolding octets bits_of
octets-again [] h = refl
octets-again (x ∷ xs) h =
    ap₂ {C = List ℕ} (λ (y : ℕ) (ys : List ℕ). y ∷ ys)
    (ap value (take_at (bits 8 x) (bits_of xs) 8 (length-bits 8 x)) ∙ value-bits 8 x ∙ mod-eq_of_lt (h 0))
    (ap (octets (length xs)) (drop_at (bits 8 x) (bits_of xs) 8 (length-bits 8 x)) ∙ octets-again xs (λ i. h (suc i)))

pub octets-of-bits : (s : List ℕ) → ((i : ℕ) → get_or s i 0 < 256) → octets_of (bits_of s) ≡ s
unfolding octets_of
octets-of-bits s h =
    let e : length (bits_of s) / 8 ≡ length s = omega (arith, length-bits_of s) in
    ap (λ (n : ℕ). octets n (bits_of s)) e ∙ octets-again s h

bits-again : (k : ℕ) (bs : List Bool) → length bs ≡ 8 * k → bits_of (octets k bs) ≡ bs
unfolding octets bits_of
bits-again zero [] e = refl
bits-again zero (b ∷ bs) e = absurd (let z : ⊥ = omega arith in z)
bits-again (suc k) bs e =
    let n : length (take 8 bs) ≡ 8 = length-take-le 8 bs (omega arith) in
    ap₂ (λ (x y : List Bool). x ++ y)
    (bits-value 8 (take 8 bs) n)
    (bits-again k (drop 8 bs) (omega (arith, length-drop 8 bs)))
    ∙ take-append-drop 8 bs

-- of bits that are whole octets
pub bits-of-octets : (k : ℕ) (bs : List Bool) → length bs ≡ 8 * k → bits_of (octets_of bs) ≡ bs
unfolding octets_of
bits-of-octets k bs e =
    let f : length bs / 8 ≡ k = omega arith in
    ap (λ (n : ℕ). bits_of (octets n bs)) f ∙ bits-again k bs e
