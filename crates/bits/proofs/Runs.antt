-- A run of bits read from octets, an octet at a time; the number at a place.
-- The octets that a run lies in are a number of which the run is a part; each octet multiplies it by 256, and so it stays below 2 ^ 8 for each.
use mathlib.Core.Path.{◌≡◌, refl, sym, ap, ap₂, ◌∙◌}
use mathlib.Core.Bool.{Bool, true, false, ◌&&◌, cond}
use mathlib.Core.List.{List, [], ◌∷◌, ◌++◌, append-nil}
use Prim.Native.Nat.{ℕ, ◌+◌, ◌*◌, ◌/◌, ◌%◌, ◌^◌, ◌-◌, ◌≤◌, ◌<◌}
use native.Mathlib.Nat.{mod-eq_of_lt, lt_of_lt_of_le}
use native.Mathlib.Decide.{dec_le}
use native.Mathlib.Numerals.{add-one}
use native.Mathlib.Omega.{arith}
use lib.Dec.{leb}
use lib.ListN.{length, get_or, take, drop, length-take, length-drop, take-append-drop}
use lib.Seq.{take-suc, take-append-le, drop-append-le, drop-append-add}
use lib.Pow.{pow_pos, pow_mono}
use borrow.Author.Tests.{le-leb, lt-leb, leb-true, leb-false}
use Rattle.lists.proofs.Tests.{on_bool}
use Rattle.bits.specs.Bits.{bits, value, bits_of, fits_in, is_number, number_at}
use Rattle.bits.proofs.Values.{length-bits, value-bits, bits-value, value-lt, value-append, bits-part}
use Rattle.bits.proofs.Octets.{length-bits_of, bits_of-append}

pub run-lt : (k : ℕ) (bs : List Bool) → value (take k bs) < 2 ^ k
run-lt k bs = lt_of_lt_of_le (value-lt (take k bs)) (pow_mono (omega (arith, length-take k bs)))

-- an octet more: the number of the octets' bits, and the octet's own
pub run-octet : (s : List ℕ) (j x : ℕ) → j < length s → x ≡ get_or s j 0 → x < 256 → value (bits_of (take (j + 1) s)) ≡ value (bits_of (take j s)) * 256 + x
unfolding bits_of
run-octet s j x h e l =
    ap (λ (k : ℕ). value (bits_of (take k s))) (add-one j)
    ∙ ap (λ (t : List ℕ). value (bits_of t)) (take-suc s j 0 h ∙ ap (λ (y : ℕ). take j s ++ (y ∷ [])) (sym e))
    ∙ ap value (bits_of-append (take j s) (x ∷ []) ∙ ap (λ (t : List Bool). bits_of (take j s) ++ t) (append-nil (bits 8 x)))
    ∙ value-append (bits_of (take j s)) (bits 8 x)
    ∙ ap₂ (λ (k v : ℕ). value (bits_of (take j s)) * 2 ^ k + v) (length-bits 8 x) (value-bits 8 x ∙ mod-eq_of_lt l)

-- and its bound: eight bits for each octet
pub run-room : (s : List ℕ) (j w : ℕ) → 8 * j ≤ w → value (bits_of (take j s)) < 2 ^ w
run-room s j w h = lt_of_lt_of_le (value-lt (bits_of (take j s))) (pow_mono (omega (arith, length-bits_of (take j s), length-take j s)))

-- n bits that lie in the octets t, of which the first has `before` bits in front of them
module _ (s : List ℕ) (first before count n : ℕ) (here : first + count ≤ length s) (few : before + n ≤ 8 * count) where
  run-bits : take n (drop (8 * first + before) (bits_of s)) ≡ take n (drop before (bits_of (take count (drop first s))))
  run-bits =
      let t : List ℕ = take count (drop first s) in
      let rest : List Bool = bits_of (drop count (drop first s)) in
      let l : length (bits_of t) ≡ 8 * count = omega (arith, length-bits_of t, length-take count (drop first s), length-drop first s) in
      let f : 8 * first + before ≡ length (bits_of (take first s)) + before = omega (arith, length-bits_of (take first s), length-take first s) in
      ap₂ (λ (k : ℕ) (bs : List Bool). take n (drop k bs)) f (ap bits_of (sym (take-append-drop first s)) ∙ bits_of-append (take first s) (drop first s))
      ∙ ap (take n) (drop-append-add (bits_of (take first s)) (bits_of (drop first s)) before
      ∙ ap (drop before) (ap bits_of (sym (take-append-drop count (drop first s))) ∙ bits_of-append t (drop count (drop first s)))
      ∙ drop-append-le before (bits_of t) rest (omega arith))
      ∙ take-append-le n (drop before (bits_of t)) rest (omega (arith, length-drop before (bits_of t)))

  pub run-number : value (take n (drop (8 * first + before) (bits_of s))) ≡ value (bits_of (take count (drop first s))) / 2 ^ (8 * count - before - n) % 2 ^ n
  run-number =
      let t : List ℕ = take count (drop first s) in
      let l : length (bits_of t) ≡ 8 * count = omega (arith, length-bits_of t, length-take count (drop first s), length-drop first s) in
      ap value (run-bits ∙ ap (λ (bs : List Bool). take n (drop before bs)) (sym (bits-value (8 * count) (bits_of t) l)))
      ∙ bits-part (8 * count) (value (bits_of t)) before n few

-- ---- the number at a place
-- whether it is there, counted in octets: whole ones, and up to two for the broken rest
pub fits-octets : (s : List ℕ) (at n : ℕ) → at / 8 ≤ length s → leb (n / 8 + (n % 8 + at % 8 + 7) / 8) (length s - at / 8) ≡ fits_in (bits_of s) at n
fits-octets s at n h =
    let m = n / 8 + (n % 8 + at % 8 + 7) / 8 in
    let r = length s - at / 8 in
    on_bool (leb m r)
    (λ e. e ∙ sym (le-leb (at + n) (length (bits_of s)) (omega (arith, leb-true m r e, length-bits_of s))))
    (λ e. e ∙ sym (lt-leb (at + n) (length (bits_of s)) (omega (arith, leb-false m r e, length-bits_of s))))

module _ (bs : List Bool) (at n : ℕ) where
  -- when there is one
  pub is-number : fits_in bs at n ≡ true → n ≤ 64 → is_number bs at n ≡ true
  is-number e l = rw e (le-leb n 64 l)

  pub not_there : fits_in bs at n ≡ false → is_number bs at n ≡ false
  not_there e = rw e

  pub too_wide : 64 < n → is_number bs at n ≡ false
  too_wide h = wide-and (fits_in bs at n) (lt-leb n 64 h)
    where
      wide-and : (a : Bool) {b : Bool} → b ≡ false → (a && b) ≡ false
      wide-and true e = e
      wide-and false e = refl

  pub number_fits : at + n ≤ length bs → n ≤ 64 → number_at bs at n ≡ value (take n (drop at bs))
  unfolding number_at
  number_fits h l = rw (is-number (le-leb (at + n) (length bs) h) l)

  pub number-none : is_number bs at n ≡ false → number_at bs at n ≡ 0
  unfolding number_at
  number-none e = rw e

  pub number_lt : number_at bs at n < 2 ^ n
  unfolding number_at
  number_lt = go (is_number bs at n)
    where
      go : (b : Bool) → cond b (value (take n (drop at bs))) 0 < 2 ^ n
      go true = run-lt n (drop at bs)
      go false = pow_pos n

  -- bits that are those of a number
  pub number_of : (v : ℕ) → take n (drop at bs) ≡ bits n v → v < 2 ^ n → n ≤ 64 → number_at bs at n ≡ v
  number_of v e h l = go (dec_le (at + n) (length bs))
    where
      go : Dec (at + n ≤ length bs) → number_at bs at n ≡ v
      go (yes f) = number_fits f l ∙ ap value e ∙ value-bits n v ∙ mod-eq_of_lt h
      go (no f) =
          let z : n ≡ 0 = omega (arith, ap length e, length-take n (drop at bs), length-drop at bs, length-bits n v) in
          let k : v < 1 = rw z at h in
          let y : 0 ≡ v = omega arith in
          number-none (not_there (lt-leb (at + n) (length bs) (omega arith))) ∙ y
