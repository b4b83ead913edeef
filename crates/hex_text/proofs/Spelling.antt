-- The loop that spells octets: after i turns the digits of the first i octets stand at the start of the text.
-- Each turn sets the two digits behind those that stand there.
use Prim.Native.Nat.{ℕ, min, ◌+◌, ◌*◌, ◌/◌, ◌%◌, ◌≤◌, ◌<◌}
use mathlib.Core.Path.{◌≡◌, refl, sym, ap, ap₂, ◌∙◌}
use mathlib.Core.List.{List, [], ◌∷◌, ◌++◌}
use native.Mathlib.Numerals.{add-one}
use native.Mathlib.Omega.{arith}
use lib.ListN.{length, get_or, set, take}
use lib.Seq.{take-suc, length-take-le}
use Rattle.std.proofs.lemmas.List.{take_min}
use Rattle.lists.proofs.Laid.{laid_one, laid-laid, laid-length, laid_none}
use Rattle.lists.specs.Lists.{laid}
use Rattle.hex_text.specs.Hex.{digit_of, hex_of, digits_for, Spelt}

hex-length : (l : List ℕ) → length (hex_of l) ≡ 2 * length l
unfolding hex_of
hex-length [] = refl
hex-length (x ∷ xs) = omega (arith, hex-length xs)

pub hex-append : (l m : List ℕ) → hex_of (l ++ m) ≡ hex_of l ++ hex_of m
unfolding hex_of
hex-append [] m = refl
hex-append (x ∷ xs) m = ap (λ (r : List ℕ). digit_of (x / 16) ∷ digit_of (x % 16) ∷ r) (hex-append xs m)

two : (d : List ℕ) (at x y : ℕ) → at + 2 ≤ length d → set (set d at x) (at + 1) y ≡ laid d at (x ∷ y ∷ [])
two d at x y h =
    let first : set d at x ≡ laid d at (x ∷ []) = laid_one d at x (omega arith) in
    let long : length (laid d at (x ∷ [])) ≡ length d = laid-length d at (x ∷ []) (omega arith) in
    ap (λ (u : List ℕ). set u (at + 1) y) first ∙ laid_one (laid d at (x ∷ [])) (at + 1) y (omega (arith, long)) ∙ laid-laid d at (x ∷ []) (y ∷ []) (omega arith)

pub start : (octets text : List ℕ) → text ≡ laid text 0 (hex_of (take 0 octets))
unfolding hex_of
start octets text = laid_none text 0 []

module _ (octets text v : List ℕ) (i : ℕ) (few : i ≤ length octets) (e : v ≡ laid text 0 (hex_of (take i octets))) where
  digits : length (hex_of (take i octets)) ≡ 2 * i
  digits = hex-length (take i octets) ∙ ap (λ (n : ℕ). 2 * n) (length-take-le i octets few)

  pub same : 2 * i ≤ length text → length v ≡ length text
  same room = ap (λ (l : List ℕ). length l) e ∙ laid-length text 0 (hex_of (take i octets)) (omega (arith, digits))

  pub turn : (x p q : ℕ) → x ≡ get_or octets i 0 → p ≡ digit_of (x / 16) → q ≡ digit_of (x % 16) → i < length octets → 2 * i + 2 ≤ length text
      → set (set v (2 * i) p) (2 * i + 1) q ≡ laid text 0 (hex_of (take (i + 1) octets))
  unfolding hex_of
  turn x p q read high low more room =
      let next : hex_of (x ∷ []) ≡ p ∷ q ∷ [] = ap₂ (λ (a b : ℕ). a ∷ b ∷ []) (sym high) (sym low) in
      let grown : hex_of (take (i + 1) octets) ≡ hex_of (take i octets) ++ (p ∷ q ∷ []) =
      ap (λ (n : ℕ). hex_of (take n octets)) (add-one i)
      ∙ ap hex_of (take-suc octets i 0 more ∙ ap (λ (y : ℕ). take i octets ++ (y ∷ [])) (sym read))
      ∙ hex-append (take i octets) (x ∷ [])
      ∙ ap (λ (l : List ℕ). hex_of (take i octets) ++ l) next in
      let place : 2 * i ≡ 0 + length (hex_of (take i octets)) = omega (arith, digits) in
      two v (2 * i) p q (omega (arith, same (omega arith)))
      ∙ ap (λ (u : List ℕ). laid u (2 * i) (p ∷ q ∷ [])) e
      ∙ ap (λ (n : ℕ). laid (laid text 0 (hex_of (take i octets))) n (p ∷ q ∷ [])) place
      ∙ laid-laid text 0 (hex_of (take i octets)) (p ∷ q ∷ []) (omega (arith, digits))
      ∙ ap (laid text 0) (sym grown)

-- at the end: the octets that are left out have no room
pub done : (octets text v : List ℕ) (n : ℕ) → n ≡ min (length octets) (length text / 2) → v ≡ laid text 0 (hex_of (take n octets)) → Spelt octets text (2 * n) v
unfolding digits_for
done octets text v n least e =
    let few : n ≤ length octets = omega arith in
    let all : take n octets ≡ take (length text / 2) octets = ap (λ (k : ℕ). take k octets) (omega arith) ∙ take_min (length text / 2) octets in
    record { counted = sym (digits octets text v n few e) ∙ ap (λ (l : List ℕ). length (hex_of l)) all; text = e ∙ ap (λ (l : List ℕ). laid text 0 (hex_of l)) all }
