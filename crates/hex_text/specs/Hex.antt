-- Octets in capital hex, as the programs print them: 01, Checked by hand.
-- Leans on lists.
use Rattle.std.specs.Prelude.{ℕ, zero, suc, ◌+◌, ◌-◌, ◌/◌, ◌%◌, cond, List, [], ◌∷◌, ◌++◌, ◌≡◌, ltb, length, take, drop}
use Rattle.lists.specs.Lists.{laid}

-- the ASCII code of a digit: 48 is that of 0, 65 that of A, which is ten
unfoldable pub digit_of : ℕ → ℕ
digit_of n = cond (ltb n 10) (48 + n) (65 + (n - 10))

-- two digits for each octet
unfoldable pub hex_of : List ℕ → List ℕ
unfolding digit_of
hex_of [] = []
hex_of (x ∷ xs) = digit_of (x / 16) ∷ digit_of (x % 16) ∷ hex_of xs

-- a line: the digits, and the line end, whose ASCII code is 10
unfoldable pub line_of : List ℕ → List ℕ
unfolding hex_of
line_of octets = hex_of octets ++ (10 ∷ [])

-- so many lines of so many octets each
unfoldable pub lines_of : ℕ → ℕ → List ℕ → List ℕ
lines_of zero size octets = []
lines_of (suc n) size octets = line_of (take size octets) ++ lines_of n size (drop size octets)

-- the digits of as many octets as a text has room for
unfoldable pub digits_for : List ℕ → List ℕ → List ℕ
unfolding hex_of
digits_for octets text = hex_of (take (length text / 2) octets)

-- the contract of `spell`, whose text was `before` and then is `after`
pub record Spelt (octets before : List ℕ) (count : ℕ) (after : List ℕ) : Type 0 where
  pub counted : count ≡ length (digits_for octets before)
  pub text : after ≡ laid before 0 (digits_for octets before)
