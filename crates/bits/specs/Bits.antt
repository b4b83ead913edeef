-- Bit strings: 01, What the box does ("Bits are numbered from 0, most significant first"; ICD 2.1). A bit string is a list of bits, of any length.
-- Leans on nothing.
use Rattle.std.specs.Prelude.{ℕ, zero, suc, ◌+◌, ◌*◌, ◌/◌, ◌%◌, ◌^◌, Bool, true, false, ◌&&◌, cond, List, [], ◌∷◌, ◌++◌, eqb, leb, length, take, drop}
use Rattle.lists.specs.Lists.{laid}

-- a bit as a number
abbrev pub num : Bool → ℕ
num true = 1
num false = 0

abbrev pub odd : ℕ → Bool
odd x = eqb (x % 2) 1

-- the n low bits of a number, the most significant first
unfoldable pub bits : ℕ → ℕ → List Bool
bits zero v = []
bits (suc n) v = odd (v / 2 ^ n) ∷ bits n v

-- the number that a run of bits is
unfoldable pub value : List Bool → ℕ
value [] = 0
value (b ∷ bs) = num b * 2 ^ length bs + value bs

-- the bits of octets
unfoldable pub bits_of : List ℕ → List Bool
unfolding bits
bits_of [] = []
bits_of (x ∷ xs) = bits 8 x ++ bits_of xs

-- the first n octets of bits, and all of them: eight bits each, what is left over not counted
unfoldable pub octets : ℕ → List Bool → List ℕ
unfolding value
octets zero bs = []
octets (suc n) bs = value (take 8 bs) ∷ octets n (drop 8 bs)

unfoldable pub octets_of : List Bool → List ℕ
unfolding octets
octets_of bs = octets (length bs / 8) bs

-- whether a field of n bits at a place is in the string
abbrev pub fits_in : List Bool → ℕ → ℕ → Bool
fits_in bs at n = leb (at + n) (length bs)

-- whether it is there and is a number of at most 64 bits
abbrev pub is_number : List Bool → ℕ → ℕ → Bool
is_number bs at n = fits_in bs at n && leb n 64

-- the number of the n bits at a place; 0 if it is none
unfoldable pub number_at : List Bool → ℕ → ℕ → ℕ
unfolding value
number_at bs at n = cond (is_number bs at n) (value (take n (drop at bs))) 0

-- the n low bits of v put at a place, where there is room for such a number
unfoldable pub put_at : List Bool → ℕ → ℕ → ℕ → List Bool
unfolding bits laid
put_at bs at n v = cond (is_number bs at n) (laid bs at (bits n v)) bs
