-- The field of 256 elements: 01, The page code; ICD 6.1. An element is an octet, whose bit i is the coefficient of α^i.
-- Leans on bit_xor, the exclusive or of two numbers' binary digits.
use Rattle.std.specs.Prelude.{List, ◌≡◌, ◌≢◌, ℕ, zero, suc, ◌*◌, ◌/◌, ◌%◌, ◌<◌, get_or}
use Rattle.std.specs.Int.Bits.{bit_xor}

infixl 65 ◌⊕◌
infixl 70 ◌⊗◌
-- ICD 6.1: the sum, coefficient by coefficient, where 1 + 1 = 0. A difference is the same
unfoldable pub ◌⊕◌ : ℕ → ℕ → ℕ
a ⊕ b = bit_xor a b

-- ICD Eq. 7: α·x, each coefficient one power up. An α^8 that comes up is α^4 + α^3 + α^2 + 1, the octet 29
unfoldable pub double : ℕ → ℕ
double x = bit_xor (x / 128 % 2 * 29) (x * 2 % 256)

-- the sum of α^i·b over those of the n low bits i of a that are 1
unfoldable pub shift_add : ℕ → ℕ → ℕ → ℕ
shift_add zero a b = 0
shift_add (suc n) a b = bit_xor (a % 2 * b) (shift_add n (a / 2) (double b))

-- the product of two octets (the remainder of b makes it an octet where b is none)
unfoldable pub ◌⊗◌ : ℕ → ℕ → ℕ
unfolding double shift_add
a ⊗ b = shift_add 8 a (b % 256)

-- α^n, where α = 2
unfoldable pub power : ℕ → ℕ
unfolding double
power zero = 1
power (suc n) = double (power n)

-- 01, The page code: r is the logarithm of a; 0 has none, and asking answers 0
pub record Logarithm (a r : ℕ) : Type 0 where
  pub some : a ≢ 0 → power r ≡ a
  pub none : a ≡ 0 → r ≡ 0
  pub small : r < 255

-- 01, The page code: r is the inverse of a; 0 has none, and asking answers 0
pub record Inverse (a r : ℕ) : Type 0 where
  pub some : a ≢ 0 → a ⊗ r ≡ 1
  pub none : a ≡ 0 → r ≡ 0

-- a list of octets
abbrev pub Octets : List ℕ → Type 0
Octets l = (i : ℕ) → get_or l i 0 < 256
