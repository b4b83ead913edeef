-- The Reed-Solomon code RS(255,32): 01, The page code; ICD 6.2. A polynomial is the list of its coefficients, the highest power first.
-- Leans on the field.
use Rattle.std.specs.Prelude.{List, [], ◌∷◌, ◌++◌, ℕ, zero, suc, ◌-◌, length, drop, get_or, replicate}
use Rattle.pagecode.specs.Field.{◌⊕◌, ◌⊗◌, power}

-- the sum, place by place from the front
unfoldable pub plus : List ℕ → List ℕ → List ℕ
plus [] g = g
plus (a ∷ f) [] = a ∷ f
plus (a ∷ f) (b ∷ g) = (a ⊕ b) ∷ plus f g

-- c·f
unfoldable pub scale : ℕ → List ℕ → List ℕ
scale c [] = []
scale c (d ∷ f) = (c ⊗ d) ∷ scale c f

-- (x - r)·f; minus is plus
unfoldable pub times_root : ℕ → List ℕ → List ℕ
unfolding plus scale
times_root r f = plus (f ++ (0 ∷ [])) (0 ∷ scale r f)

-- Eq. 8: the product of (x - α^i), i from 1 to n. The code's generator is that of n = 223
unfoldable pub generator : ℕ → List ℕ
unfolding power times_root
generator zero = 1 ∷ []
generator (suc n) = times_root (power (suc n)) (generator n)

-- the remainder of f by the polynomial 1 ∷ t, after n steps of long division: each takes c·(1 ∷ t) from a front c ∷ f
unfoldable pub remainder : ℕ → List ℕ → List ℕ → List ℕ
unfolding plus scale
remainder zero t f = f
remainder (suc n) t [] = []
remainder (suc n) t (c ∷ f) = remainder n t (plus (scale c t) f)

-- Eq. 11 and 12: the information octets c31, c30, .. c0, and behind them the remainder of c(x)·x^223 by the generator
unfoldable pub codeword : List ℕ → List ℕ
unfolding generator remainder
codeword c = c ++ remainder (length c) (drop 1 (generator 223)) (c ++ replicate 223 0)

-- the coefficient of x^e
unfoldable pub coefficient : ℕ → List ℕ → ℕ
coefficient e f = get_or f (length f - suc e) 0
