-- The equations that solving works on: ICD 6.4, Eq. 16 and 17. Only private contracts cite this file: what `solve` promises is in Solve.
-- The right sides are columns behind the square's: in this field A·x = b is A·x + b = 0. Leans on the field.
use Rattle.std.specs.Prelude.{cond, List, [], ◌≢◌, ◌≡◌, ℕ, zero, suc, ◌+◌, ◌-◌, ◌*◌, ◌/◌, ◌%◌, ◌≤◌, ◌<◌, ltb, get_or}
use Rattle.pagecode.specs.Field.{◌⊕◌, ◌⊗◌}
use Rattle.pagecode.specs.Code.{plus, scale}

-- row r, column c: 32 columns of the square, and behind them 53 of right sides
unfoldable pub cell : List (List ℕ) → List ℕ → ℕ → ℕ → ℕ
cell square sides r c = cond (ltb c 32) (get_or (get_or square r []) c 0) (get_or sides (r * 53 + (c - 32)) 0)

-- f 0 + f 1 + .. + f (n - 1)
unfoldable pub sum : ℕ → (ℕ → ℕ) → ℕ
sum zero f = 0
sum (suc n) f = sum n f ⊕ f n

-- a row of n numbers times y
abbrev pub dot : ℕ → (ℕ → ℕ) → (ℕ → ℕ) → ℕ
dot n e y = sum n (λ c. e c ⊗ y c)

-- the first k rows of n numbers send y to 0
abbrev pub Kills : ℕ → ℕ → (ℕ → ℕ → ℕ) → (ℕ → ℕ) → Type 0
Kills k n E y = (r : ℕ) → r < k → dot n (E r) y ≡ 0

-- the columns below q are unit columns
pub record Units (k q : ℕ) (F : ℕ → ℕ → ℕ) : Type 0 where
  pub one : (j : ℕ) → j < q → F j j ≡ 1
  pub none : (r j : ℕ) → r < k → j < q → r ≢ j → F r j ≡ 0

-- F comes from E: what F's rows send to 0, E's do; and the columns below q are unit columns
pub record Cleared (k n q : ℕ) (E F : ℕ → ℕ → ℕ) : Type 0 where
  pub step : (y : ℕ → ℕ) → Kills k n F y → Kills k n E y
  pub octets : (r c : ℕ) → F r c < 256
  pub units : Units k q F

-- a row from q on has an entry in column q
abbrev pub Pivoted : ℕ → ℕ → (ℕ → ℕ → ℕ) → Type 0
Pivoted k q F = ((r : ℕ) → r < k → q ≤ r → F r q ≡ 0) → ⊥

-- p is such a row; it is q itself, or row q has none
pub record Pivot (k q p : ℕ) (F : ℕ → ℕ → ℕ) : Type 0 where
  pub low : q ≤ p
  pub high : p < k
  pub some : F p q ≢ 0
  pub other : p ≢ q → F q q ≡ 0

-- row q is F's, and every other row below k is F's plus F r q times row q
pub record Swept (k q : ℕ) (F G : ℕ → ℕ → ℕ) : Type 0 where
  pub own : (c : ℕ) → c < 85 → G q c ≡ F q c
  pub others : (r c : ℕ) → r < k → r ≢ q → c < 85 → G r c ≡ F r c ⊕ F r q ⊗ F q c

-- a table has the multiples of l by 0 to 15
abbrev pub Multiples : List ℕ → List (List ℕ) → Type 0
Multiples l table = (v : ℕ) → v < 16 → get_or table v [] ≡ scale v l

-- two tables hold the multiples of l by every octet: one by its low four bits, one by its high four
abbrev pub Looked : List ℕ → List (List ℕ) → List (List ℕ) → Type 0
Looked l low high = (f : ℕ) → f < 256 → plus (get_or low (f % 16) []) (get_or high (f / 16) []) ≡ scale f l

-- nothing but 0 is sent to 0: "The resulting k x k matrix D can be inverted"
pub record Regular (k : ℕ) (square : List (List ℕ)) : Type 0 where
  pub only : (y : ℕ → ℕ) → ((j : ℕ) → y j < 256) → ((r : ℕ) → r < k → dot k (λ c. get_or (get_or square r []) c 0) y ≡ 0) → (j : ℕ) → j < k → y j ≡ 0

-- Eq. 16, at each of the 53 places: the square times the message's octets gives the contents' octets
pub record Equations (k : ℕ) (square : List (List ℕ)) (message contents : List ℕ) : Type 0 where
  pub holds : (r j : ℕ) → r < k → j < 53 → dot k (λ c. get_or (get_or square r []) c 0) (λ c. get_or message (c * 53 + j) 0) ≡ get_or contents (r * 53 + j) 0
