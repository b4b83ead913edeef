-- Solving for the plain pages, 1 to k, that are missing. Only private contracts cite this file: what `solve` promises is in Solve.
-- Page q of a message, from 0 on, is its octets from 53 q on. Leans on the field, the matrix and the equations.
use Rattle.std.specs.Prelude.{cond, List, [], ◌≢◌, ◌≡◌, ℕ, zero, suc, ◌+◌, ◌-◌, ◌*◌, ◌≤◌, ◌<◌, eqb, leb, length, get_or}
use Rattle.pagecode.specs.Field.{◌⊕◌, ◌⊗◌}
use Rattle.pagecode.specs.Matrix.{matrix_entry, matrix_row}
use Rattle.pagecode.specs.System.{sum, dot}

-- ---- which pages are plain
-- p where it is the number of a plain page, else 0
unfoldable pub plain_number : ℕ → ℕ
plain_number p = cond (leb p 32) p 0

abbrev pub ArePlain : List ℕ → List ℕ → Type 0
ArePlain numbers plain = (i : ℕ) → i < length numbers → get_or plain i 0 ≡ plain_number (get_or numbers i 0)

-- n numbers up to m, of which no two are alike but for 0
pub record Spread (n m : ℕ) (to : List ℕ) : Type 0 where
  pub most : (i : ℕ) → i < n → get_or to i 0 ≤ m
  pub different : (i j : ℕ) → i < j → j < n → get_or to i 0 ≢ 0 → get_or to i 0 ≢ get_or to j 0

-- 1 of 0, else 0
unfoldable pub nought : ℕ → ℕ
nought x = cond (eqb x 0) 1 0

-- how many of the first n are 0
unfoldable pub noughts : List ℕ → ℕ → ℕ
unfolding nought
noughts l zero = 0
noughts l (suc n) = noughts l n + nought (get_or l n 0)

-- the columns of the plain pages are marked, and as many are not as there are parity pages
pub record Marked (k : ℕ) (plain marks : List ℕ) : Type 0 where
  pub is : (i q : ℕ) → i < k → get_or plain i 0 ≡ suc q → get_or marks q 0 ≢ 0
  pub count : noughts marks k ≡ noughts plain k

-- the places, counted from 1, of those of the first n that are 0, in order; and how many
pub record AreNoughts (l : List ℕ) (n : ℕ) (at : List ℕ) (count : ℕ) : Type 0 where
  pub all : count ≡ noughts l n
  pub each : (j : ℕ) → j < n → get_or l j 0 ≡ 0 → get_or at (noughts l j) 0 ≡ suc j

-- those of the others
abbrev pub AreOthers : List ℕ → ℕ → List ℕ → Type 0
AreOthers l n at = (j : ℕ) → j < n → get_or l j 0 ≢ 0 → get_or at (j - noughts l j) 0 ≡ suc j

-- r numbers from 1 to m
abbrev pub Numbered : ℕ → ℕ → List ℕ → Type 0
Numbered r m at = (a : ℕ) → a < r → (1 ≤ get_or at a 0) × (get_or at a 0 ≤ m)

-- ---- pages that are laid
-- page i of the source as page p, counted from 1; nothing if p is 0
pub record PageLaid (source : List ℕ) (i p : ℕ) (before after : List ℕ) : Type 0 where
  pub laid : (q t : ℕ) → t < 53 → p ≡ suc q → get_or after (q * 53 + t) 0 ≡ get_or source (i * 53 + t) 0
  pub kept : (q t : ℕ) → t < 53 → p ≢ suc q → get_or after (q * 53 + t) 0 ≡ get_or before (q * 53 + t) 0

-- each of the first n pages of the source as the page that `to` says
pub record PagesLaid (n : ℕ) (source to before after : List ℕ) : Type 0 where
  pub laid : (i q t : ℕ) → i < n → t < 53 → get_or to i 0 ≡ suc q → get_or after (q * 53 + t) 0 ≡ get_or source (i * 53 + t) 0
  pub kept : (q t : ℕ) → t < 53 → ((i : ℕ) → i < n → get_or to i 0 ≢ suc q) → get_or after (q * 53 + t) 0 ≡ get_or before (q * 53 + t) 0

-- ---- the equations of the parity pages, for what is missing
abbrev pub ParityRows : ℕ → List ℕ → List ℕ → List (List ℕ) → Type 0
ParityRows r numbers parity rows = (a i : ℕ) → a < r → get_or parity a 0 ≡ suc i → get_or rows a [] ≡ matrix_row (get_or numbers i 0)

-- the entries of the missing columns
abbrev pub ReducedRow : ℕ → List ℕ → List ℕ → List ℕ → Type 0
ReducedRow r missing row short = (c j : ℕ) → c < r → get_or missing c 0 ≡ suc j → get_or short c 0 ≡ get_or row j 0

abbrev pub ReducedRows : ℕ → List ℕ → List (List ℕ) → List (List ℕ) → Type 0
ReducedRows r missing rows square = (a : ℕ) → a < r → ReducedRow r missing (get_or rows a []) (get_or square a [])

-- the n known pages of a message, each times its entry of the row, at octet t
unfoldable pub known_sum : ℕ → List ℕ → List ℕ → List ℕ → ℕ → ℕ
unfolding sum
known_sum n known row message t = sum n (λ c. get_or row (get_or known c 0 - 1) 0 ⊗ get_or message ((get_or known c 0 - 1) * 53 + t) 0)

-- their sum is added
abbrev pub KnownAdded : ℕ → List ℕ → List ℕ → List ℕ → List ℕ → List ℕ → Type 0
KnownAdded n known row message start after = (t : ℕ) → t < 53 → get_or after t 0 ≡ get_or start t 0 ⊕ known_sum n known row message t

abbrev pub ReducedSides : ℕ → ℕ → List ℕ → List ℕ → List (List ℕ) → List ℕ → List ℕ → List ℕ → Type 0
ReducedSides n r known parity rows contents message sides =
    (a i t : ℕ) → a < r → t < 53 → get_or parity a 0 ≡ suc i → get_or sides (a * 53 + t) 0 ≡ get_or contents (i * 53 + t) 0 ⊕ known_sum n known (get_or rows a []) message t

-- the missing pages are laid so that the parity pages are as received; the plain pages, and what is behind the message, are as they were
pub record Completed (numbers plain contents before after : List ℕ) : Type 0 where
  pub known : (i q t : ℕ) → i < length numbers → t < 53 → get_or plain i 0 ≡ suc q → get_or after (q * 53 + t) 0 ≡ get_or before (q * 53 + t) 0
  pub parity : (i t : ℕ) → i < length numbers → t < 53 → get_or plain i 0 ≡ 0
      → dot (length numbers) (matrix_entry (get_or numbers i 0)) (λ j. get_or after (j * 53 + t) 0) ≡ get_or contents (i * 53 + t) 0
  pub behind : (q t : ℕ) → length numbers ≤ q → t < 53 → get_or after (q * 53 + t) 0 ≡ get_or before (q * 53 + t) 0
