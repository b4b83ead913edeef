-- The generator matrix: ICD 6.2.3, Eq. 13 to 15. It is how the code works the code words out: no public contract cites it.
-- Leans on the code.
use Rattle.std.specs.Prelude.{cond, List, ℕ, ◌-◌, ◌<◌, eqb, get_or}
use Rattle.pagecode.specs.Field.{◌⊕◌, power, Inverse}
use Rattle.pagecode.specs.Page.{list_of, page_octet}

-- the information word of 32 octets that is 1 at place j and 0 elsewhere
unfoldable pub unit_word : ℕ → List ℕ
unfolding list_of
unit_word j = list_of 32 (λ i. cond (eqb i j) 1 0)

-- Eq. 15: row p - 1, column j, is the octet of page p for that word
unfoldable pub matrix_entry : ℕ → ℕ → ℕ
unfolding page_octet unit_word
matrix_entry p j = page_octet (unit_word j) p

unfoldable pub matrix_row : ℕ → List ℕ
unfolding list_of matrix_entry
matrix_row p = list_of 32 (matrix_entry p)

-- the inverses of y + α^(254-j), j from 0 to 31, of which the code makes a row of the dense part
abbrev pub AreInverses : ℕ → List ℕ → Type 0
AreInverses y row = (j : ℕ) → j < 32 → Inverse (y ⊕ power (254 - j)) (get_or row j 0)
