-- The validity intervals: 01, Message type 1; ICD Table 23.
-- Leans on nothing.
use Rattle.std.specs.Prelude.{ℕ, cond, List, [], ◌∷◌, ltb, get_or, Result, Ok, Err}
use Rattle.refusal.specs.declared.Refusal.{Refusal}
use Rattle.refusal.specs.declared.Refusal.TheVariants.{Validity}

-- "5, 10, 15, 20, 30, 60, 90, 120, 180, 240, 300, 600, 900, 1800, 3600 s"
abbrev pub table23 : List ℕ
table23 = 5 ∷ 10 ∷ 15 ∷ 20 ∷ 30 ∷ 60 ∷ 90 ∷ 120 ∷ 180 ∷ 240 ∷ 300 ∷ 600 ∷ 900 ∷ 1800 ∷ 3600 ∷ []

-- "index 15 is reserved"
unfoldable pub interval_seconds : ℕ → Result ℕ Refusal
interval_seconds index = cond (ltb index 15) (Ok (get_or table23 index 0)) (Err Validity)
