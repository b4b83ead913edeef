-- The answer to several pages. Only private contracts cite this file.
-- Leans on encoding a page.
use Rattle.std.specs.Prelude.{ℕ, List, [], ◌∷◌, Ok, Err}
use Rattle.pagecode.specs.Answer.{Answer}
use Rattle.pagecode.specs.Encode.{encode_answer}

-- an answer, or the next one if it is good
abbrev pub or_else : Answer → Answer → Answer
or_else (Ok done) next = next
or_else (Err why) next = Err why

-- the first refusal of pages of these numbers, if there is one
abbrev pub pages_answer : List ℕ → ℕ → ℕ → List ℕ → Answer
pages_answer m status number [] = Ok tt
pages_answer m status number (p ∷ ps) = or_else (encode_answer m status number p 56) (pages_answer m status number ps)
