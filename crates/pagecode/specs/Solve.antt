-- Solving pages, and the unique solution: 01, The page code, third paragraph.
-- Leans on the page.
use Rattle.std.specs.Prelude.{Bool, true, false, not, ◌&&◌, ◌||◌, List, [], ◌∷◌, ◌++◌, ◌≡◌, ℕ, ◌*◌, eqb, length, drop, Ok, Err}
use Rattle.refusal.specs.declared.Refusal.TheVariants.{Length, Out, PageNumber, Repeat}
use Rattle.pagecode.specs.Answer.{Answer, check}
use Rattle.pagecode.specs.Field.{Octets}
use Rattle.pagecode.specs.Page.{legal, content}
use Rattle.pagecode.specs.Encode.{are_pages}

-- the contents of a message's pages with these numbers, one after another
unfoldable pub contents_at : ℕ → List ℕ → List ℕ → List ℕ
unfolding content
contents_at k m [] = []
contents_at k m (p ∷ ps) = content k m p ++ contents_at k m ps

-- m is a message of k pages, k being how many numbers there are, and encoding it at these numbers gives these contents
pub record Has (numbers contents m : List ℕ) : Type 0 where
  pub long : length m ≡ length numbers * 53
  pub octets : Octets m
  pub pages : contents_at (length numbers) m numbers ≡ contents

-- every number is legal for size k
unfoldable pub all_legal : ℕ → List ℕ → Bool
unfolding legal
all_legal k [] = true
all_legal k (p ∷ ps) = legal k p && all_legal k ps

unfoldable pub is_in : ℕ → List ℕ → Bool
is_in p [] = false
is_in p (q ∷ qs) = eqb p q || is_in p qs

-- no number stands twice
unfoldable pub different : List ℕ → Bool
unfolding is_in
different [] = true
different (p ∷ ps) = not (is_in p ps) && different ps

-- "For k pages with different legal numbers, with any contents, there is exactly one message of k pages that has them; encoding it at those numbers gives those contents again."
pub record UniqueSolution (numbers contents : List ℕ) : Type 0 where
  pub message : List ℕ
  pub has : Has numbers contents message
  pub only : (m : List ℕ) → Has numbers contents m → m ≡ message

-- "It refuses, in this order: LENGTH (not 53k content octets and k numbers, k 1 to 32), OUT (not 1,696), PAGENUMBER, REPEAT (a number twice)"
unfoldable pub solve_answer : List ℕ → List ℕ → ℕ → Answer
unfolding are_pages all_legal different
solve_answer contents numbers room =
    check (are_pages (length numbers) (length contents)) Length
    (check (eqb room 1696) Out
    (check (all_legal (length numbers) numbers) PageNumber
    (check (different numbers) Repeat
    (Ok tt))))

-- the buffer then holds the message that has these pages; "octets past 53k are never touched"
abbrev pub SolvedBuffer : Answer → List ℕ → List ℕ → List ℕ → List ℕ → Type 0
SolvedBuffer (Ok _) contents numbers before after = (m : List ℕ) × Has numbers contents m × (after ≡ m ++ drop (length m) before)
SolvedBuffer (Err r) contents numbers before after = after ≡ before

-- the contract of `solve`, whose buffer holds `before`, and then `after`
pub record Solved (contents numbers before : List ℕ) (answer : Answer) (after : List ℕ) : Type 0 where
  pub answered : answer ≡ solve_answer contents numbers (length before)
  pub buffer : SolvedBuffer answer contents numbers before after
