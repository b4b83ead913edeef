-- Encoding a page: 01, The page code, last paragraph.
-- Leans on the page.
use Rattle.std.specs.Prelude.{Bool, ◌&&◌, List, ◌≡◌, ℕ, ◌*◌, ◌/◌, eqb, leb, ltb, length, Ok}
use Rattle.refusal.specs.declared.Refusal.TheVariants.{Length, Out, Status, Id, PageNumber}
use Rattle.pagecode.specs.Answer.{Answer, check, when_good}
use Rattle.pagecode.specs.Page.{legal, encoded_page}

-- n octets are k pages: "53k octets (k 1 to 32)"
unfoldable pub are_pages : ℕ → ℕ → Bool
are_pages k n = leb 1 k && (leb k 32 && eqb n (k * 53))

-- "Checks: LENGTH, OUT, STATUS, ID, PAGENUMBER", for a buffer of `room` octets
unfoldable pub encode_answer : List ℕ → ℕ → ℕ → ℕ → ℕ → Answer
unfolding are_pages legal
encode_answer m status number page room =
    check (are_pages (length m / 53) (length m)) Length
    (check (eqb room 56) Out
    (check (ltb status 2) Status
    (check (ltb number 32) Id
    (check (legal (length m / 53) page) PageNumber
    (Ok tt)))))

-- the contract of `encode_page`, whose buffer holds `before`, and then `after`
pub record Encoded (m : List ℕ) (status number page : ℕ) (before : List ℕ) (answer : Answer) (after : List ℕ) : Type 0 where
  pub answered : answer ≡ encode_answer m status number page (length before)
  pub buffer : after ≡ when_good answer (encoded_page m status number page) before
