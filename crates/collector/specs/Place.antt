-- Places and the pages that they hold: 01, The collector, first paragraph.
-- Leans on nothing.
use Rattle.std.specs.Prelude.{ℕ, ◌+◌, Bool, true, false, ◌&&◌, ◌||◌, cond, List, [], ◌∷◌, ◌++◌, leb, eqb}
use Rattle.std.proofs.Math.Option.{Option, none, some}

-- "a key (status, number, size)"
pub record Key : Type 0 where
  pub status : ℕ
  pub number : ℕ
  pub size : ℕ

-- a page held: its number and its 53 octets of content
pub record Held : Type 0 where
  pub number : ℕ
  pub content : List ℕ

-- "A place is free, open, or done." "An open place has a key .., the second of its first page, and its different pages. A done place keeps key and second, no pages."
pub data Place : Type 0 where
  free : Place
  waiting : Key → ℕ → List Held → Place
  done : Key → ℕ → Place

unfoldable pub same_key : Key → Key → Bool
same_key a b = eqb a.status b.status && (eqb a.number b.number && eqb a.size b.size)

abbrev pub has_key : Key → Place → Bool
has_key k free = false
has_key k (waiting j first pages) = same_key k j
has_key k (done j first) = same_key k j

abbrev pub is_free : Place → Bool
is_free free = true
is_free (waiting k first pages) = false
is_free (done k first) = false

-- the place that has a key; `free` if none has
abbrev pub find : Key → List Place → Place
find k [] = free
find k (p ∷ ps) = cond (has_key k p) p (find k ps)

abbrev pub any_free : List Place → Bool
any_free [] = false
any_free (p ∷ ps) = is_free p || any_free ps

-- the lowest place of which a test holds, replaced
abbrev pub replace : (Place → Bool) → Place → List Place → List Place
replace is new [] = []
replace is new (p ∷ ps) = cond (is p) (new ∷ ps) (p ∷ replace is new ps)

-- "every place whose first second is a time-out or more ago is freed"
unfoldable pub over : ℕ → ℕ → ℕ → Bool
over timeout t first = leb (first + timeout) t

abbrev pub expire : ℕ → ℕ → Place → Place
expire timeout t free = free
expire timeout t (waiting k first pages) = cond (over timeout t first) free (waiting k first pages)
expire timeout t (done k first) = cond (over timeout t first) free (done k first)

-- the pages that a place holds, and the content held under a number
abbrev pub pages_in : Place → List Held
pages_in free = []
pages_in (waiting k first pages) = pages
pages_in (done k first) = []

abbrev pub lookup : ℕ → List Held → Option (List ℕ)
lookup n [] = none
lookup n (p ∷ ps) = cond (eqb n p.number) (some p.content) (lookup n ps)

-- the numbers of pages, and their contents one after another
abbrev pub numbers : List Held → List ℕ
numbers [] = []
numbers (p ∷ ps) = p.number ∷ numbers ps

abbrev pub contents : List Held → List ℕ
contents [] = []
contents (p ∷ ps) = p.content ++ contents ps

-- a fact of the second of a place's first page
abbrev pub FirstIs : (ℕ → Type 0) → Place → Type 0
FirstIs P free = Unit {0}
FirstIs P (waiting k first pages) = P first
FirstIs P (done k first) = P first
