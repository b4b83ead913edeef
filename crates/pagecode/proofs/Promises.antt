-- What the crates above may use of this one: encoding, and the unique solution. Each law stands under its sentence of document 01.
use mathlib.Core.Bool.{Bool, true, false, false≢true}
use mathlib.Core.List.{List, [], ◌∷◌, ◌++◌, map}
use mathlib.Core.Path.{◌≡◌, refl, sym, ap, ap₂, ◌∙◌, subst}
use Prim.Native.Nat.{ℕ, suc, ◌+◌, ◌-◌, ◌*◌, ◌/◌, ◌%◌, ◌≤◌, ◌<◌}
use native.Mathlib.Nat.{mod-lt, mod-eq_of_lt, zero-lt-suc}
use native.Mathlib.Omega.{arith}
use lib.ListN.{length, get_or, drop, get_or-map}
use borrow.Author.Tests.{ne_eqb}
use Rattle.std.specs.Prelude.{Ok}
use Rattle.pagecode.specs.Field.{Octets}
use Rattle.pagecode.specs.Page.{column, page_octet, content, header_bits, header_octets, first_bits, header_of, is_dummy, encoded_page}
use Rattle.pagecode.specs.Encode.{are_pages}
use Rattle.pagecode.specs.Solve.{Has, all_legal, different, UniqueSolution, Solved}
use Rattle.pagecode.proofs.Listed.{listed-octets}
use Rattle.pagecode.proofs.Unique.{page-lt}
use Rattle.pagecode.proofs.LegalNumbers.{pages-of, few-pages, whole-pages}
use Rattle.pagecode.proofs.Content as contents
use Rattle.pagecode.proofs.Solution as solution

-- ---- "A HAS page is 56 octets: 24 header bits, 53 octets of content"
pub content-length : (k : ℕ) (m : List ℕ) (p : ℕ) → length (content k m p) ≡ 53
content-length = contents.content-length

pub encoded-length : (m : List ℕ) (status number p : ℕ) → length (encoded_page m status number p) ≡ 56
unfolding encoded_page header_octets
encoded-length m status number p = omega (arith, content-length (length m / 53) m p)

pub encoded-content : (m : List ℕ) (status number p : ℕ) → drop 3 (encoded_page m status number p) ≡ content (length m / 53) m p
unfolding encoded_page header_octets
encoded-content m status number p = refl

-- ---- "Header: status 2, reserved 2, type 2, message number 5, size field 5 (size k = field + 1), page number 8"
module _ (m : List ℕ) (status number p : ℕ) (hs : status < 4) (hn : number < 32) (low : 1 ≤ length m / 53) (high : length m / 53 ≤ 32) (hp : p < 256) where
  page : List ℕ
  page = encoded_page m status number p

  bits : first_bits page ≡ ((status * 4 * 4 + 1) * 32 + number) * 32 * 256 + (length m / 53 - 1) * 256 + p
  unfolding page encoded_page header_octets header_bits first_bits
  bits = omega arith

  pub encoded-header : header_of (encoded_page m status number p) ≡ record { status = status; reserved = 0; kind = 1; number = number; size = length m / 53; page = p }
  unfolding page header_of
  encoded-header =
      let first : (header_of page).status ≡ status = omega (arith, bits) in
      let second : (header_of page).reserved ≡ 0 = omega (arith, bits) in
      let third : (header_of page).kind ≡ 1 = omega (arith, bits) in
      let fourth : (header_of page).number ≡ number = omega (arith, bits) in
      let fifth : (header_of page).size ≡ length m / 53 = omega (arith, bits) in
      let sixth : (header_of page).page ≡ p = omega (arith, bits) in
      λ i. record { status = first i; reserved = second i; kind = third i; number = fourth i; size = fifth i; page = sixth i }

  -- "Header AF3BC3 is a dummy page": its status is 2
  pub encoded-no-dummy : status < 2 → is_dummy (encoded_page m status number p) ≡ false
  unfolding page is_dummy
  encoded-no-dummy h = ne_eqb (first_bits page) 0xAF3BC3 (omega (arith, bits))

-- ---- octets are encoded to octets
pub content-octets : (k : ℕ) (m : List ℕ) (p : ℕ) → Octets m → Octets (content k m p)
unfolding content
content-octets k m p o = listed-octets 53 (λ j. page_octet (column k j m) p) (λ j h. page-lt (column k j m) p (solution.column-octets k j m o))

-- ---- "For k pages with different legal numbers, with any contents, there is exactly one message of k pages that has them"
pub unique_solution : (numbers contents : List ℕ) → Octets contents → are_pages (length numbers) (length contents) ≡ true → all_legal (length numbers) numbers ≡ true → different numbers ≡ true
    → UniqueSolution numbers contents
unique_solution = solution.unique_solution

-- what must hold of numbers and contents: the tests of `solve`, the buffer aside
pub record Solvable (numbers contents : List ℕ) : Type 0 where
  pub octets : Octets contents
  pub pages : are_pages (length numbers) (length contents) ≡ true
  pub legal : all_legal (length numbers) numbers ≡ true
  pub apart : different numbers ≡ true

-- that message, as a function of numbers and contents; no octets where there is none
octets_of : List ℕ → List ℕ
octets_of l = map (λ x. x % 256) l

octets-octets : (l : List ℕ) → Octets (octets_of l)
unfolding octets_of
octets-octets l i = subst (λ (x : ℕ). x < 256) (sym (get_or-map (λ (x : ℕ). x % 256) l i 0)) (mod-lt (get_or l i 0) (zero-lt-suc 255))

octets-same : (l : List ℕ) → Octets l → octets_of l ≡ l
unfolding octets_of
octets-same [] o = refl
octets-same (x ∷ l) o = ap₂ (λ (y : ℕ) (r : List ℕ). y ∷ r) (mod-eq_of_lt (o 0)) (octets-same l (λ i. o (suc i)))

picked : (numbers contents : List ℕ) (a b c : Bool) → are_pages (length numbers) (length (octets_of contents)) ≡ a → all_legal (length numbers) numbers ≡ b → different numbers ≡ c → List ℕ
picked numbers contents true true true p l d = (unique_solution numbers (octets_of contents) (octets-octets contents) p l d).message
picked numbers contents true true false p l d = []
picked numbers contents true false c p l d = []
picked numbers contents false b c p l d = []

picked-has : (numbers contents : List ℕ) (a b c : Bool) (p : are_pages (length numbers) (length (octets_of contents)) ≡ a) (l : all_legal (length numbers) numbers ≡ b) (d : different numbers ≡ c)
    → a ≡ true → b ≡ true → c ≡ true → Has numbers (octets_of contents) (picked numbers contents a b c p l d)
unfolding picked
picked-has numbers contents true true true p l d x y z = (unique_solution numbers (octets_of contents) (octets-octets contents) p l d).has
picked-has numbers contents true true false p l d x y z = absurd (false≢true z)
picked-has numbers contents true false c p l d x y z = absurd (false≢true y)
picked-has numbers contents false b c p l d x y z = absurd (false≢true x)

pub solution_of : List ℕ → List ℕ → List ℕ
solution_of numbers contents = picked numbers contents (are_pages (length numbers) (length (octets_of contents))) (all_legal (length numbers) numbers) (different numbers) refl refl refl

-- "encoding it at those numbers gives those contents again"
pub solution-has : (numbers contents : List ℕ) → Solvable numbers contents → Has numbers contents (solution_of numbers contents)
unfolding solution_of
solution-has numbers contents s =
    subst (λ (l : List ℕ). Has numbers l (solution_of numbers contents)) (octets-same contents s.octets)
    (picked-has numbers contents (are_pages (length numbers) (length (octets_of contents))) (all_legal (length numbers) numbers) (different numbers) refl refl refl
    (ap (λ (l : List ℕ). are_pages (length numbers) (length l)) (octets-same contents s.octets) ∙ s.pages) s.legal s.apart)

-- there is no other: k pages of a message with different legal numbers are solved to that message
pub solution-only : (numbers contents m : List ℕ) → Solvable numbers contents → Has numbers contents m → solution_of numbers contents ≡ m
solution-only numbers contents m s h =
    let few : length numbers ≤ 32 = few-pages (length numbers) (length contents) s.pages in
    solution.one-message numbers contents few (pages-of numbers few s.legal s.apart) (solution_of numbers contents) m (solution-has numbers contents s) h

-- what `solve` leaves in the buffer is that message, and what stood behind it
pub solved-buffer : (contents numbers before after : List ℕ) → Solvable numbers contents → Solved contents numbers before (Ok tt) after
    → after ≡ solution_of numbers contents ++ drop (length contents) before
solved-buffer contents numbers before after s x =
    let m = x.buffer.0 in
    let long : length m ≡ length contents = x.buffer.1.long ∙ sym (whole-pages (length numbers) (length contents) s.pages) in
    x.buffer.2 ∙ ap₂ (λ (l : List ℕ) (n : ℕ). l ++ drop n before) (sym (solution-only numbers contents m s x.buffer.1)) long
