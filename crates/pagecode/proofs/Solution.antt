-- The unique solution. At each of the 53 places the code has exactly one column with the given octets (Unique, Exists),
-- and a message is its 53 columns.
use mathlib.Core.Bool.{true}
use mathlib.Core.List.{List, [], ◌∷◌, ◌++◌}
use mathlib.Core.Path.{◌≡◌, sym, ap, ap₂, ◌∙◌, subst}
use Prim.Native.Nat.{ℕ, zero, suc, ◌+◌, ◌*◌, ◌/◌, ◌%◌, ◌≤◌, ◌<◌}
use native.Mathlib.Omega.{arith}
use lib.ListN.{length, get_or, length-append, get_or-append}
use lib.Seq.{ext_get_or, get_or-append-add}
use Rattle.pagecode.specs.Field.{Octets}
use Rattle.pagecode.specs.Page.{list_of, column, page_octet, content}
use Rattle.pagecode.specs.Encode.{are_pages}
use Rattle.pagecode.specs.Solve.{contents_at, Has, all_legal, different, UniqueSolution}
use Rattle.pagecode.proofs.Listed.{listed-length, listed-get, listed-octets, listed-cong, listed-list}
use Rattle.pagecode.proofs.LegalNumbers.{Pages, pages-of, few-pages, whole-pages}
use Rattle.pagecode.proofs.Unique.{unique}
use Rattle.pagecode.proofs.Exists.{exists}
use Rattle.pagecode.proofs.Content.{content-length, content-at}

-- ---- contents, octet by octet
contents-length : (k : ℕ) (m ps : List ℕ) → length (contents_at k m ps) ≡ length ps * 53
unfolding contents_at
contents-length k m [] = omega arith
contents-length k m (p ∷ ps) = omega (arith, length-append (content k m p) (contents_at k m ps), content-length k m p, contents-length k m ps)

contents-at : (k : ℕ) (m ps : List ℕ) (r j : ℕ) → r < length ps → j < 53 → get_or (contents_at k m ps) (r * 53 + j) 0 ≡ page_octet (column k j m) (get_or ps r 0)
unfolding contents_at
contents-at k m [] r j h l = absurd (omega arith)
contents-at k m (p ∷ ps) zero j h l =
    ap (λ (i : ℕ). get_or (content k m p ++ contents_at k m ps) i 0) first
    ∙ get_or-append (content k m p) (contents_at k m ps) 0 j (omega (arith, content-length k m p)) ∙ content-at k m p j l
  where
    first : 0 * 53 + j ≡ j
    first = omega arith
contents-at k m (p ∷ ps) (suc r) j h l =
    ap (λ (i : ℕ). get_or (content k m p ++ contents_at k m ps) i 0) behind
    ∙ get_or-append-add (content k m p) (contents_at k m ps) (r * 53 + j) 0 ∙ contents-at k m ps r j (omega arith) l
  where
    behind : suc r * 53 + j ≡ length (content k m p) + (r * 53 + j)
    behind = omega (arith, content-length k m p)

-- two lists of n·53 octets are equal if they are at every page and place
by-places : (n : ℕ) (a b : List ℕ) → length a ≡ n * 53 → length b ≡ n * 53 → ((r j : ℕ) → r < n → j < 53 → get_or a (r * 53 + j) 0 ≡ get_or b (r * 53 + j) 0) → a ≡ b
by-places n a b la lb e = ext_get_or 0 a b (la ∙ sym lb) at
  where
    whole : (i : ℕ) → i / 53 * 53 + i % 53 ≡ i
    whole i = omega arith

    at : (i : ℕ) → i < length a → get_or a i 0 ≡ get_or b i 0
    at i h = subst (λ (n : ℕ). get_or a n 0 ≡ get_or b n 0) (whole i) (e (i / 53) (i % 53) (omega arith) (omega arith))

-- ---- a message has these contents exactly if each of its columns has them at that place
abbrev pub AtPlaces : List ℕ → List ℕ → List ℕ → Type 0
AtPlaces ps contents m = (r j : ℕ) → r < length ps → j < 53 → page_octet (column (length ps) j m) (get_or ps r 0) ≡ get_or contents (r * 53 + j) 0

pub has-places : (ps contents m : List ℕ) → Has ps contents m → AtPlaces ps contents m
has-places ps contents m h r j l s = sym (contents-at (length ps) m ps r j l s) ∙ ap (λ (c : List ℕ). get_or c (r * 53 + j) 0) h.pages

pub places-has : (ps contents m : List ℕ) → length contents ≡ length ps * 53 → length m ≡ length ps * 53 → Octets m → AtPlaces ps contents m → Has ps contents m
places-has ps contents m lc lm o e = record {
  long = lm;
  octets = o;
  pages = by-places (length ps) (contents_at (length ps) m ps) contents (contents-length (length ps) m ps) lc (λ r j h l. contents-at (length ps) m ps r j h l ∙ e r j h l);
}

column-length : (k j : ℕ) (m : List ℕ) → length (column k j m) ≡ k
unfolding column
column-length k j m = listed-length k (λ i. get_or m (i * 53 + j) 0)

column-at : (k j : ℕ) (m : List ℕ) (i : ℕ) → i < k → get_or (column k j m) i 0 ≡ get_or m (i * 53 + j) 0
unfolding column
column-at k j m i h = listed-get k (λ i. get_or m (i * 53 + j) 0) i h

pub column-octets : (k j : ℕ) (m : List ℕ) → Octets m → Octets (column k j m)
unfolding column
column-octets k j m o = listed-octets k (λ i. get_or m (i * 53 + j) 0) (λ i h. o (i * 53 + j))

module _ (ps contents : List ℕ) (few : length ps ≤ 32) (pages : Pages (length ps) ps) where
  -- uniqueness
  pub one-message : (m n : List ℕ) → Has ps contents m → Has ps contents n → m ≡ n
  one-message m n a b = by-places k m n a.long b.long (λ r j h l. sym (column-at k j m r h) ∙ ap (λ (c : List ℕ). get_or c r 0) (columns j l) ∙ column-at k j n r h)
    where
      k : ℕ
      k = length ps

      columns : (j : ℕ) → j < 53 → column k j m ≡ column k j n
      columns j l =
          unique (column k j m) (column k j n) ps (column-octets k j m a.octets) (column-octets k j n b.octets) (omega (arith, column-length k j m))
          (column-length k j n ∙ sym (column-length k j m)) (subst (λ (x : ℕ). Pages x ps) (sym (column-length k j m)) pages)
          (λ r h. has-places ps contents m a r j (omega (arith, column-length k j m)) l ∙ sym (has-places ps contents n b r j (omega (arith, column-length k j m)) l))

  module _ (octets : Octets contents) (long : length contents ≡ length ps * 53) where
    -- the column at place j
    solved : (j : ℕ) → (m : List ℕ) × (length m ≡ length ps) × Octets m × ((r : ℕ) → r < length ps → page_octet m (get_or ps r 0) ≡ get_or contents (r * 53 + j) 0)
    solved j = exists (length ps) ps few pages (λ r. get_or contents (r * 53 + j) 0) (λ r. octets (r * 53 + j))

    joined : List ℕ
    joined = list_of (length ps * 53) (λ n. get_or (solved (n % 53)).0 (n / 53) 0)

    joined-column : (j : ℕ) → j < 53 → column (length ps) j joined ≡ (solved j).0
    unfolding column joined
    joined-column j l =
        listed-cong (length ps) (λ i. get_or joined (i * 53 + j) 0) (λ i. get_or (solved j).0 i 0)
        (λ i h. listed-get (length ps * 53) (λ n. get_or (solved (n % 53)).0 (n / 53) 0) (i * 53 + j) (omega arith)
        ∙ ap₂ (λ (a b : ℕ). get_or (solved a).0 b 0) (place i) (page i))
        ∙ ap (λ (n : ℕ). list_of n (λ i. get_or (solved j).0 i 0)) (sym (solved j).1) ∙ listed-list (solved j).0
      where
        place : (i : ℕ) → (i * 53 + j) % 53 ≡ j
        place i = omega arith

        page : (i : ℕ) → (i * 53 + j) / 53 ≡ i
        page i = omega arith

    -- existence
    pub some-message : (m : List ℕ) × Has ps contents m
    unfolding joined
    some-message = (
      joined,
      places-has ps contents joined long (listed-length (length ps * 53) _)
          (listed-octets (length ps * 53) (λ n. get_or (solved (n % 53)).0 (n / 53) 0) (λ n h. (solved (n % 53)).2 (n / 53)))
          (λ r j h l. ap (λ (c : List ℕ). page_octet c (get_or ps r 0)) (joined-column j l) ∙ (solved j).3 r h),
    )

pub unique_solution : (numbers contents : List ℕ) → Octets contents → are_pages (length numbers) (length contents) ≡ true → all_legal (length numbers) numbers ≡ true → different numbers ≡ true
    → UniqueSolution numbers contents
unique_solution numbers contents octets p l d = record {
  message = some.0;
  has = some.1;
  only = λ m h. one-message numbers contents few pages m some.0 h some.1;
}
  where
    few : length numbers ≤ 32
    few = few-pages (length numbers) (length contents) p

    pages : Pages (length numbers) numbers
    pages = pages-of numbers few l d

    some : (m : List ℕ) × Has numbers contents m
    some = some-message numbers contents few pages octets (whole-pages (length numbers) (length contents) p)
