-- What `solve` works on is Eq. 16, reduced to the missing plain pages: its square is regular, and what solves it completes the message that has the pages.
-- A page's octet is its row times the message's octets (Entries), a plain page's is the message's own, and only 0 has pages that are all 0 (Exists).
use mathlib.Core.Bool.{Bool, cond}
use mathlib.Core.List.{List, [], ◌∷◌, ◌++◌}
use mathlib.Core.Logic.{◌≢◌, ◌⊎◌, inl, inr}
use mathlib.Core.Path.{◌≡◌, refl, sym, ap, ap₂, ◌∙◌}
use Prim.Native.Nat.{ℕ, zero, suc, ◌+◌, ◌-◌, ◌*◌, ◌/◌, ◌%◌, ◌≤◌, ◌<◌}
use native.Mathlib.Omega.{arith}
use lib.Dec.{eqb, leb}
use lib.ListN.{length, get_or, take, drop, replicate, length-take, length-drop, take-append-drop, get_or-append}
use lib.Seq.{ext_get_or, get_or-take, get_or-drop}
use borrow.Author.Tests.{eq-eqb, ne_eqb, leb-true}
use Rattle.pagecode.specs.Field.{◌⊕◌, ◌⊗◌, Octets}
use Rattle.pagecode.specs.Page.{list_of, column, filled, page_octet}
use Rattle.pagecode.specs.Matrix.{matrix_entry}
use Rattle.pagecode.specs.System.{sum, dot, Regular, Equations}
use Rattle.pagecode.specs.Solve.{Has}
use Rattle.pagecode.specs.Reduction.{plain_number, ArePlain, Spread, noughts, Marked, AreNoughts, AreOthers, PagesLaid, ParityRows, ReducedRows, known_sum, ReducedSides, Completed}
use Rattle.lists.proofs.Tests.{on_bool, cond-holds}
use Rattle.pagecode.proofs.LegalNumbers.{Pages}
use Rattle.pagecode.proofs.Linear.{⊕-assoc, ⊕-self, ⊕-zero}
use Rattle.pagecode.proofs.Laws.{⊗-zero}
use Rattle.pagecode.proofs.Listed.{listed-length, listed-get, listed-cong}
use Rattle.pagecode.proofs.Roots.{parity, codeword-is}
use Rattle.pagecode.proofs.Unique.{filled-length, page-place}
use Rattle.pagecode.proofs.Kernel.{sum-zero}
use Rattle.pagecode.proofs.Entries.{row_get, page-sum}
use Rattle.pagecode.proofs.Exists.{trivial}
use Rattle.pagecode.proofs.Noughts.{noughts-less, found, not_listed, listed, split}
use Rattle.pagecode.proofs.Solution.{AtPlaces, places-has}

take-octets : (n : ℕ) (l : List ℕ) → Octets l → Octets (take n l)
take-octets zero l o i = omega arith
take-octets (suc n) [] o i = omega arith
take-octets (suc n) (x ∷ l) o zero = o 0
take-octets (suc n) (x ∷ l) o (suc i) = take-octets n l (λ j. o (suc j)) i

-- ---- a plain page is the message's own
plain-page : (k q : ℕ) (f : ℕ → ℕ) → k ≤ 32 → q < k → page_octet (list_of k f) (suc q) ≡ f q
unfolding filled
plain-page k q f h l =
    page-place w (suc q) (omega (arith, long)) (omega arith) (omega arith)
    ∙ ap₂ (λ (c : List ℕ) (n : ℕ). get_or c n 0) (codeword-is (filled w)) at
    ∙ get_or-append (filled w) (parity (filled w)) 0 q (omega (arith, filled-length w (omega (arith, long))))
    ∙ get_or-append w (replicate (32 - length w) 0) 0 q (omega (arith, long)) ∙ listed-get k f q l
  where
    w : List ℕ
    w = list_of k f

    long : length w ≡ k
    long = listed-length k f

    at : suc q - 1 ≡ q
    at = omega arith

module _ (p q : ℕ) where
  plain-is : plain_number p ≡ suc q → (p ≡ suc q) × (p ≤ 32)
  unfolding plain_number
  plain-is e = on_bool (leb p 32) (λ b. (sym (ap (λ (c : Bool). cond c p 0) b) ∙ e, leb-true p 32 b)) (λ b. absurd (none (sym (ap (λ (c : Bool). cond c p 0) b) ∙ e)))
    where
      none : ◌≡◌ {A = ℕ} 0 (suc q) → ⊥
      none z = omega arith

module _ (numbers plain : List ℕ) (few : length numbers ≤ 32) (pages : Pages (length numbers) numbers) (are : ArePlain numbers plain) where
  abbrev k : ℕ
  k = length numbers

  -- the number of a plain page, and that it is one of 1 to k
  number : (i q : ℕ) → i < k → get_or plain i 0 ≡ suc q → (get_or numbers i 0 ≡ suc q) × (q < k)
  number i q h e = (n.0, low (pages.legal i h).gap)
    where
      n : (get_or numbers i 0 ≡ suc q) × (get_or numbers i 0 ≤ 32)
      n = plain-is (get_or numbers i 0) q (sym (are i h) ∙ e)

      low : (get_or numbers i 0 ≤ k) ⊎ (33 ≤ get_or numbers i 0) → q < k
      low (inl a) = omega (arith, n.0)
      low (inr b) = omega (arith, n.1)

  pub plain-spread : (m : ℕ) → k ≤ m → Spread k m plain
  plain-spread m g = record { most = λ i h. most' i h (get_or plain i 0) refl; different = λ i j l h d e. different' i j l h e (get_or plain i 0) refl d }
    where
      most' : (i : ℕ) → i < k → (x : ℕ) → get_or plain i 0 ≡ x → get_or plain i 0 ≤ m
      most' i h zero e = omega arith
      most' i h (suc q) e = omega (arith, (number i q h e).1)

      different' : (i j : ℕ) → i < j → j < k → get_or plain i 0 ≡ get_or plain j 0 → (x : ℕ) → get_or plain i 0 ≡ x → get_or plain i 0 ≢ 0 → ⊥
      different' i j l h e zero s d = d s
      different' i j l h e (suc q) s d = pages.different i j l h ((number i q (omega arith) s).0 ∙ sym (number j q h (sym e ∙ s)).0)

  -- as many pages are missing as there are parity pages
  pub as_many : (marks at missing : List ℕ) (r g : ℕ) → Marked k plain marks → AreNoughts plain k at r → AreNoughts marks k missing g → r ≡ g
  as_many marks at missing r g marked received gaps = received.all ∙ sym marked.count ∙ sym gaps.all

  module _ (marks at missing : List ℕ) (r g : ℕ) (rows square : List (List ℕ)) (marked : Marked k plain marks) (received : AreNoughts plain k at r) (gaps : AreNoughts marks k missing g)
      (rows_are : ParityRows r numbers at rows) (reduced : ReducedRows r missing rows square) where
    many : r ≡ g
    many = as_many marks at missing r g marked received gaps

    all : noughts marks k ≡ r
    all = marked.count ∙ sym received.all

    -- the i-th page, if it is a parity page
    module _ (i : ℕ) (h : i < k) (z : get_or plain i 0 ≡ 0) where
      below : noughts plain i < r
      below = omega (arith, noughts-less plain i k h z, received.all)

      row_is : (j : ℕ) → j < k → get_or (get_or rows (noughts plain i) []) j 0 ≡ matrix_entry (get_or numbers i 0) j
      row_is j l = ap (λ (e : List ℕ). get_or e j 0) (rows_are (noughts plain i) i below (received.each i h z)) ∙ row_get (get_or numbers i 0) j (omega arith)

      entry-is : (j : ℕ) → j < k → get_or marks j 0 ≡ 0 → get_or (get_or square (noughts plain i) []) (noughts marks j) 0 ≡ matrix_entry (get_or numbers i 0) j
      entry-is j l e = reduced (noughts plain i) below (noughts marks j) j (omega (arith, noughts-less marks j k l e, gaps.all, many)) (gaps.each j l e) ∙ row_is j l

    -- y at the missing columns, 0 at the known ones
    spread-out : (ℕ → ℕ) → ℕ → ℕ
    spread-out y j = cond (eqb (get_or marks j 0) 0) (y (noughts marks j)) 0

    out-missing : (y : ℕ → ℕ) (j : ℕ) → get_or marks j 0 ≡ 0 → spread-out y j ≡ y (noughts marks j)
    unfolding spread-out
    out-missing y j e = ap (λ (b : Bool). cond b (y (noughts marks j)) 0) (eq-eqb (get_or marks j 0) 0 e)

    out-known : (y : ℕ → ℕ) (j : ℕ) → get_or marks j 0 ≢ 0 → spread-out y j ≡ 0
    unfolding spread-out
    out-known y j d = ap (λ (b : Bool). cond b (y (noughts marks j)) 0) (ne_eqb (get_or marks j 0) 0 d)

    out-lt : (y : ℕ → ℕ) → ((j : ℕ) → y j < 256) → (j : ℕ) → spread-out y j < 256
    unfolding spread-out
    out-lt y o j = cond-holds (λ (x : ℕ). x < 256) (eqb (get_or marks j 0) 0) (o (noughts marks j)) (omega arith)

    -- what the square sends to 0, spread out, every page's row sends to 0
    killed : (y : ℕ → ℕ) → ((j : ℕ) → y j < 256) → ((a : ℕ) → a < r → dot r (λ c. get_or (get_or square a []) c 0) y ≡ 0)
        → (i : ℕ) → i < k → (x : ℕ) → get_or plain i 0 ≡ x → dot k (matrix_entry (get_or numbers i 0)) (spread-out y) ≡ 0
    killed y o s i h zero z =
        split marks (λ j. matrix_entry (get_or numbers i 0) j ⊗ spread-out y j) (λ c. get_or (get_or square (noughts plain i) []) c 0 ⊗ y c) (λ c. 0) k
        (λ j l e. ap₂ ◌⊗◌ (entry-is i h z j l e) (sym (out-missing y j e)))
        (λ j l d. sym (ap (λ (x : ℕ). matrix_entry (get_or numbers i 0) j ⊗ x) (out-known y j d) ∙ ⊗-zero _))
        ∙ ap₂ ◌⊕◌ (ap (λ (n : ℕ). sum n (λ c. get_or (get_or square (noughts plain i) []) c 0 ⊗ y c)) all ∙ s (noughts plain i) (below i h z))
        (sum-zero (k - noughts marks k) (λ c. 0) (λ c l. refl))
        ∙ ⊕-self 0
    killed y o s i h (suc q) e =
        ap (λ (p : ℕ). dot k (matrix_entry p) (spread-out y)) (number i q h e).0 ∙ sym (page-sum (suc q) (spread-out y) (out-lt y o) k few)
        ∙ plain-page k q (spread-out y) few (number i q h e).1 ∙ out-known y q (marked.is i q h e)

    pub regular : Regular r square
    regular = record { only = only' }
      where
        only' : (y : ℕ → ℕ) → ((j : ℕ) → y j < 256) → ((a : ℕ) → a < r → dot r (λ c. get_or (get_or square a []) c 0) y ≡ 0) → (c : ℕ) → c < r → y c ≡ 0
        only' y o s c h =
            let f = found marks k c (omega (arith, gaps.all, many)) in
            ap y (sym f.3) ∙ sym (out-missing y f.0 f.2)
            ∙ trivial k numbers few pages (spread-out y) (out-lt y o) (λ i l. killed y o s i l (get_or plain i 0) refl) f.0 f.1

    module _ (known contents message sides solved after : List ℕ) (others : AreOthers marks k known) (sides-are : ReducedSides (k - r) r known at rows contents message sides) (equations : Equations r square solved sides)
        (laid : PagesLaid r solved missing message after) where
      -- a known page is as it was
      kept : (q t : ℕ) → t < 53 → get_or marks q 0 ≢ 0 → get_or after (q * 53 + t) 0 ≡ get_or message (q * 53 + t) 0
      kept q t b d = laid.kept q t b (λ c h. not_listed marks missing k g gaps q d c (omega (arith, many)))

      parity-page : (i t : ℕ) → i < k → t < 53 → get_or plain i 0 ≡ 0 → dot k (matrix_entry (get_or numbers i 0)) (λ j. get_or after (j * 53 + t) 0) ≡ get_or contents (i * 53 + t) 0
      unfolding known_sum
      parity-page i t h b z =
          split marks (λ j. matrix_entry (get_or numbers i 0) j ⊗ get_or after (j * 53 + t) 0) (λ c. get_or (get_or square a []) c 0 ⊗ get_or solved (c * 53 + t) 0) (λ c. term (get_or known c 0 - 1)) k
          (λ j l e. ap₂ ◌⊗◌ (entry-is i h z j l e) (sym (laid.laid (noughts marks j) j t (omega (arith, noughts-less marks j k l e, gaps.all, many)) b (gaps.each j l e))))
          (λ j l d. ap (λ (x : ℕ). term (x - 1)) (others j l d) ∙ ap term (last j) ∙ ap₂ ◌⊗◌ (row_is i h z j l) (sym (kept j t b d)))
          ∙ ap₂ ◌⊕◌ first (ap (λ (n : ℕ). sum (k - n) (λ c. term (get_or known c 0 - 1))) all)
          ∙ ⊕-assoc _ part part ∙ ap (λ (x : ℕ). get_or contents (i * 53 + t) 0 ⊕ x) (⊕-self part) ∙ ⊕-zero _
        where
          a : ℕ
          a = noughts plain i

          -- a known page's term of the equation, and all of them
          term : ℕ → ℕ
          term j = get_or (get_or rows a []) j 0 ⊗ get_or message (j * 53 + t) 0

          part : ℕ
          part = known_sum (k - r) known (get_or rows a []) message t

          last : (j : ℕ) → suc j - 1 ≡ j
          last j = omega arith

          first : sum (noughts marks k) (λ c. get_or (get_or square a []) c 0 ⊗ get_or solved (c * 53 + t) 0) ≡ get_or contents (i * 53 + t) 0 ⊕ part
          first =
              ap (λ (n : ℕ). sum n (λ c. get_or (get_or square a []) c 0 ⊗ get_or solved (c * 53 + t) 0)) all
              ∙ equations.holds a t (below i h z) b ∙ sides-are a i t (below i h z) b (received.each i h z)

      pub completed : Completed numbers plain contents message after
      completed = record {
        known = λ i q t h b e. kept q t b (marked.is i q h e);
        parity = parity-page;
        behind = λ q t l b. laid.kept q t b (λ c h e. let f = listed marks missing k g gaps c (omega (arith, many)) in omega (arith, f.1, f.4, e));
      }

  -- no page is missing
  pub none-missing : (contents message at : List ℕ) (r : ℕ) → AreNoughts plain k at r → r ≡ 0 → Completed numbers plain contents message message
  none-missing contents message at r s z = record {
    known = λ i q t h b e. refl;
    parity = λ i t h b e. absurd (omega (arith, noughts-less plain i k h e, s.all));
    behind = λ q t l b. refl;
  }

  module _ (contents before message after : List ℕ) (octets : Octets after) (long : length contents ≡ k * 53) (room : length before ≡ 1696) (same : length after ≡ 1696)
      (laid : PagesLaid k contents plain before message) (completed : Completed numbers plain contents message after) where
    whole : List ℕ
    whole = take (k * 53) after

    whole_length : length whole ≡ k * 53
    unfolding whole
    whole_length = omega (arith, length-take (k * 53) after)

    whole-octets : Octets whole
    unfolding whole
    whole-octets i = take-octets (k * 53) after octets i

    column-is : (t : ℕ) → t < 53 → column k t whole ≡ list_of k (λ i. get_or after (i * 53 + t) 0)
    unfolding column whole
    column-is t b = listed-cong k (λ i. get_or whole (i * 53 + t) 0) (λ i. get_or after (i * 53 + t) 0) (λ i h. get_or-take (k * 53) after (i * 53 + t) 0 (omega arith))

    places : AtPlaces numbers contents whole
    places i t h b = ap (λ (c : List ℕ). page_octet c (get_or numbers i 0)) (column-is t b) ∙ pick (get_or plain i 0) refl
      where
        pick : (x : ℕ) → get_or plain i 0 ≡ x → page_octet (list_of k (λ j. get_or after (j * 53 + t) 0)) (get_or numbers i 0) ≡ get_or contents (i * 53 + t) 0
        pick zero z = page-sum (get_or numbers i 0) (λ j. get_or after (j * 53 + t) 0) (λ j. octets (j * 53 + t)) k few ∙ completed.parity i t h b z
        pick (suc q) e =
            ap (page_octet (list_of k (λ j. get_or after (j * 53 + t) 0))) (number i q h e).0 ∙ plain-page k q (λ j. get_or after (j * 53 + t) 0) few (number i q h e).1
            ∙ completed.known i q t h b e ∙ laid.laid i q t h b e

    rest : drop (k * 53) after ≡ drop (k * 53) before
    rest = ext_get_or 0 (drop (k * 53) after) (drop (k * 53) before) (omega (arith, length-drop (k * 53) after, length-drop (k * 53) before)) (λ n h. get_or-drop (k * 53) after n 0 ∙ at n ∙ sym (get_or-drop (k * 53) before n 0))
      where
        at : (n : ℕ) → get_or after (k * 53 + n) 0 ≡ get_or before (k * 53 + n) 0
        at n =
            ap (λ (m : ℕ). get_or after m 0) place ∙ completed.behind q t (omega arith) (omega arith)
            ∙ laid.kept q t (omega arith) (λ i h e. omega (arith, (plain-spread k (omega arith)).most i h))
            ∙ ap (λ (m : ℕ). get_or before m 0) (sym place)
          where
            q : ℕ
            q = k + n / 53

            t : ℕ
            t = n % 53

            place : k * 53 + n ≡ q * 53 + t
            place = omega arith

    pub solution : (m : List ℕ) × Has numbers contents m × (after ≡ m ++ drop (length m) before)
    unfolding whole
    solution = (
      whole,
      places-has numbers contents whole long whole_length whole-octets places,
      sym (take-append-drop (k * 53) after) ∙ ap (λ (l : List ℕ). take (k * 53) after ++ l) (rest ∙ ap (λ (n : ℕ). drop n before) (sym whole_length)),
    )
