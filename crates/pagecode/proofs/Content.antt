-- A page's content is the sum of the message's pages, each times its entry (ICD Eq. 13); a written page begins with its header's octets.
-- An octet of the content is such a sum, place by place, and one page more is one term more.
use mathlib.Core.Path.{◌≡◌, sym, ap, ap₂, ◌∙◌}
use mathlib.Core.List.{List, [], ◌∷◌, ◌++◌, append-nil}
use Prim.Native.Nat.{ℕ, suc, ◌+◌, ◌-◌, ◌*◌, ◌/◌, ◌%◌, ◌≤◌, ◌<◌}
use native.Mathlib.Numerals.{add-one}
use native.Mathlib.Omega.{arith}
use lib.ListN.{length, get_or, set, replicate, length-replicate, get_or-replicate, drop_of_length-le}
use lib.Seq.{ext_get_or, take_all, paste, paste-suc}
use Rattle.pagecode.specs.Field.{◌⊕◌, ◌⊗◌, Octets}
use Rattle.pagecode.specs.Page.{column, page_octet, content, Header, header_bits, header_octets}
use Rattle.pagecode.specs.Matrix.{matrix_entry, matrix_row}
use Rattle.pagecode.specs.System.{sum}
use Rattle.pagecode.proofs.Listed.{listed-length, listed-get}
use Rattle.pagecode.proofs.Entries.{row_get, page-sum}
use Rattle.pagecode.proofs.Pieces.{piece, piece-length, piece-get}
use Rattle.pagecode.proofs.Multiples.{more, more-get, more-length}

-- ---- the content of page p
pub content-length : (k : ℕ) (m : List ℕ) (p : ℕ) → length (content k m p) ≡ 53
unfolding content
content-length k m p = listed-length 53 (λ j. page_octet (column k j m) p)

pub content-at : (k : ℕ) (m : List ℕ) (p j : ℕ) → j < 53 → get_or (content k m p) j 0 ≡ page_octet (column k j m) p
unfolding content
content-at k m p j h = listed-get 53 (λ j. page_octet (column k j m) p) j h

abbrev term : List ℕ → ℕ → ℕ → ℕ → ℕ
term m p j i = matrix_entry p i ⊗ get_or m (i * 53 + j) 0

module _ (m : List ℕ) (octets : Octets m) (p : ℕ) where
  content-get : (k j : ℕ) → k ≤ 32 → j < 53 → get_or (content k m p) j 0 ≡ sum k (term m p j)
  unfolding column
  content-get k j h l = content-at k m p j l ∙ page-sum p (λ i. get_or m (i * 53 + j) 0) (λ i. octets (i * 53 + j)) k h

  content-is : (k : ℕ) (c : List ℕ) → k ≤ 32 → length c ≡ 53 → ((j : ℕ) → j < 53 → get_or c j 0 ≡ sum k (term m p j)) → c ≡ content k m p
  content-is k c h e g = ext_get_or 0 c (content k m p) (e ∙ sym (content-length k m p)) (λ j b. g j (omega arith) ∙ sym (content-get k j h (omega arith)))

  pub content-none : replicate 53 0 ≡ content 0 m p
  unfolding sum
  content-none = content-is 0 (replicate 53 0) (omega arith) (length-replicate {A = ℕ} 53 0) (λ j b. get_or-replicate {A = ℕ} 53 j 0 0 b)

  pub content-next : (c row : List ℕ) (i : ℕ) → i < 32 → i * 53 + 53 ≤ length m → c ≡ content i m p → row ≡ matrix_row p → more c (piece m i) (get_or row i 0) ≡ content (i + 1) m p
  unfolding sum
  content-next c row i h l e r =
      content-is (suc i) (more c (piece m i) f) (omega arith) (more-length c (piece m i) f (long ∙ sym (piece-length m i l)) ∙ long)
      (λ j b. more-get c (piece m i) f j ∙ ap₂ (λ (x y : ℕ). x ⊕ f ⊗ y) (ap (λ (l : List ℕ). get_or l j 0) e ∙ content-get i j (omega arith) b) (piece-get m i j b)
      ∙ ap (λ (y : ℕ). sum i (term m p j) ⊕ y ⊗ get_or m (i * 53 + j) 0) g)
      ∙ ap (λ (k : ℕ). content k m p) (sym (add-one i))
    where
      f : ℕ
      f = get_or row i 0

      long : length c ≡ 53
      long = ap length e ∙ content-length i m p

      g : get_or row i 0 ≡ matrix_entry p i
      g = ap (λ (l : List ℕ). get_or l i 0) r ∙ row_get p i h

-- ---- a page that is written: the header's octets, and the content behind them
-- a turn of the loop that copies c into d, from `at` on
pub copy-next : (d c v : List ℕ) (at j : ℕ) → at + j < length d → j < length c → v ≡ paste d at c j → set v (at + j) (get_or c j 0) ≡ paste d at c (j + 1)
copy-next d c v at j h l e = ap (λ (u : List ℕ). set u (at + j) (get_or c j 0)) e ∙ paste-suc d at c j 0 h l ∙ ap (paste d at c) (sym (add-one j))

copy_done : (d c : List ℕ) (x y z : ℕ) → length d ≡ 56 → length c ≡ 53 → paste (set (set (set d 0 x) 1 y) 2 z) 3 c 53 ≡ (x ∷ y ∷ z ∷ []) ++ c
copy_done [] c x y z h l = absurd (omega arith)
copy_done (u ∷ []) c x y z h l = absurd (omega arith)
copy_done (u ∷ v ∷ []) c x y z h l = absurd (omega arith)
copy_done (u ∷ v ∷ w ∷ d) c x y z h l =
    ap (λ (r : List ℕ). x ∷ y ∷ z ∷ r) (ap₂ ◌++◌ (take_all 53 c (omega arith)) (drop_of_length-le d {i = 53} (omega arith)) ∙ append-nil c)

module _ (s n k p : ℕ) where
  abbrev header : Header
  header = record { status = s; reserved = 0; kind = 1; number = n; size = k; page = p }

  -- a buffer whose first three octets are written
  abbrev pub headed : List ℕ → List ℕ
  headed d = set (set (set d 0 (s * 64 + 4 + n / 8)) 1 (n % 8 * 32 + k - 1)) 2 p

  header_is : s < 2 → n < 32 → 1 ≤ k → k ≤ 32 → p ≤ 255 → (s * 64 + 4 + n / 8) ∷ (n % 8 * 32 + k - 1) ∷ p ∷ [] ≡ header_octets header
  unfolding header_octets header_bits
  header_is hs hn low high hp =
      let first : s * 64 + 4 + n / 8 ≡ header_bits header / 65536 = omega arith in
      let second : n % 8 * 32 + k - 1 ≡ header_bits header / 256 % 256 = omega arith in
      let third : p ≡ header_bits header % 256 = omega arith in
      cc

  pub page-written : s < 2 → n < 32 → 1 ≤ k → k ≤ 32 → p ≤ 255 → (d c : List ℕ) → length d ≡ 56 → length c ≡ 53
      → paste (headed d) 3 c 53 ≡ header_octets (record { status = s; reserved = 0; kind = 1; number = n; size = k; page = p }) ++ c
  page-written hs hn low high hp d c h l =
      copy_done d c (s * 64 + 4 + n / 8) (n % 8 * 32 + k - 1) p h l ∙ ap (λ (o : List ℕ). o ++ c) (header_is hs hn low high hp)
