-- An encoded page is judged good, with its message's key, its number and its content.
-- Its header reads back as it was written, and is no dummy's: pagecode's Promises.
use mathlib.Core.Bool.{◌&&◌, true, false}
use mathlib.Core.Logic.{◌⊎◌, inl, inr}
use mathlib.Core.Path.{◌≡◌, ap, ◌∙◌}
use Prim.Native.Nat.{ℕ, ◌/◌, ◌≤◌, ◌<◌}
use native.Mathlib.Omega.{arith}
use lib.ListN.{length, drop}
use lib.Dec.{leb}
use borrow.Author.Tests.{ne_eqb, leb-true}
use Rattle.pagecode.specs.Page.{legal, header_of, is_dummy, content}
use Rattle.pagecode.proofs.Promises.{encoded-header, encoded-no-dummy, encoded-content}
use Rattle.collector.specs.Feed.{good, judge}
use Rattle.collector.specs.Demand.{Message, key_for, Sound, encoded, content_at}
use Rattle.lists.proofs.Tests.{and_right, or_cases}
use Rattle.collector.proofs.PageCode.{page_at}

legal-octet : (k n : ℕ) → k ≤ 32 → legal k n ≡ true → n < 256
unfolding legal
legal-octet k n few l = go (or_cases (leb 1 n && leb n k) (leb 33 n && leb n 255) l)
  where
    go : ((leb 1 n && leb n k) ≡ true) ⊎ ((leb 33 n && leb n 255) ≡ true) → n < 256
    go (inl e) = omega (arith, leb-true n k (and_right (leb 1 n) (leb n k) e))
    go (inr e) = omega (arith, leb-true n 255 (and_right (leb 33 n) (leb n 255) e))

module _ (m : Message) (so : Sound m) (n : ℕ) (l : legal m.size n ≡ true) where
  size_back : length m.octets / 53 ≡ m.size
  size_back = omega (arith, so.long)

  header : header_of (encoded m n) ≡ record { status = m.status; reserved = 0; kind = 1; number = m.number; size = m.size; page = n }
  header =
      encoded-header m.octets m.status m.number n (omega (arith, so.status)) (omega (arith, so.number)) (omega (arith, size_back, so.some))
      (omega (arith, size_back, so.few)) (legal-octet m.size n so.few l)
      ∙ ap (λ (k : ℕ). record { status = m.status; reserved = 0; kind = 1; number = m.number; size = k; page = n }) size_back

  no-dummy : is_dummy (encoded m n) ≡ false
  no-dummy =
      encoded-no-dummy m.octets m.status m.number n (omega (arith, so.status)) (omega (arith, so.number)) (omega (arith, size_back, so.some))
      (omega (arith, size_back, so.few)) (legal-octet m.size n so.few l) (omega (arith, so.status))

  body : drop 3 (encoded m n) ≡ content_at m n
  body = encoded-content m.octets m.status m.number n ∙ ap (λ (k : ℕ). content k m.octets n) size_back

  pub judge-encode : judge (encoded m n) ≡ good (key_for m) (page_at m n)
  unfolding judge
  judge-encode =
      simp (no-dummy, header, ne_eqb m.status 3 (omega (arith, so.status)), ne_eqb m.status 2 (omega (arith, so.status)), l, body)
