-- The fields of a page's header, read off its first three octets, and what its checks say of them.
-- Each field is a quotient and a remainder of one number, o0 * 65536 + o1 * 256 + o2.
use Prim.Native.Nat.{ℕ, ◌+◌, ◌*◌, ◌/◌, ◌%◌}
use mathlib.Core.Bool.{true, false}
use mathlib.Core.Path.{◌≡◌, ap, sym}
use mathlib.Core.List.{List, [], ◌∷◌}
use Rattle.std.specs.Prelude.{Ok, Err}
use native.Mathlib.Omega.{arith}
use borrow.Author.Tests.{ne_eqb, eq-eqb, eqb-true}
use lib.Dec.{eqb}
use lib.ListN.{get_or, length, take}
use lib.Pointwise.{pointwise}
use Rattle.lists.proofs.Tests.{and_left, and_right}
use Rattle.collector.proofs.Tests.{same}
use Rattle.refusal.specs.declared.Refusal.TheVariants.{Status, Kind, PageNumber}
use Rattle.pagecode.specs.Field.{Octets}
use Rattle.pagecode.specs.Page.{header_of, bits_from, first_bits, is_dummy, legal}
use Rattle.collector.specs.declared.state.Key.{Key}
use Rattle.collector.specs.declared.header.Judged.TheVariants.{Stop, Hold}
use Rattle.collector.specs.Feed.{key_of, judge}
use Rattle.collector.specs.Image.{key_image}
use Rattle.collector.specs.Steps.{judged_image}

module _ (page : List ℕ) (o : Octets page) where
  pub status-is : (header_of page).status ≡ get_or page 0 0 / 64
  unfolding header_of bits_from first_bits
  status-is = omega (arith, o 0, o 1, o 2)

  pub kind-is : (header_of page).kind ≡ get_or page 0 0 / 4 % 4
  unfolding header_of bits_from first_bits
  kind-is = omega (arith, o 0, o 1, o 2)

  pub number_is : (header_of page).number ≡ get_or page 0 0 % 4 * 8 + get_or page 1 0 / 32
  unfolding header_of bits_from first_bits
  number_is = omega (arith, o 0, o 1, o 2)

  pub size_is : (header_of page).size ≡ get_or page 1 0 % 32 + 1
  unfolding header_of bits_from first_bits
  size_is = omega (arith, o 0, o 1, o 2)

  pub page-is : (header_of page).page ≡ get_or page 2 0
  unfolding header_of bits_from first_bits
  page-is = omega (arith, o 0, o 1, o 2)

-- the first 24 bits are AF3BC3 where the three octets are AF, 3B and C3, and only there
pub dummy-is : (page : List ℕ) → Octets page → length page ≡ 56 → pointwise eqb (0xAF ∷ 0x3B ∷ 0xC3 ∷ []) (take 3 page) ≡ is_dummy page
unfolding is_dummy first_bits
dummy-is [] o l = absurd (omega arith)
dummy-is (x ∷ []) o l = absurd (omega arith)
dummy-is (x ∷ y ∷ []) o l = absurd (omega arith)
dummy-is (x ∷ y ∷ z ∷ rest) o l =
    same _ _
    (λ e. let f = and_right (eqb 0xAF x) _ e in
    let g = and_right (eqb 0x3B y) _ f in
    eq-eqb _ _ (omega (arith, eqb-true 0xAF x (and_left _ _ e), eqb-true 0x3B y (and_left _ _ f), eqb-true 0xC3 z (and_left _ _ g))))
    (λ e. let b = eqb-true _ _ e in
    rw (eq-eqb 0xAF x (omega (arith, b, o 0, o 1, o 2)), eq-eqb 0x3B y (omega (arith, b, o 0, o 1, o 2)), eq-eqb 0xC3 z (omega (arith, b, o 0, o 1, o 2))))

-- the checks in their order: the header is no dummy, and its key is `key`
module _ (page : List ℕ) (key : Key) (d : is_dummy page ≡ false) (e : key ≡ key_image (key_of page)) where
  status-of : (header_of page).status ≡ key.status
  status-of = sym (ap (λ (k : Key). k.status) e)

  pub judged-stop : key.status ≡ 3 → Ok Stop ≡ judged_image (judge page)
  unfolding judge
  judged-stop s = simp (d, status-of, s)

  pub judged-status : key.status ≡ 2 → Err Status ≡ judged_image (judge page)
  unfolding judge
  judged-status s = simp (d, status-of, s)

  -- the status is neither
  module _ (s : key.status ≡ 3 → ⊥) (t : key.status ≡ 2 → ⊥) where
    pub judged-kind : ((header_of page).kind ≡ 1 → ⊥) → Err Kind ≡ judged_image (judge page)
    unfolding judge
    judged-kind n = simp (d, status-of, ne_eqb _ 3 s, ne_eqb _ 2 t, ne_eqb _ 1 n)

    -- the type is 1
    module _ (one : (header_of page).kind ≡ 1) (o : Octets page) where
      legal-of : legal (header_of page).size (header_of page).page ≡ legal key.size (get_or page 2 0)
      legal-of = simp (e, page-is page o)

      pub judged-number : legal key.size (get_or page 2 0) ≡ false → Err PageNumber ≡ judged_image (judge page)
      unfolding judge
      judged-number l = simp (d, status-of, ne_eqb _ 3 s, ne_eqb _ 2 t, one, legal-of, l)

      pub judged-good : legal key.size (get_or page 2 0) ≡ true → Ok (Hold key) ≡ judged_image (judge page)
      unfolding judge
      judged-good l = simp (d, status-of, ne_eqb _ 3 s, ne_eqb _ 2 t, one, legal-of, l) (simp e)
