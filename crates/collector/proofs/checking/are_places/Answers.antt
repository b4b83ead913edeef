-- Each place is asked with its octets, so what is asked of the places from one on is what the test says of them and of the octets from there on.
use mathlib.Core.Bool.{Bool, ◌&&◌}
use mathlib.Core.List.{List}
use mathlib.Core.Path.{◌≡◌, sym, ap, ◌∙◌}
use Prim.Native.Nat.{ℕ, ◌+◌, ◌*◌, ◌-◌, ◌<◌}
use native.Mathlib.Omega.{arith}
use lib.ListN.{length, get_or, take, drop, drop_of_length-le}
use lib.Seq.{drop-drop}
use borrow.Author.Rules.{rules}
use borrow.Author.Tests.{tests, eq-eqb}
use Rattle.std.proofs.lemmas.Iterator.{YieldsList-from_slice}
use Rattle.std.proofs.lemmas.Iterator.Consumers.{YieldsList-from_enumerate}
use Rattle.std.proofs.lemmas.Iterator.Search.{all_from_yields_List}
use Rattle.collector.specs.declared.state.Place.{Place}
use Rattle.collector.specs.Checks.{is_place, are_places, are_eight}
use Rattle.collector.proofs.Meeting.{beyond}
use Rattle.collector.proofs.Search.{front, all-from}
use Rattle.collector.proofs.checking.are_places.Goals as goal

module _ (last : ℕ) (places : List Place) (store : List ℕ) where
  -- the places from i on, and their octets
  abbrev left : ℕ → Bool
  left i = are_places last (drop i places) (drop (i * 1696) store)

  -- the octets of place i
  abbrev lent : ℕ → List ℕ
  lent i = take (i * 1696 + 1696 - i * 1696) (drop (i * 1696) store)

  eight : length places ≡ 8 → are_eight last places store ≡ left 0
  unfolding are_eight
  eight e = rw (eq-eqb (length places) 8 e)

  ahead : (i : ℕ) → i < length places → left i ≡ (is_place last (get_or places i beyond) (lent i) && left (i + 1))
  ahead i h =
      let on : i * 1696 + 1696 ≡ (i + 1) * 1696 = omega arith in
      let many : 1696 ≡ i * 1696 + 1696 - i * 1696 = omega arith in
      ap (λ (l : List Place). are_places last l (drop (i * 1696) store)) (front beyond places i h)
      ∙ ap (λ (o : List ℕ). is_place last (get_or places i beyond) (take 1696 (drop (i * 1696) store)) && are_places last (drop (i + 1) places) o)
      (drop-drop 1696 (i * 1696) store ∙ ap (λ (n : ℕ). drop n store) on)
      ∙ ap (λ (n : ℕ). is_place last (get_or places i beyond) (take n (drop (i * 1696) store)) && left (i + 1)) many

pub returns : goal.returns
returns c =
    let a = c.args in
    let ps = a.places.now in
    let o = a.store.now in
    all_from_yields_List (λ (x : ℕ × Place). is_place a.last x.1 (lent a.last ps o x.0)) _ _ _ c.all.ensures.ran
    (YieldsList-from_enumerate (YieldsList-from_slice ps (cc)) (cc)) (λ x b q k. search (rules, tests))
    ∙ all-from _ (left a.last ps o) beyond ps (ahead a.last ps o)
    (ap (λ (l : List Place). are_places a.last l (drop (length ps * 1696) o)) (drop_of_length-le ps {i = length ps} (omega arith)))
    ∙ sym (eight a.last ps o c.told-places)
