-- Each place is asked for its key among those behind it, so what is asked of the places from one on is what the test says of them.
use mathlib.Core.Bool.{not, ◌&&◌}
use mathlib.Core.Path.{◌≡◌, sym, ap, ◌∙◌}
use mathlib.Core.List.{List}
use Prim.Native.Nat.{ℕ, ◌+◌, ◌-◌, ◌<◌}
use native.Mathlib.Omega.{arith}
use lib.ListN.{length, get_or, take, drop, length-drop, drop_of_length-le}
use lib.Seq.{take_all}
use borrow.Author.Rules.{rules}
use borrow.Author.Tests.{tests}
use Rattle.std.proofs.lemmas.Iterator.{YieldsList-from_slice}
use Rattle.std.proofs.lemmas.Iterator.Consumers.{YieldsList-from_enumerate}
use Rattle.std.proofs.lemmas.Iterator.Search.{all_from_yields_List}
use Rattle.collector.specs.declared.state.Place.{Place}
use Rattle.collector.specs.Checks.{is_again, are_apart}
use Rattle.collector.proofs.Meeting.{beyond}
use Rattle.collector.proofs.Search.{front, all-from}
use Rattle.collector.proofs.checking.are_apart.Goals as goal

module _ (ps : List Place) (eight : length ps ≡ 8) where
  -- the places behind place i
  abbrev behind : ℕ → List Place
  behind i = take (8 - (i + 1)) (drop (i + 1) ps)

  ahead : (i : ℕ) → i < length ps → are_apart (drop i ps) ≡ (not (is_again (get_or ps i beyond).state (behind i)) && are_apart (drop (i + 1) ps))
  ahead i h =
      ap are_apart (front beyond ps i h)
      ∙ ap (λ (l : List Place). not (is_again (get_or ps i beyond).state l) && are_apart (drop (i + 1) ps))
      (sym (take_all (8 - (i + 1)) (drop (i + 1) ps) (omega (arith, length-drop (i + 1) ps))))

pub returns : goal.returns
returns c =
    let ps = c.args.places.now in
    let eight = c.told-places in
    all_from_yields_List (λ (x : ℕ × Place). not (is_again x.1.state (behind ps eight x.0))) _ _ _ c.all.ensures.ran
    (YieldsList-from_enumerate (YieldsList-from_slice ps (cc)) (cc)) (λ x b q k. search (rules, tests))
    ∙ all-from _ (λ (i : ℕ). are_apart (drop i ps)) beyond ps (ahead ps eight) (ap are_apart (drop_of_length-le ps {i = length ps} (omega arith)))
