-- Each number is asked whether it is legal and none of those before it, so what is asked of the numbers from one on is what the test says of them behind those before.
use mathlib.Core.Bool.{Bool, ◌&&◌}
use mathlib.Core.List.{List}
use mathlib.Core.Path.{◌≡◌, sym, ap, ◌∙◌}
use Prim.Native.Nat.{ℕ, ◌+◌, ◌<◌}
use native.Mathlib.Numerals.{add-one}
use native.Mathlib.Omega.{arith}
use lib.ListN.{length, get_or, take, drop, drop_of_length-le}
use lib.Seq.{take-suc}
use borrow.Author.Rules.{rules}
use borrow.Author.Tests.{tests}
use Rattle.std.proofs.lemmas.Iterator.{YieldsList-from_slice}
use Rattle.std.proofs.lemmas.Iterator.Consumers.{YieldsList-from_enumerate}
use Rattle.std.proofs.lemmas.Iterator.Search.{all_from_yields_List}
use Rattle.pagecode.specs.Page.{legal}
use Rattle.collector.specs.Checks.{is_new, are_numbers}
use Rattle.collector.proofs.Tests.{and_again}
use Rattle.collector.proofs.Search.{front, all-from}
use Rattle.collector.proofs.checking.are_numbers.Goals as goal

module _ (size : ℕ) (ns : List ℕ) where
  -- the numbers from i on, behind the first i
  abbrev left : ℕ → Bool
  left i = are_numbers size (take i ns) (drop i ns)

  ahead : (i : ℕ) → i < length ns → left i ≡ ((legal size (get_or ns i 0) && is_new (get_or ns i 0) (take i ns)) && left (i + 1))
  ahead i h =
      let n = get_or ns i 0 in
      ap (are_numbers size (take i ns)) (front 0 ns i h)
      ∙ ap (λ (before : List ℕ). legal size n && (is_new n (take i ns) && are_numbers size before (drop (i + 1) ns)))
      (sym (take-suc ns i 0 h) ∙ ap (λ (j : ℕ). take j ns) (sym (add-one i)))
      ∙ sym (and_again (legal size n) (is_new n (take i ns)) (left (i + 1)))

pub returns : goal.returns
returns c =
    let a = c.args in
    let ns = a.numbers.now in
    all_from_yields_List (λ (x : ℕ × ℕ). legal a.size x.1 && is_new x.1 (take x.0 ns)) _ _ _ c.all.ensures.ran
    (YieldsList-from_enumerate (YieldsList-from_slice ns (cc)) (cc)) (λ x b q k. search (rules, tests))
    ∙ all-from _ (left a.size ns) 0 ns (λ i h. ahead a.size ns i (omega arith))
    (ap (are_numbers a.size (take (length ns) ns)) (drop_of_length-le ns {i = length ns} (omega arith)))
