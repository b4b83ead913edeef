-- Whatever was passed stands nowhere behind its place, so the whole list is what is left of it.
use mathlib.Core.Bool.{Bool, true, not, ◌&&◌, ◌||◌}
use mathlib.Core.List.{List, [], ◌∷◌}
use mathlib.Core.Path.{◌≡◌, refl, sym, ap, ap₂, ◌∙◌}
use Prim.Native.Nat.{ℕ, ◌+◌, ◌-◌, ◌≤◌, ◌<◌}
use lib.Dec.{eqb}
use lib.ListN.{length, get_or, drop, take, drop_of_length-le}
use borrow.Author.Rules.{rules}
use Rattle.std.proofs.Common.{arith}
use Rattle.std.proofs.lemmas.Slice.{between_to_end}
use Rattle.std.specs.List.{list_any}
use Rattle.pagecode.specs.Solve.{is_in, different}
use Rattle.pagecode.proofs.Walk.{front}
use Rattle.pagecode.proofs.numbers.all_different.Goals as goal

swapped : (p q : ℕ) → eqb q p ≡ eqb p q
swapped p q = grind arith

found : (p : ℕ) (ps : List ℕ) → list_any (λ q. eqb q p) ps ≡ is_in p ps
unfolding is_in
found p [] = refl
found p (q ∷ ps) = ap₂ ◌||◌ (swapped p q) (found p ps)

-- what stands at place i, then what is left
passed : (numbers : List ℕ) (i : ℕ) (r : Bool) → i < length numbers → r ≡ list_any (λ q. eqb q (get_or numbers i 0)) (take (length numbers - (i + 1)) (drop (i + 1) numbers))
    → different (drop i numbers) ≡ not r && different (drop (i + 1) numbers)
unfolding different
passed numbers i r h e =
    let p = get_or numbers i 0 in
    ap different (front numbers i h)
    ∙ ap (λ b. not b && different (drop (i + 1) numbers)) (sym (e ∙ ap (list_any (λ q. eqb q p)) (between_to_end numbers (i + 1) (length numbers) (omega arith)) ∙ found p (drop (i + 1) numbers)))

ended : (numbers : List ℕ) (i : ℕ) → length numbers ≤ i → different (drop i numbers) ≡ true
unfolding different
ended numbers i h = ap different (drop_of_length-le numbers {i = i} h)

-- what was looked through from a place that is the next one
next : (numbers : List ℕ) (p : ℕ) (r : Bool) (j k : ℕ) → j ≡ k → r ≡ list_any (λ q. eqb q p) (take (length numbers - j) (drop j numbers))
    → r ≡ list_any (λ q. eqb q p) (take (length numbers - k) (drop k numbers))
next numbers p r j k e h = h ∙ ap (λ (n : ℕ). list_any (λ q. eqb q p) (take (length numbers - n) (drop n numbers))) e

pub loop-i-init : goal.loop-i-init
loop-i-init c = refl

pub returns-then-contains : goal.returns-then-contains
returns-then-contains c =
    let l = c.loop-i in
    let numbers = c.args.numbers.now in
    sym (passed numbers l.i _ c.loop-i-test.true (next numbers (get_or numbers l.i 0) _ _ (l.i + 1) (search rules) (sym c.if-contains.true ∙ c.contains.ensures.value))) ∙ l.invariant

pub loop-i-preserved : goal.loop-i-preserved
loop-i-preserved c =
    let l = c.loop-i in
    let numbers = c.args.numbers.now in
    sym (passed numbers l.i _ c.loop-i-test.true (next numbers (get_or numbers l.i 0) _ _ (l.i + 1) (search rules) (sym c.if-contains.false ∙ c.contains.ensures.value))) ∙ l.invariant

pub returns : goal.returns
returns c =
    let numbers = c.args.numbers.now in
    sym (ended numbers c.loop-i.i (search rules)) ∙ c.loop-i.invariant
