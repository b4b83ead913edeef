-- The largest is 0 where all are.
use mathlib.Core.Bool.{Bool, true, false, ◌&&◌}
use mathlib.Core.List.{List, [], ◌∷◌}
use mathlib.Core.Path.{◌≡◌, refl, ap, ◌∙◌}
use Prim.Native.Nat.{ℕ, max}
use native.Mathlib.Omega.{arith}
use lib.Dec.{eqb}
use borrow.Author.Tests.{eqb-true, eqb-false, eq-eqb, ne_eqb}
use Rattle.std.specs.List.{fold}
use Rattle.lists.proofs.Tests.{on_bool}
use Rattle.collector.specs.Checks.{noughts}
use Rattle.collector.proofs.Tests.{and_again}
use Rattle.collector.proofs.checking.are_nought.Goals as goal

-- the larger of two is 0 where both are
larger : (a b : ℕ) → eqb (max a b) 0 ≡ (eqb a 0 && eqb b 0)
larger a b =
    on_bool (eqb a 0)
    (λ e. on_bool (eqb b 0) (λ f. rw (e, f) (eq-eqb _ _ (omega (arith, eqb-true a 0 e, eqb-true b 0 f)))) (λ f. rw (e, f) (ne_eqb (max a b) 0 (λ z. eqb-false b 0 f (omega arith)))))
    (λ e. rw e (ne_eqb (max a b) 0 (λ z. eqb-false a 0 e (omega arith))))

and-true : (a : Bool) → a ≡ (a && true)
and-true true = refl
and-true false = refl

pub fold-noughts : (most : ℕ) (xs : List ℕ) → eqb (fold max most xs) 0 ≡ (eqb most 0 && noughts xs)
fold-noughts most [] = and-true (eqb most 0)
fold-noughts most (x ∷ xs) =
    fold-noughts (max most x) xs ∙ ap (λ (b : Bool). b && noughts xs) (larger most x) ∙ and_again (eqb most 0) (eqb x 0) (noughts xs)

pub returns : goal.returns
returns c = ap (λ (n : ℕ). eqb n 0) c.largest.ensures ∙ fold-noughts 0 c.args.octets.now
