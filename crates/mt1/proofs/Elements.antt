-- What is at a place of a list: what holds of every element holds of it; a system of the mask, or a part of the subset, is the one that its GNSS ID finds.
-- By induction on the place; the IDs differ, so no system before it has its ID.
use Prim.Native.Nat.{ℕ, zero, suc, ◌<◌}
use native.Mathlib.Omega.{arith}
use mathlib.Core.Bool.{Bool, true, false, ◌||◌}
use mathlib.Core.List.{List, [], ◌∷◌}
use mathlib.Core.Option.{some, some-injective, none-ne-some}
use mathlib.Core.Path.{◌≡◌, refl, sym, ap, ◌∙◌}
use lib.Dec.{eqb}
use lib.ListN.{length, get_or}
use borrow.Author.Tests.{eqb-true, eq-eqb}
use Rattle.lists.specs.Lists.{Every, memb}
use Rattle.lists.proofs.Tests.{on_bool, clash}
use Rattle.mt1.specs.Message.{System, Subset}
use Rattle.mt1.specs.Mt1.{satellites_of, ids}
use Rattle.mt1.specs.Valid.{IdsOk, EachOf}
use Rattle.mt1.specs.Records.{at, of_id}

-- ---- elements
pub at_there : {A : Type 0} (xs : List A) (p : ℕ) → p < length xs → (x : A) × (at xs p ≡ some x)
unfolding at
at_there [] p h = absurd (let z : ⊥ = omega arith in z)
at_there (x ∷ xs) zero h = (x, refl)
at_there (x ∷ xs) (suc p) h = at_there xs p (omega arith)

pub at-get_or : {A : Type 0} (d : A) (xs : List A) (p : ℕ) {x : A} → at xs p ≡ some x → get_or xs p d ≡ x
unfolding at
at-get_or d [] p {x} e = absurd (none-ne-some x e)
at-get_or d (y ∷ xs) zero {x} e = some-injective y x e
at-get_or d (y ∷ xs) (suc p) e = at-get_or d xs p e

pub at-is : {A : Type 0} (d : A) (xs : List A) (p : ℕ) → p < length xs → at xs p ≡ some (get_or xs p d)
at-is d xs p h = let (x, e) = at_there xs p h in e ∙ ap some (sym (at-get_or d xs p e))

pub every_some : {A : Type 0} (P : A → Type 0) (xs : List A) (p : ℕ) {x : A} → at xs p ≡ some x → Every P xs → P x
unfolding at
every_some P [] p {x} e o = absurd (none-ne-some x e)
every_some P (y ∷ xs) zero {x} e o = rw (← (some-injective y x e)) o.0
every_some P (y ∷ xs) (suc p) e o = every_some P xs p e o.1

-- of a list beside another, the element at the same place
pub each_at : {S A : Type 0} (P : S → A → Type 0) (d : A) (ss : List S) (xs : List A) (p : ℕ) {s : S} → EachOf P ss xs → at ss p ≡ some s → P s (get_or xs p d)
unfolding at
each_at P d [] xs p {s} o e = absurd (none-ne-some s e)
each_at P d (t ∷ ss) [] p o e = absurd o
each_at P d (t ∷ ss) (x ∷ xs) zero {s} o e = rw (← (some-injective t s e)) o.0
each_at P d (t ∷ ss) (x ∷ xs) (suc p) o e = each_at P d ss xs p o.1 e

-- ---- IDs: of a system at a place, one that may come and none that came
or-false : (a b : Bool) → (a || b) ≡ false → (a ≡ false) × (b ≡ false)
or-false true b e = clash refl e
or-false false b e = (refl, e)

pub may_come : (may came : List ℕ) (ss : List System) (p : ℕ) {s : System} → at ss p ≡ some s → IdsOk may came (ids ss) → memb s.id may ≡ true
unfolding at
may_come may came [] p {s} e o = absurd (none-ne-some s e)
may_come may came (t ∷ ss) zero {s} e o = rw (← (some-injective t s e)) o.0
may_come may came (t ∷ ss) (suc p) e o = may_come may (t.id ∷ came) ss p e o.2

not-come : (may came : List ℕ) (ss : List System) (p : ℕ) {s : System} → at ss p ≡ some s → IdsOk may came (ids ss) → memb s.id came ≡ false
unfolding at
not-come may came [] p {s} e o = absurd (none-ne-some s e)
not-come may came (t ∷ ss) zero {s} e o = rw (← (some-injective t s e)) o.1
not-come may came (t ∷ ss) (suc p) {s} e o = (or-false (eqb s.id t.id) (memb s.id came) (not-come may (t.id ∷ came) ss p e o.2)).1

-- so it is the one that its ID finds
pub satellites-of : (may came : List ℕ) (ss : List System) (p : ℕ) {s : System} → at ss p ≡ some s → IdsOk may came (ids ss) → satellites_of ss s.id ≡ s.satellites
unfolding at satellites_of
satellites-of may came [] p {s} e o = absurd (none-ne-some s e)
satellites-of may came (t ∷ ss) zero {s} e o = rw (some-injective t s e, eq-eqb s.id s.id refl)
satellites-of may came (t ∷ ss) (suc p) {s} e o =
    rw (or-false (eqb s.id t.id) (memb s.id came) (not-come may (t.id ∷ came) ss p e o.2)).0 (satellites-of may (t.id ∷ came) ss p e o.2)

-- the part of the subset that an ID finds has it
pub part-found : (P : Subset → Type 0) (subs : List Subset) (id : ℕ) (x : Subset) → Every P subs → of_id subs id ≡ some x → (x.id ≡ id) × P x
unfolding of_id
part-found P [] id x o = λ e. absurd (none-ne-some x e)
part-found P (y ∷ subs) id x o = on_bool (eqb id y.id)
    (λ t. rw t λ e. rw (← (some-injective y x e)) (sym (eqb-true id y.id t), o.0))
    (λ t. rw t λ e. part-found P subs id x o.1 e)
