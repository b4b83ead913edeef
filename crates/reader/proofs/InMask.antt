-- What is at a place, and the part of the subset that has an ID, are as they must be, if they are there.
-- What holds of every element holds of one that is found, by its place or by its ID.
use Prim.{tt}
use Prim.Native.Nat.{ℕ}
use mathlib.Core.List.{List}
use mathlib.Core.Option.{Option, none, some}
use mathlib.Core.Path.{◌≡◌, refl, ap, ◌∙◌}
use Rattle.lists.specs.Lists.{Every}
use Rattle.mt1.specs.Message.{System, Subset, Block, count}
use Rattle.mt1.specs.Mt1.{satellites_of}
use Rattle.mt1.specs.Valid.{SubsetOk, SubsetsOk, BlockOk}
use Rattle.mt1.specs.Records.{at, of_id, subset_of}
use Rattle.mt1.proofs.Elements.{every_some, part-found}
use Rattle.reader.specs.Steps.{subsets_in}
use Rattle.reader.specs.Recording.{IfSome, SubsetFits}

pub at_every : {A : Type 0} (P : A → Type 0) (xs : List A) (p : ℕ) → Every P xs → IfSome P (at xs p)
at_every {A} P xs p o = go (at xs p) refl
  where
    go : (v : Option A) → at xs p ≡ v → IfSome P v
    go none e = tt
    go (some x) e = every_some P xs p e o

of-id-ok : (ss : List System) (subs : List Subset) (id : ℕ) → Every (SubsetOk ss) subs → SubsetFits (count (satellites_of ss id)) (of_id subs id)
of-id-ok ss subs id o = go (of_id subs id) refl
  where
    go : (v : Option Subset) → of_id subs id ≡ v → SubsetFits (count (satellites_of ss id)) v
    go none e = tt
    go (some x) e =
        let (i, k) = part-found (SubsetOk ss) subs id x o e in
        record { multiplier = k.multiplier; chosen = k.chosen ∙ ap (λ (n : ℕ). count (satellites_of ss n)) i; clocks = k.clocks }

pub part-ok : (ss : List System) (b : Option (Block (List Subset))) (id : ℕ) → IfSome (BlockOk (SubsetsOk ss)) b → SubsetFits (count (satellites_of ss id)) (subset_of b id)
part-ok ss none id o = tt
part-ok ss (some b) id o = of-id-ok ss b.body id o.body.each

pub part_of_lem : (b : Option (Block (List Subset))) (id : ℕ) → of_id (subsets_in b) id ≡ subset_of b id
unfolding of_id
part_of_lem none id = refl
part_of_lem (some b) id = refl
