-- The blocks behind the mask, passed over one by one, are those that the parser reads, and each stands where the pass found it.
-- A block that is passed over is got, so that its bits stand there; the parser goes on behind it, and a refusal of one is the refusal of all.
use Prim.Native.Nat.{ℕ, ◌+◌, ◌≤◌, ◌<◌}
use native.Mathlib.Omega.{arith}
use mathlib.Core.Bool.{Bool, true, false, ◌||◌}
use mathlib.Core.List.{List}
use mathlib.Core.Option.{Option, none, some}
use mathlib.Core.Path.{◌≡◌, refl, sym, ap, ◌∙◌}
use lib.ListN.{length, get_or, take, drop}
use lib.Seq.{get_or-take, get_or-drop}
use Rattle.mt1.specs.declared.answer.RefusalAt.{RefusalAt}
use Rattle.mt1.specs.Parse.{got, bad, Parser, next, ◌>>=◌, ret, optional}
use Rattle.mt1.specs.Message.{Header, System, Mask, Orbit, Clocks, Subset, Phase, Block}
use Rattle.mt1.specs.Mt1.{block, orbits, clocks, subset, codes, phases, needs_mask}
use Rattle.mt1.specs.Encode.{block_bits, orbits_bits, clocks_bits, subsets_bits, codes_bits, phases_bits}
use Rattle.mt1.proofs.Combinators.{Reads, next-elim}
use Rattle.mt1.proofs.Blocks.{Masked, block_reads, orbits-reads, clocks-reads, subset-reads, codes-reads, phases-reads}
use Rattle.reader.specs.declared.field.Read.{Read}
use Rattle.std.specs.Bool.{then_some}
use Rattle.std.specs.Prelude.{None, Ok, Err}
use Rattle.reader.specs.declared.mask.MaskPlan.{MaskPlan}
use Rattle.reader.specs.declared.subset.SubsetPlan.{SubsetPlan}
use Rattle.reader.specs.declared.plan.Plan.{Plan}
use Rattle.reader.specs.Steps.{step_of, Stands, subsets_in, PartsStand, SubsetReadIf, MaskOf, blocks, BlocksRead}
use Rattle.reader.proofs.Skipping.{Step, step-got, step-ret}
use Rattle.reader.proofs.SubsetParts.{no-parts}

-- ---- one that may be missing
pub step-absent : {A : Type 0} (p : Parser A) (bs : List Bool) (place : ℕ) {flag : Bool} → flag ≡ false → Ok place ≡ step_of (optional flag p bs place)
unfolding ret
step-absent p bs place e = rw e

pub step-there : {A : Type 0} (p : Parser A) (bs : List Bool) (place : ℕ) {flag : Bool} {s : Step} → flag ≡ true → s ≡ step_of (p bs place) → s ≡ step_of (optional flag p bs place)
step-there p bs place e f = rw e (f ∙ sym (step-ret bs p some place))

-- ---- a block that may be missing
pub record Passed {A : Type 0} (flag : Bool) (p : Parser A) (enc : A → List Bool) (bs : List Bool) (place : ℕ) (x : Option (Block A)) (end : ℕ) : Type 0 where
  pub read : optional flag (block p) bs place ≡ got x end
  pub stands : Stands bs (then_some flag place) (block_bits enc) x
  pub ahead : 0 < end
  pub fits : end ≤ length bs

pub passed : {A : Type 0} {p : Parser A} {Good : A → Type 0} {enc : A → List Bool} (flag : Bool) (bs : List Bool) {place end : ℕ} → Reads p Good enc → 0 < place → place ≤ length bs
    → (x : Option (Block A)) → optional flag (block p) bs place ≡ got x end → Passed flag p enc bs place x end
unfolding ◌>>=◌ ret
passed {p = p} true bs {place} {end} P h l x e = next-elim (block p bs place) _ e λ b m q r.
    let s = ((block_reads P).sound bs place b m l q).span in
    let t : x ≡ some b = cc in
    let u : end ≡ m = cc in
    record { read = e; stands = rw t (place, refl, (m, s)); ahead = omega (arith, h, u, s.after); fits = omega (arith, u, s.fits) }
passed {p = p} false bs {place} {end} P h l x e =
    let t : x ≡ none = cc in
    let u : end ≡ place = cc in
    record { read = e; stands = rw t refl; ahead = omega (arith, h, u); fits = omega (arith, u, l) }

-- one that is passed over by a step
pub stepped : {A : Type 0} {p : Parser A} {Good : A → Type 0} {enc : A → List Bool} (flag : Bool) (bs : List Bool) {place end : ℕ} → Reads p Good enc → 0 < place → place ≤ length bs
    → Ok end ≡ step_of (optional flag (block p) bs place) → (x : Option (Block A)) × Passed flag p enc bs place x end
stepped {p = p} flag bs P h l e = step-got (optional flag (block p) bs _) (sym e) λ x q. (x, passed flag bs P h l x q)

-- the subset, with its parts
pub parts-got : (flag : Bool) (ss : List System) (bs : List Bool) {place : ℕ} {read : Read SubsetPlan} → Masked ss → 0 < place → place ≤ length bs
    → SubsetReadIf flag ss bs place (Ok read) → (x : Option (Block (List Subset))) × Passed flag (subset ss) subsets_bits bs place x read.end × PartsStand bs ss (subsets_in x) read.plan
unfolding ◌>>=◌ ret
parts-got true ss bs M h l (b, e, t) = (some b, passed true bs (subset-reads ss M) h l (some b) (rw e), t)
parts-got false ss bs {place} {read} M h l e =
    let t : read.plan ≡ record { first = None; second = None } = cc in
    let u : read.end ≡ place = cc in
    (none, passed false bs (subset-reads ss M) h l none (rw u), rw t (no-parts ss))

pub parts-refused : (flag : Bool) (ss : List System) (bs : List Bool) (place : ℕ) {r : RefusalAt} → SubsetReadIf flag ss bs place (Err r) → optional flag (block (subset ss)) bs place ≡ bad r
unfolding ◌>>=◌ ret
parts-refused true ss bs place e = rw e
parts-refused false ss bs place e = absurd (let z : ◌≡◌ {A = ℕ} 0 1 = cc in omega arith)

pub masked : {ss : List System} {place : ℕ} {plan : MaskPlan} → MaskOf ss place plan → Masked ss
masked k = record { few = k.few; ids = k.differ; systems = k.each }

-- ---- all of them: each flag is a bit of the header
pub flag : (h : Header) (bs : List Bool) → h.flags ≡ take 6 (drop 12 bs) → (i : ℕ) → i < 6 → get_or h.flags i false ≡ get_or bs (12 + i) false
flag h bs e i l = rw e (get_or-take 6 (drop 12 bs) i false l ∙ get_or-drop 12 bs i false)

abbrev pub flagged : {A : Type 0} → List Bool → ℕ → Parser A → Parser (Option (Block A))
flagged bs i p = optional (get_or bs i false) (block p)

module _ (h : Header) (own : Option Mask) (ss : List System) (bs : List Bool) (place : ℕ) (fl : h.flags ≡ take 6 (drop 12 bs)) where
  pub bad-orbits : {r : RefusalAt} → flagged bs 13 (orbits ss) bs place ≡ bad r → blocks h own ss bs place ≡ bad r
  unfolding blocks ◌>>=◌
  bad-orbits e = rw (flag h bs fl 1 (omega arith), e)

  module _ {os : Option (Block (List (List Orbit)))} {a : ℕ} (e1 : flagged bs 13 (orbits ss) bs place ≡ got os a) where
    pub bad-clocks : {r : RefusalAt} → flagged bs 14 (clocks ss) bs a ≡ bad r → blocks h own ss bs place ≡ bad r
    unfolding blocks ◌>>=◌
    bad-clocks e = rw (flag h bs fl 1 (omega arith), flag h bs fl 2 (omega arith), e1, e)

    module _ {cs : Option (Block Clocks)} {b : ℕ} (e2 : flagged bs 14 (clocks ss) bs a ≡ got cs b) where
      pub bad-subset : {r : RefusalAt} → flagged bs 15 (subset ss) bs b ≡ bad r → blocks h own ss bs place ≡ bad r
      unfolding blocks ◌>>=◌
      bad-subset e = rw (flag h bs fl 1 (omega arith), flag h bs fl 2 (omega arith), flag h bs fl 3 (omega arith), e1, e2, e)

      module _ {sub : Option (Block (List Subset))} {c : ℕ} (e3 : flagged bs 15 (subset ss) bs b ≡ got sub c) where
        pub bad-codes : {r : RefusalAt} → flagged bs 16 (codes ss) bs c ≡ bad r → blocks h own ss bs place ≡ bad r
        unfolding blocks ◌>>=◌
        bad-codes e = rw (flag h bs fl 1 (omega arith), flag h bs fl 2 (omega arith), flag h bs fl 3 (omega arith), flag h bs fl 4 (omega arith), e1, e2, e3, e)

        module _ {xs : Option (Block (List (List ℕ)))} {d : ℕ} (e4 : flagged bs 16 (codes ss) bs c ≡ got xs d) where
          -- the last one, read or refused
          at-phases : blocks h own ss bs place
              ≡ next (flagged bs 17 (phases ss) bs d) (λ ps end. got (record { header = h; mask = own; orbits = os; clocks = cs; subset = sub; codes = xs; phases = ps }) end)
          unfolding blocks ◌>>=◌ ret
          at-phases =
              rw (flag h bs fl 1 (omega arith), flag h bs fl 2 (omega arith), flag h bs fl 3 (omega arith), flag h bs fl 4 (omega arith), flag h bs fl 5 (omega arith), e1, e2, e3, e4)

          pub bad-phases : {r : RefusalAt} → flagged bs 17 (phases ss) bs d ≡ bad r → blocks h own ss bs place ≡ bad r
          bad-phases e = at-phases ∙ rw e

-- ---- each block that is passed over, behind those before it
module _ {ss : List System} {k : ℕ} {mask : MaskPlan} (o : MaskOf ss k mask) (bs : List Bool) {at : ℕ} (ahead : 0 < at) (fits : at ≤ length bs) where
  module _ {a : ℕ} (e1 : Ok a ≡ step_of (flagged bs 13 (orbits ss) bs at)) where
    pub orbits-passed : (x : Option (Block (List (List Orbit)))) × Passed (get_or bs 13 false) (orbits ss) (orbits_bits ss) bs at x a
    orbits-passed = stepped (get_or bs 13 false) bs (orbits-reads ss) ahead fits e1

    module _ {b : ℕ} (e2 : Ok b ≡ step_of (flagged bs 14 (clocks ss) bs a)) where
      pub clocks-passed : (x : Option (Block Clocks)) × Passed (get_or bs 14 false) (clocks ss) clocks_bits bs a x b
      clocks-passed = stepped (get_or bs 14 false) bs (clocks-reads ss) orbits-passed.1.ahead orbits-passed.1.fits e2

      module _ (read : Read SubsetPlan) (e3 : SubsetReadIf (get_or bs 15 false) ss bs b (Ok read)) where
        pub subset-passed : (x : Option (Block (List Subset))) × Passed (get_or bs 15 false) (subset ss) subsets_bits bs b x read.end × PartsStand bs ss (subsets_in x) read.plan
        subset-passed = parts-got (get_or bs 15 false) ss bs (masked o) clocks-passed.1.ahead clocks-passed.1.fits e3

        module _ {d : ℕ} (e4 : Ok d ≡ step_of (flagged bs 16 (codes ss) bs read.end)) where
          pub codes-passed : (x : Option (Block (List (List ℕ)))) × Passed (get_or bs 16 false) (codes ss) codes_bits bs read.end x d
          codes-passed = stepped (get_or bs 16 false) bs (codes-reads ss) (subset-passed).1.ahead (subset-passed).1.fits e4

          module _ {end : ℕ} (e5 : Ok end ≡ step_of (flagged bs 17 (phases ss) bs d)) where
            pub phases-passed : (x : Option (Block (List (List Phase)))) × Passed (get_or bs 17 false) (phases ss) phases_bits bs d x end
            phases-passed = stepped (get_or bs 17 false) bs (phases-reads ss) codes-passed.1.ahead codes-passed.1.fits e5

-- what is passed over stands where the plan says
pub planned : (h : Header) (own : Option Mask) (ss : List System) (bs : List Bool) (place : ℕ) → h.flags ≡ take 6 (drop 12 bs)
    → (os : Option (Block (List (List Orbit)))) (cs : Option (Block Clocks)) (sub : Option (Block (List Subset))) (xs : Option (Block (List (List ℕ)))) (ps : Option (Block (List (List Phase)))) (plan : Plan)
    {a b c d end : ℕ} → Passed (get_or bs 13 false) (orbits ss) (orbits_bits ss) bs place os a → Passed (get_or bs 14 false) (clocks ss) clocks_bits bs a cs b
    → Passed (get_or bs 15 false) (subset ss) subsets_bits bs b sub c × PartsStand bs ss (subsets_in sub) plan.parts → Passed (get_or bs 16 false) (codes ss) codes_bits bs c xs d
    → Passed (get_or bs 17 false) (phases ss) phases_bits bs d ps end
    → {f g i j k : Bool} → f ≡ get_or bs 13 false → g ≡ get_or bs 14 false → i ≡ get_or bs 15 false → j ≡ get_or bs 16 false → k ≡ get_or bs 17 false
    → plan.orbit ≡ then_some f place → plan.clock ≡ then_some g a → plan.subset ≡ then_some i b → plan.code ≡ then_some j c → plan.phase ≡ then_some k d
    → BlocksRead h own ss bs place plan.lent plan.mask (Ok plan)
planned h own ss bs place fl os cs sub xs ps plan {end = end} P Q (R, t) S T f g i j k o u v w x = (
  record { header = h; mask = own; orbits = os; clocks = cs; subset = sub; codes = xs; phases = ps },
  end,
  at-phases h own ss bs place fl P.read Q.read R.read S.read ∙ rw T.read,
  record { orbit = rw (o, f) P.stands; clock = rw (u, g) Q.stands; subset = rw (v, i) R.stands; parts = t; code = rw (w, j) S.stands; phase = rw (x, k) T.stands },
  refl,
  refl,
)

-- ---- whether a block needs a mask
-- a test, or else another, as the code comes to it
pub or-first : {a b v : Bool} (c : Bool) → a ≡ true → v ≡ a → a ≡ b → v ≡ (b || c)
or-first c t e f = e ∙ t ∙ ap (λ (x : Bool). x || c) (sym t ∙ f)

pub or-second : {a b v d c : Bool} → a ≡ false → v ≡ d → a ≡ b → d ≡ c → v ≡ (b || c)
or-second {c = c} t e f g = e ∙ g ∙ ap (λ (x : Bool). x || c) (sym t ∙ f)

nested : (a b c d e : Bool) → (a || b || c || d || e) ≡ (a || (b || (c || (d || e))))
nested true b c d e = refl
nested false true c d e = refl
nested false false true d e = refl
nested false false false true e = refl
nested false false false false e = refl

pub needs-mask : (h : Header) (bs : List Bool) → h.flags ≡ take 6 (drop 12 bs)
    → (get_or bs 13 false || get_or bs 14 false || get_or bs 15 false || get_or bs 16 false || get_or bs 17 false) ≡ needs_mask h
needs-mask h bs e = rw (flag h bs e 1 (omega arith), flag h bs e 2 (omega arith), flag h bs e 3 (omega arith), flag h bs e 4 (omega arith), flag h bs e 5 (omega arith))
    (nested (get_or bs 13 false) (get_or bs 14 false) (get_or bs 15 false) (get_or bs 16 false) (get_or bs 17 false))
