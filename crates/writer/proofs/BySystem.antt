-- What the first and the second system's records give, one behind another, is what each system gives at its place.
-- A mask has at most two systems, so by cases; what is listed by system is then taken row by row.
use Prim.Native.Nat.{ℕ, suc, ◌+◌}
use native.Mathlib.Omega.{arith}
use mathlib.Core.Bool.{Bool}
use mathlib.Core.List.{List, [], ◌∷◌, ◌++◌, append-nil}
use mathlib.Core.Option.{some}
use mathlib.Core.Path.{◌≡◌, refl, sym, ap, ap₂, ◌∙◌}
use lib.ListN.{length, get_or}
use Rattle.mt1.specs.Message.{System, Message}
use Rattle.mt1.specs.Encode.{each, each_of}
use Rattle.mt1.specs.Valid.{SystemOk, EachOf}
use Rattle.mt1.specs.Records.{at, system_records}
use Rattle.mt1.proofs.Several.{each_of_lem}
use Rattle.mt1.proofs.Elements.{each_at}
use Rattle.mt1.proofs.Blocks.{Masked}
use Rattle.mt1.proofs.Counts.{records_of_system, one-system}
use Rattle.writer.specs.declared.part.Part.{Part}
use Rattle.writer.specs.Rendering.{gather, gathered, both}
use Rattle.writer.proofs.Cutting.{first, second}

-- ---- the systems, one behind another
-- of each system, at its place, and together
module _ {X : Type 0} (◌·◌ : X → X → X) (nothing : X) where
  infixl 20 ◌·◌
  abbrev pub over : (ℕ → System → X) → List System → X
  over f [] = nothing
  over f (s ∷ ss) = f 0 s · over (λ p. f (suc p)) ss

  -- what the records of the first and of the second give
  pub by-system : ((x : X) → x · nothing ≡ x) → (m : Message) (g : List ℕ → X) (f : ℕ → System → X) (ss : List System) → Masked ss → g [] ≡ nothing
      → ((p : ℕ) (s : System) → at ss p ≡ some s → SystemOk s → g (records_of_system m p s) ≡ f p s) → g (first m ss) · g (second m ss) ≡ over f ss
  unfolding at system_records
  by-system right m g f [] k e h = ap₂ ◌·◌ e e ∙ right nothing
  by-system right m g f (s ∷ []) k e h = ap₂ ◌·◌ (h 0 s refl k.systems.0) e
  by-system right m g f (s ∷ t ∷ []) k e h =
      ap₂ ◌·◌ (h 0 s refl k.systems.0) (ap g (one-system m 1 t) ∙ h 1 t refl k.systems.1.0 ∙ sym (right (f 1 t)))
  by-system right m g f (s ∷ t ∷ u ∷ ss) k e h = absurd (let z : ⊥ = omega (arith, k.few) in z)

-- bits, of values listed by system
abbrev pub bits_over : (ℕ → System → List Bool) → List System → List Bool
bits_over f ss = over ◌++◌ [] f ss

over-rows : {A : Type 0} (P : System → List A → Type 0) (enc : System → List A → List Bool) (ss : List System) (rows : List (List A)) → EachOf P ss rows
    → bits_over (λ p s. enc s (get_or rows p [])) ss ≡ each_of enc ss rows
unfolding each_of
over-rows P enc [] [] o = refl
over-rows P enc [] (r ∷ rows) o = absurd o
over-rows P enc (s ∷ ss) [] o = absurd o
over-rows P enc (s ∷ ss) (r ∷ rows) o = ap (λ (l : List Bool). enc s r ++ l) (over-rows P enc ss rows o.1)

pub systems-each : (f : System → List Bool) (ss : List System) → bits_over (λ p s. f s) ss ≡ each f ss
unfolding each
systems-each f [] = refl
systems-each f (s ∷ ss) = ap (λ (l : List Bool). f s ++ l) (systems-each f ss)

module _ (m : Message) (ss : List System) (k : Masked ss) where
  pub bits-by-system : (g : List ℕ → List Bool) (f : ℕ → System → List Bool) → g [] ≡ []
      → ((p : ℕ) (s : System) → at ss p ≡ some s → SystemOk s → g (records_of_system m p s) ≡ f p s) → g (first m ss) ++ g (second m ss) ≡ bits_over f ss
  bits-by-system g f e h = by-system ◌++◌ [] append-nil m g f ss k e h

  -- a part, of rows by system
  pub both-rows : {A : Type 0} (p : Part) (P : System → List A → Type 0) (enc : System → List A → List Bool) (rows : List (List A)) → EachOf P ss rows
      → ((q : ℕ) (s : System) → SystemOk s → P s (get_or rows q []) → gathered p (records_of_system m q s) ≡ enc s (get_or rows q []))
      → both p (first m ss) (second m ss) ≡ each_of enc ss rows
  unfolding gathered gather
  both-rows p P enc rows o h =
      bits-by-system (gathered p) (λ q s. enc s (get_or rows q [])) refl (λ q s e ok. h q s ok (each_at P [] ss rows q o e))
      ∙ over-rows P enc ss rows o

  pub both-same : {A : Type 0} (p : Part) (P : System → List A → Type 0) (enc : List A → List Bool) (rows : List (List A)) → EachOf P ss rows
      → ((q : ℕ) (s : System) → SystemOk s → P s (get_or rows q []) → gathered p (records_of_system m q s) ≡ enc (get_or rows q []))
      → both p (first m ss) (second m ss) ≡ each enc rows
  both-same p P enc rows o h = both-rows p P (λ s. enc) rows o h ∙ each_of_lem P enc ss rows o

-- how many of something the systems have
abbrev pub total : (System → ℕ) → List System → ℕ
total f ss = over ◌+◌ 0 (λ p s. f s) ss

pub total-one : (ss : List System) → total (λ s. 1) ss ≡ length ss
total-one [] = refl
total-one (s ∷ ss) = omega (arith, total-one ss)
