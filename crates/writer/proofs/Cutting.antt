-- Where a list of records is cut: the records of its first and of its second system.
-- A system's own record is of kind 2, its satellites' are of kind 3 and its cells' of kind 4, so the next of kind 2 is the second system's.
use Prim.Native.Nat.{ℕ, ◌+◌, ◌*◌, ◌-◌, ◌/◌}
use native.Mathlib.Nat.{add-zero, zero-add}
use native.Mathlib.Numerals.{add-one}
use native.Mathlib.Omega.{arith}
use mathlib.Core.Bool.{false, ◌&&◌}
use mathlib.Core.List.{List, [], ◌∷◌, ◌++◌, append_assoc}
use mathlib.Core.Path.{◌≡◌, refl, sym, ap, ap₂, ◌∙◌}
use lib.ListN.{length, get_or, take, drop, length-append}
use lib.Seq.{drop_at, drop-drop, take-append_seam, drop-append_seam}
use borrow.Author.Tests.{ne_eqb}
use Rattle.lists.specs.Lists.{Every}
use Rattle.lists.proofs.Tests.{cond-holds}
use Rattle.mt1.specs.Message.{System, Message, count_before, cells_of}
use Rattle.mt1.specs.Valid.{SystemOk}
use Rattle.mt1.specs.Records.{header_record, system_record, satellite_record, cell_record, build, cell_place, cell_records, satellite_records, system_records, records}
use Rattle.mt1.proofs.Counts.{length-header, length-system, length-satellite, length-cell, records_of_system}
use Rattle.mt1.proofs.Building.{build-holds}
use Rattle.writer.specs.Rendering.{is_kind, rendered_of, until_system, second_at, rendered}
use Rattle.writer.proofs.SecondSystem.{until_stop, until_go}
use Rattle.writer.proofs.Gathering.{kind-front}

-- ---- records that are no system's
record Passed (l : List ℕ) : Type 0 where
  pub n : ℕ
  pub size : length l ≡ 16 * n
  pub passes : (k : ℕ) (rest : List ℕ) → until_system (k + n) (l ++ rest) ≡ 16 * n + until_system k rest

passed_none : Passed []
passed_none = record { n = 0; size = refl; passes = λ k rest. ap (λ (j : ℕ). until_system j rest) (add-zero k) ∙ sym (zero-add (until_system k rest)) }

passed_join : {a b : List ℕ} → Passed a → Passed b → Passed (a ++ b)
passed_join {a} {b} p q = record {
  n = q.n + p.n;
  size = omega (arith, p.size, q.size, length-append a b);
  passes = λ k rest.
      let e : k + (q.n + p.n) ≡ k + q.n + p.n = omega arith in
      ap₂ until_system e (append_assoc a b rest) ∙ p.passes (k + q.n) (b ++ rest) ∙ omega (arith, q.passes k rest);
}

passed_record : (r : List ℕ) → length r ≡ 16 → is_kind 2 r ≡ false → Passed r
passed_record r e f = record {
  n = 1;
  size = e;
  passes = λ k rest.
      ap (λ (j : ℕ). until_system j (r ++ rest)) (add-one k) ∙ until_go k (r ++ rest) (kind-front r rest (omega (arith, e)) 2 ∙ f)
      ∙ ap (λ (l : List ℕ). 16 + until_system k l) (drop_at r rest 16 e);
}

passed-build : (f : ℕ → List ℕ) → ((i : ℕ) → Passed (f i)) → (n : ℕ) → Passed (build n f)
passed-build = build-holds Passed passed_none (λ a b p q. passed_join p q)

module _ (m : Message) (p : ℕ) (s : System) where
  passed-satellite : (i n : ℕ) → Passed (satellite_record m p s i n)
  unfolding satellite_record
  passed-satellite i n = passed_record (satellite_record m p s i n) (length-satellite m p s i n) refl

  passed-cell : (i g n : ℕ) → Passed (cell_record m p i g n)
  unfolding cell_record
  passed-cell i g n = passed_record (cell_record m p i g n) (length-cell m p i g n) refl

  passed-cells : (i g : ℕ) → Passed (cell_records m p s i g)
  unfolding cell_records
  passed-cells i g =
      cond-holds Passed (get_or s.signals g false && get_or (cells_of s) (cell_place s i g) false) (passed-cell i g (count_before (cells_of s) (cell_place s i g))) passed_none

  passed-row : (i : ℕ) → Passed (satellite_records m p s i)
  unfolding satellite_records
  passed-row i =
      cond-holds Passed (get_or s.satellites i false) (passed_join (passed-satellite i (count_before s.satellites i)) (passed-build (cell_records m p s i) (passed-cells i) 16)) passed_none

  passed-satellites : Passed (build 40 (satellite_records m p s))
  passed-satellites = passed-build (satellite_records m p s) passed-row 40

-- and one that is
stops-systems : (m : Message) (p : ℕ) (ss : List System) → until_system (length (system_records m p ss) / 16) (system_records m p ss) ≡ 0
unfolding system_records system_record until_system
stops-systems m p [] = refl
stops-systems m p (s ∷ ss) = until_stop (length (system_records m p (s ∷ ss)) / 16) (system_records m p (s ∷ ss)) refl

-- ---- the records of the first system, and of the second
abbrev pub first : Message → List System → List ℕ
first m [] = []
first m (s ∷ ss) = records_of_system m 0 s

abbrev pub second : Message → List System → List ℕ
second m [] = []
second m (s ∷ ss) = system_records m 1 ss

module _ (m : Message) (s : System) (ss : List System) (o : SystemOk s) where
  abbrev own : List ℕ
  own = build 40 (satellite_records m 0 s)

  abbrev rest : List ℕ
  rest = system_records m 1 ss

  behind : drop 16 (records (s ∷ ss) m) ≡ system_record m 0 s ++ (own ++ rest)
  unfolding records system_records
  behind = drop_at (header_record m) (system_record m 0 s ++ (own ++ rest)) 16 (length-header m)

  size : length (records (s ∷ ss) m) ≡ 32 + (length own + length rest)
  unfolding records system_records
  size = omega (arith, length-append (header_record m) (system_record m 0 s ++ (own ++ rest)), length-append (system_record m 0 s) (own ++ rest), length-append own rest, length-header m, length-system m 0 s o)

  second_at_lem : second_at (records (s ∷ ss) m) ≡ 32 + length own
  unfolding second_at
  second_at_lem =
      let l : List ℕ = records (s ∷ ss) m in
      let f : drop 32 l ≡ own ++ rest = sym (drop-drop 16 16 l) ∙ ap (drop 16) behind ∙ drop_at (system_record m 0 s) (own ++ rest) 16 (length-system m 0 s o) in
      let p = passed-satellites m 0 s in
      let k : length l / 16 - 2 ≡ length rest / 16 + p.n = omega (arith, size, p.size) in
      let g : until_system (length l / 16 - 2) (drop 32 l) ≡ length own = ap₂ until_system k f ∙ p.passes (length rest / 16) rest ∙ omega (arith, stops-systems m 1 ss, p.size) in
      rw (ne_eqb (length l) 16 (λ h. let z : ⊥ = omega (arith, size, h) in z), g)

  cut : rendered (records (s ∷ ss) m) ≡ rendered_of (records (s ∷ ss) m) (records_of_system m 0 s) rest
  unfolding rendered
  cut =
      let l : List ℕ = records (s ∷ ss) m in
      let a : List ℕ = records_of_system m 0 s in
      let e : second_at l - 16 ≡ length a = omega (arith, second_at_lem, length-append (system_record m 0 s) own, length-system m 0 s o) in
      let f : second_at l ≡ 16 + length a = omega (arith, e, second_at_lem) in
      let b : drop 16 l ≡ a ++ rest = behind ∙ sym (append_assoc (system_record m 0 s) own rest) in
      ap₂ (rendered_of l)
      (ap₂ take e b ∙ take-append_seam a rest)
      (ap (λ (n : ℕ). drop n l) f ∙ sym (drop-drop (length a) 16 l) ∙ ap (drop (length a)) b ∙ drop-append_seam a rest)

pub rendered-cut : (m : Message) (ss : List System) → Every SystemOk ss → rendered (records ss m) ≡ rendered_of (records ss m) (first m ss) (second m ss)
unfolding rendered second_at records header_record system_records
rendered-cut m [] o = refl
rendered-cut m (s ∷ ss) o = cut m s ss o.0
