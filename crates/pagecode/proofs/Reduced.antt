-- With every column cleared the right sides are the solution (ICD Eq. 17), and a regular square has a pivot in every column.
-- The kernel of the cleared rows is known column by column, and only 0 is in that of a regular square.
use mathlib.Core.Path.{◌≡◌, refl, sym, ap, ◌∙◌, subst}
use mathlib.Core.List.{List, []}
use Prim.Native.Nat.{ℕ, ◌+◌, ◌-◌, ◌*◌, ◌≤◌, ◌<◌}
use native.Mathlib.Omega.{arith}
use lib.ListN.{length, get_or, drop}
use Rattle.pagecode.specs.Field.{◌⊕◌, ◌⊗◌, Octets}
use Rattle.pagecode.specs.System.{cell, sum, dot, Cleared, Pivoted, Regular, Equations}
use Rattle.pagecode.proofs.Laws.{⊗-zero, ⊗-one}
use Rattle.pagecode.proofs.Distance.{same}
use Rattle.pagecode.proofs.Kernel.{sum-cong, sum-cut, sum-far, start, stuck, solved, vec, vec-low, vec-one, vec-none, vec_lt}
use Rattle.pagecode.proofs.Cells.{cell-low, cell-high, cell-octets}

module _ (k : ℕ) (square : List (List ℕ)) (contents : List ℕ) (k32 : k ≤ 32) where
  split : 85 ≡ k + (85 - k)
  split = omega arith

  row : (r : ℕ) (y : ℕ → ℕ) → dot k (cell square contents r) y ≡ dot k (λ c. get_or (get_or square r []) c 0) y
  row r y = sum-cong k (λ c. cell square contents r c ⊗ y c) (λ c. get_or (get_or square r []) c 0 ⊗ y c) (λ c m. ap (λ (x : ℕ). x ⊗ y c) (cell-low square contents r c (omega arith)))

  -- a regular square has a pivot
  pub pivoted : (q : ℕ) (F : ℕ → ℕ → ℕ) → q < k → Regular k square → Cleared k 85 q (cell square contents) F → Pivoted k q F
  pivoted q F l g s z =
      let none : y q ≡ 0 = g.only y (λ j. vec_lt q q (λ i. F i q) j (λ i. s.octets i q)) (λ r m. sym (short r) ∙ stuck k 85 q (cell square contents) F l (omega arith) s z r m) q l in
      omega (arith, sym (vec-one q q (λ j. F j q) (omega arith)) ∙ none)
    where
      y : ℕ → ℕ
      y = vec q q (λ j. F j q)

      short : (r : ℕ) → dot 85 (cell square contents r) y ≡ dot k (λ c. get_or (get_or square r []) c 0) y
      short r =
          ap (λ (n : ℕ). sum n (λ c. cell square contents r c ⊗ y c)) split
          ∙ sum-cut k (85 - k) (λ c. cell square contents r c ⊗ y c) (λ j a b. ap (λ (x : ℕ). cell square contents r j ⊗ x) (vec-none q q (λ i. F i q) j (omega arith) (omega arith)) ∙ ⊗-zero _)
          ∙ row r y

  -- with every column cleared, the right sides are the solution
  equations : (n : List (List ℕ)) (message : List ℕ) → ((r c : ℕ) → cell square contents r c < 256) → Cleared k 85 k (cell square contents) (cell n message) → Equations k square message contents
  equations n message octets s = record { holds = holds' }
    where
      holds' : (r j : ℕ) → r < k → j < 53 → dot k (λ c. get_or (get_or square r []) c 0) (λ c. get_or message (c * 53 + j) 0) ≡ get_or contents (r * 53 + j) 0
      holds' r j l m =
          sum-cong k (λ c. get_or (get_or square r []) c 0 ⊗ get_or message (c * 53 + j) 0) (λ c. get_or (get_or square r []) c 0 ⊗ y c) (λ c h. ap (λ (x : ℕ). get_or (get_or square r []) c 0 ⊗ x) (sym (known c h)))
          ∙ sym (row r y)
          ∙ same _ _ (sym whole ∙ solved k 85 (32 + j) (cell square contents) (cell n message) (omega arith) (omega arith) s r l)
          ∙ ap (λ (x : ℕ). cell square contents r (32 + j) ⊗ x) (vec-one k (32 + j) (λ i. cell n message i (32 + j)) (omega arith))
          ∙ ⊗-one (cell square contents r (32 + j)) (octets r (32 + j)) ∙ right square contents r
        where
          y : ℕ → ℕ
          y = vec k (32 + j) (λ i. cell n message i (32 + j))

          place : 32 + j - 32 ≡ j
          place = omega arith

          right : (n : List (List ℕ)) (s : List ℕ) (c : ℕ) → cell n s c (32 + j) ≡ get_or s (c * 53 + j) 0
          right n s c = cell-high n s c (32 + j) (omega arith) ∙ ap (λ (i : ℕ). get_or s (c * 53 + i) 0) place

          known : (c : ℕ) → c < k → y c ≡ get_or message (c * 53 + j) 0
          known c h = vec-low k (32 + j) (λ i. cell n message i (32 + j)) c h ∙ right n message c

          whole : dot 85 (cell square contents r) y ≡ dot k (cell square contents r) y ⊕ cell square contents r (32 + j) ⊗ y (32 + j)
          whole =
              ap (λ (n : ℕ). sum n (λ c. cell square contents r c ⊗ y c)) split
              ∙ sum-far k (85 - k) (32 + j) (λ c. cell square contents r c ⊗ y c) (omega arith) (omega arith)
              (λ i u v d. ap (λ (x : ℕ). cell square contents r i ⊗ x) (vec-none k (32 + j) (λ i. cell n message i (32 + j)) i u d) ∙ ⊗-zero _)

-- ---- the same, with the lists that the loop works on
pub record SolveLoop (k : ℕ) (n₀ : List (List ℕ)) (s₀ : List ℕ) (n : List (List ℕ)) (s : List ℕ) (q : ℕ) : Type 0 where
  pub octets : (r c : ℕ) → cell n₀ s₀ r c < 256
  pub cells : Cleared k 85 q (cell n₀ s₀) (cell n s)
  pub upto : q ≤ k
  pub long : length s ≡ 1696
  pub rest : drop (k * 53) s ≡ drop (k * 53) s₀

module _ (k : ℕ) (n₀ : List (List ℕ)) (s₀ : List ℕ) where
  pub solve-start : length s₀ ≡ 1696 → ((r : ℕ) → Octets (get_or n₀ r [])) → Octets s₀ → SolveLoop k n₀ s₀ n₀ s₀ 0
  solve-start h o p = record {
    octets = cell-octets n₀ s₀ o p;
    cells = start k 85 (cell n₀ s₀) (cell-octets n₀ s₀ o p);
    upto = omega arith;
    long = h;
    rest = refl;
  }

  pub solve-turn : (n m : List (List ℕ)) (s u : List ℕ) (q : ℕ) → q < k → length u ≡ 1696
      → Cleared k 85 (q + 1) (cell n s) (cell m u) × (drop (k * 53) u ≡ drop (k * 53) s) → SolveLoop k n₀ s₀ n s q → SolveLoop k n₀ s₀ m u (q + 1)
  solve-turn n m s u q l h (c, d) i = record {
    octets = i.octets;
    cells = record { step = λ y z. i.cells.step y (c.step y z); octets = c.octets; units = c.units };
    upto = omega arith;
    long = h;
    rest = d ∙ i.rest;
  }

  pub solve-end : (n : List (List ℕ)) (s : List ℕ) (q : ℕ) → k ≤ 32 → k ≤ q → SolveLoop k n₀ s₀ n s q → Equations k n₀ s s₀ × (drop (k * 53) s ≡ drop (k * 53) s₀)
  solve-end n s q h l i = (equations k n₀ s₀ h n s i.octets (subst (λ (m : ℕ). Cleared k 85 m (cell n₀ s₀) (cell n s)) all i.cells), i.rest)
    where
      all : q ≡ k
      all = omega (arith, i.upto)
