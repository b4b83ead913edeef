-- For k different legal numbers and any octets there is a column of k octets whose pages have them.
-- Elimination ends in it: a column without a pivot would give a column other than 0 whose pages are all 0, against uniqueness.
use mathlib.Core.Path.{◌≡◌, refl, sym, ap, ap₂, ◌∙◌, subst}
use mathlib.Core.List.{List}
use mathlib.Core.Logic.{◌≢◌, ◌⊎◌, inl, inr}
use Prim.Native.Nat.{ℕ, zero, suc, ◌+◌, ◌-◌, ◌≤◌, ◌<◌}
use native.Mathlib.Decide.{ℕ_discrete, dec_lt}
use native.Mathlib.Omega.{arith}
use lib.ListN.{length, get_or}
use Rattle.pagecode.specs.Field.{◌⊕◌, ◌⊗◌, Octets}
use Rattle.pagecode.specs.Page.{list_of, page_octet}
use Rattle.pagecode.specs.Matrix.{matrix_entry}
use Rattle.pagecode.specs.System.{sum, dot, Kills, Cleared}
use Rattle.pagecode.proofs.LegalNumbers.{Pages}
use Rattle.pagecode.proofs.Linear.{⊕-lt, ⊕-zero}
use Rattle.pagecode.proofs.Laws.{⊗-lt, ⊗-zero, ⊗-one}
use Rattle.pagecode.proofs.Tables.{inverses}
use Rattle.pagecode.proofs.Power.{⊗-inverse, inverses-lt}
use Rattle.pagecode.proofs.Distance.{same}
use Rattle.pagecode.proofs.Unique.{unique}
use Rattle.pagecode.proofs.Kernel.{sum-cong, start, swapped, advance, stuck, solved, vec, vec-one, vec-none, vec_lt, sel_lt, sel, sel_yes, sel_no}
use Rattle.pagecode.proofs.Listed.{listed-length, listed-get, listed-octets}
use Rattle.pagecode.proofs.Entries.{entry_lt, page-none, page-sum}

-- ---- a pivot, or none
find : (f : ℕ → ℕ) (lo n : ℕ) → ((p : ℕ) × (lo ≤ p) × (p < lo + n) × (f p ≢ 0)) ⊎ ((r : ℕ) → lo ≤ r → r < lo + n → f r ≡ 0)
find f lo zero = inr (λ r h l. absurd (omega arith))
find f lo (suc n) = pick (ℕ_discrete (f (lo + n)) 0) (find f lo n)
  where
    pick : Dec (f (lo + n) ≡ 0) → ((p : ℕ) × (lo ≤ p) × (p < lo + n) × (f p ≢ 0)) ⊎ ((r : ℕ) → lo ≤ r → r < lo + n → f r ≡ 0)
        → ((p : ℕ) × (lo ≤ p) × (p < lo + suc n) × (f p ≢ 0)) ⊎ ((r : ℕ) → lo ≤ r → r < lo + suc n → f r ≡ 0)
    pick (no d) s = inl (lo + n, omega arith, omega arith, d)
    pick (yes e) (inl s) = inl (s.0, s.1, omega (arith, s.2), s.3)
    pick (yes e) (inr s) = inr (λ r h l. last r h l (ℕ_discrete r (lo + n)))
      where
        last : (r : ℕ) → lo ≤ r → r < lo + suc n → Dec (r ≡ lo + n) → f r ≡ 0
        last r h l (yes i) = ap f i ∙ e
        last r h l (no i) = s r h (omega arith)

-- ---- the two steps, as functions
turned : ℕ → ℕ → (ℕ → ℕ → ℕ) → ℕ → ℕ → ℕ
turned p q F r c = sel (ℕ_discrete r p) (F q c) (sel (ℕ_discrete r q) (F p c) (F r c))

turned-q : (p q : ℕ) (F : ℕ → ℕ → ℕ) (c : ℕ) → Dec (q ≡ p) → turned p q F q c ≡ F p c
unfolding turned
turned-q p q F c (yes e) = sel_yes (ℕ_discrete q p) _ _ e ∙ ap (λ (x : ℕ). F x c) e
turned-q p q F c (no d) = sel_no (ℕ_discrete q p) _ _ d ∙ sel_yes (ℕ_discrete q q) _ _ refl

swept : ℕ → ℕ → (ℕ → ℕ → ℕ) → ℕ → ℕ → ℕ
swept s q F r c = sel (ℕ_discrete r q) (s ⊗ F q c) (F r c ⊕ F r q ⊗ (s ⊗ F q c))

module _ (k n : ℕ) (E : ℕ → ℕ → ℕ) (kn : k ≤ n) where
  turn : (q p : ℕ) (F : ℕ → ℕ → ℕ) → q ≤ p → p < k → Cleared k n q E F → Cleared k n q E (turned p q F)
  unfolding turned
  turn q p F lo hi s =
      swapped k n q E F (turned p q F) (omega arith) kn s (λ r c. sel_lt _ _ _ (s.octets q c) (sel_lt _ _ _ (s.octets p c) (s.octets r c))) p lo hi
      (λ c h. sel_yes (ℕ_discrete p p) _ _ refl) (λ c h. turned-q p q F c (ℕ_discrete q p))
      (λ r c l d e h. sel_no (ℕ_discrete r p) _ _ d ∙ sel_no (ℕ_discrete r q) _ _ e)

  sweep : (q : ℕ) (F : ℕ → ℕ → ℕ) → q < k → F q q ≢ 0 → Cleared k n q E F → Cleared k n (suc q) E (swept (get_or inverses (F q q) 0) q F)
  unfolding swept
  sweep q F l d s =
      let i : ℕ = get_or inverses (F q q) 0 in
      advance k n q E F (swept i q F) l kn s (λ r c. sel_lt _ _ _ (⊗-lt i (F q c)) (⊕-lt _ _ (s.octets r c) (⊗-lt _ _))) i (inverses-lt (F q q) (s.octets q q)) (⊗-inverse (F q q) (s.octets q q) d)
      (λ c h. sel_yes (ℕ_discrete q q) _ _ refl)
      (λ r c h e g. sel_no (ℕ_discrete r q) _ _ e ∙ ap (λ (x : ℕ). F r c ⊕ F r q ⊗ x) (sym (sel_yes (ℕ_discrete q q) _ _ refl)))

  module _ (octets : (r c : ℕ) → E r c < 256)
      (only : (q : ℕ) (y : ℕ → ℕ) → q < k → ((j : ℕ) → y j < 256) → ((j : ℕ) → k ≤ j → y j ≡ 0) → Kills k n E y → y q ≡ 0) where
    -- no row has a pivot: the kernel would hold more than 0
    never : (q : ℕ) (F : ℕ → ℕ → ℕ) → q < k → Cleared k n q E F → ((r : ℕ) → r < k → q ≤ r → F r q ≡ 0) → ⊥
    never q F l s z = omega (arith, sym (vec-one q q (λ j. F j q) (omega arith)) ∙ only q (vec q q (λ j. F j q)) l small far (stuck k n q E F l kn s z))
      where
        small : (j : ℕ) → vec q q (λ i. F i q) j < 256
        small j = vec_lt q q (λ i. F i q) j (λ i. s.octets i q)

        far : (j : ℕ) → k ≤ j → vec q q (λ i. F i q) j ≡ 0
        far j h = vec-none q q (λ i. F i q) j (omega arith) (omega arith)

    pub eliminated : (q : ℕ) → q ≤ k → (F : ℕ → ℕ → ℕ) × Cleared k n q E F
    eliminated zero h = (E, start k n E octets)
    eliminated (suc q) h = next (eliminated q (omega arith))
      where
        next : (F : ℕ → ℕ → ℕ) × Cleared k n q E F → (F : ℕ → ℕ → ℕ) × Cleared k n (suc q) E F
        next (F, s) = pick (find (λ r. F r q) q (k - q))
          where
            pick : ((p : ℕ) × (q ≤ p) × (p < q + (k - q)) × (F p q ≢ 0)) ⊎ ((r : ℕ) → q ≤ r → r < q + (k - q) → F r q ≡ 0) → (G : ℕ → ℕ → ℕ) × Cleared k n (suc q) E G
            pick (inl (p, lo, hi, d)) = (_, sweep q (turned p q F) (omega arith) (λ e. d (sym (turned-q p q F q (ℕ_discrete q p)) ∙ e)) (turn q p F lo (omega arith) s))
            pick (inr z) = absurd (never q F (omega arith) s (λ r l m. z r m (omega arith)))

-- ---- the pages
module _ (k : ℕ) (ps : List ℕ) (k32 : k ≤ 32) (pages : Pages k ps) where
  -- the columns whose pages are all 0
  pub trivial : (y : ℕ → ℕ) → ((j : ℕ) → y j < 256) → ((r : ℕ) → r < k → dot k (matrix_entry (get_or ps r 0)) y ≡ 0) → (q : ℕ) → q < k → y q ≡ 0
  trivial y o z q l = sym (listed-get k y q l) ∙ ap (λ (f : List ℕ). get_or f q 0) equal ∙ listed-get k (λ i. 0) q l
    where
      len : length (list_of k y) ≡ k
      len = listed-length k y

      equal : list_of k y ≡ list_of k (λ i. 0)
      equal =
          unique (list_of k y) (list_of k (λ i. 0)) ps (listed-octets k y (λ i h. o i)) (listed-octets k (λ i. 0) (λ i h. omega arith)) (omega (arith, len)) (listed-length k (λ i. 0) ∙ sym len)
          (subst (λ (x : ℕ). Pages x ps) (sym len) pages) (λ i h. page-sum (get_or ps i 0) y o k k32 ∙ z i (omega (arith, len)) ∙ sym (page-none k (get_or ps i 0)))

  module _ (w : ℕ → ℕ) (small : (r : ℕ) → w r < 256) where
    system : ℕ → ℕ → ℕ
    system r c = sel (dec_lt c k) (matrix_entry (get_or ps r 0) c) (w r)

    system-lt : (r c : ℕ) → system r c < 256
    unfolding system
    system-lt r c = sel_lt _ _ _ (entry_lt (get_or ps r 0) c) (small r)

    -- a row against y
    row : (r : ℕ) (y : ℕ → ℕ) → dot (suc k) (system r) y ≡ dot k (matrix_entry (get_or ps r 0)) y ⊕ w r ⊗ y k
    unfolding sum system
    row r y =
        ap₂ ◌⊕◌ (sum-cong k (λ c. system r c ⊗ y c) (λ c. matrix_entry (get_or ps r 0) c ⊗ y c) (λ c l. ap (λ (x : ℕ). x ⊗ y c) (sel_yes (dec_lt c k) _ _ l)))
        (ap (λ (x : ℕ). x ⊗ y k) (sel_no (dec_lt k k) _ _ (λ l. omega arith)))

    pub exists : (m : List ℕ) × (length m ≡ k) × Octets m × ((r : ℕ) → r < k → page_octet m (get_or ps r 0) ≡ w r)
    exists = done (eliminated k (suc k) system (omega arith) system-lt only k (omega arith))
      where
        only : (q : ℕ) (y : ℕ → ℕ) → q < k → ((j : ℕ) → y j < 256) → ((j : ℕ) → k ≤ j → y j ≡ 0) → Kills k (suc k) system y → y q ≡ 0
        only q y l o far z =
            trivial y o (λ r h. sym (⊕-zero _) ∙ ap (λ (x : ℕ). dot k (matrix_entry (get_or ps r 0)) y ⊕ x) (sym (ap (λ (x : ℕ). w r ⊗ x) (far k (omega arith)) ∙ ⊗-zero (w r))) ∙ sym (row r y) ∙ z r h) q l

        done : (F : ℕ → ℕ → ℕ) × Cleared k (suc k) k system F → (m : List ℕ) × (length m ≡ k) × Octets m × ((r : ℕ) → r < k → page_octet m (get_or ps r 0) ≡ w r)
        done (F, s) =
            let y : ℕ → ℕ = vec k k (λ j. F j k) in (
              list_of k y,
              listed-length k y,
              listed-octets k y (λ i h. vec_lt k k (λ j. F j k) i (λ j. s.octets j k)),
              λ r l. page-sum (get_or ps r 0) y (λ i. vec_lt k k (λ j. F j k) i (λ j. s.octets j k)) k k32
                  ∙ same _ _ (sym (row r y) ∙ solved k (suc k) k system F (omega arith) (omega arith) s r l)
                  ∙ ap (λ (x : ℕ). w r ⊗ x) (vec-one k k (λ j. F j k) (omega arith)) ∙ ⊗-one (w r) (small r),
            )
