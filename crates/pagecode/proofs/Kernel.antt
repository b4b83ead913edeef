-- Elimination on k rows of n numbers, E r c in row r at column c: each step keeps the kernel, read backwards, so that what the new rows send
-- to 0 the old rows do. With q columns cleared, another column tells a vector that the rows send to 0.
use mathlib.Core.Path.{◌≡◌, refl, sym, ap, ap₂, ◌∙◌}
use mathlib.Core.Logic.{◌≢◌}
use Prim.Native.Nat.{ℕ, zero, suc, ◌+◌, ◌≤◌, ◌<◌}
use native.Mathlib.Nat.{add-zero, add-suc}
use native.Mathlib.Decide.{ℕ_discrete, dec_lt}
use native.Mathlib.Omega.{arith}
use Rattle.pagecode.specs.Field.{◌⊕◌, ◌⊗◌}
use Rattle.pagecode.specs.System.{sum, dot, Kills, Cleared}
use Rattle.pagecode.proofs.Linear.{⊗-add-l, ⊗-add-r, ⊕-self, ⊕-lt, zero-⊕, ⊕-zero, swap}
use Rattle.pagecode.proofs.Laws.{⊗-comm, ⊗-assoc, ⊗-lt, ⊗-zero, zero-⊗, ⊗-one}
use Rattle.pagecode.proofs.Power.{cancel}
use Rattle.pagecode.proofs.Distance.{same}

pub sum-cong : (n : ℕ) (f g : ℕ → ℕ) → ((i : ℕ) → i < n → f i ≡ g i) → sum n f ≡ sum n g
unfolding sum
sum-cong zero f g h = refl
sum-cong (suc n) f g h = ap₂ ◌⊕◌ (sum-cong n f g (λ i l. h i (omega arith))) (h n (omega arith))

pub sum-zero : (n : ℕ) (f : ℕ → ℕ) → ((i : ℕ) → i < n → f i ≡ 0) → sum n f ≡ 0
unfolding sum
sum-zero zero f h = refl
sum-zero (suc n) f h = ap₂ ◌⊕◌ (sum-zero n f (λ i l. h i (omega arith))) (h n (omega arith)) ∙ ⊕-self 0

pub sum-add : (n : ℕ) (f g : ℕ → ℕ) → sum n (λ i. f i ⊕ g i) ≡ sum n f ⊕ sum n g
unfolding sum
sum-add zero f g = sym (⊕-self 0)
sum-add (suc n) f g = ap (λ (x : ℕ). x ⊕ (f n ⊕ g n)) (sum-add n f g) ∙ swap _ _ _ _

pub sum-mul : (n s : ℕ) (f : ℕ → ℕ) → sum n (λ i. s ⊗ f i) ≡ s ⊗ sum n f
unfolding sum
sum-mul zero s f = sym (⊗-zero s)
sum-mul (suc n) s f = ap (λ (x : ℕ). x ⊕ s ⊗ f n) (sum-mul n s f) ∙ sym (⊗-add-r s (sum n f) (f n))

pub sum_lt : (n : ℕ) (f : ℕ → ℕ) → ((i : ℕ) → f i < 256) → sum n f < 256
unfolding sum
sum_lt zero f h = omega arith
sum_lt (suc n) f h = ⊕-lt _ _ (sum_lt n f h) (h n)

-- all but one are 0
pub sum_one : (n : ℕ) (f : ℕ → ℕ) (i : ℕ) → i < n → ((j : ℕ) → j < n → j ≢ i → f j ≡ 0) → sum n f ≡ f i
unfolding sum
sum_one zero f i l h = absurd (omega arith)
sum_one (suc n) f i l h = pick (λ k. sum_one n f i k (λ j m. h j (omega arith))) (ℕ_discrete i n)
  where
    pick : (i < n → sum n f ≡ f i) → Dec (i ≡ n) → sum n f ⊕ f n ≡ f i
    pick ih (yes e) = ap₂ ◌⊕◌ (sum-zero n f (λ j m. h j (omega arith) (omega arith))) (ap f (sym e)) ∙ zero-⊕ (f i)
    pick ih (no d) = ap₂ ◌⊕◌ (ih (omega arith)) (h n (omega arith) (omega arith)) ∙ ⊕-zero (f i)

-- ---- terms from k on that are 0, but for one at b
pub sum-cut : (k d : ℕ) (f : ℕ → ℕ) → ((j : ℕ) → k ≤ j → j < k + d → f j ≡ 0) → sum (k + d) f ≡ sum k f
unfolding sum
sum-cut k zero f h = ap (λ (n : ℕ). sum n f) (add-zero k)
sum-cut k (suc d) f h = ap (λ (n : ℕ). sum n f) (add-suc k d) ∙ ap₂ ◌⊕◌ (sum-cut k d f (λ j l m. h j l (omega arith))) (h (k + d) (omega arith) (omega arith)) ∙ ⊕-zero _

pub sum-far : (k d b : ℕ) (f : ℕ → ℕ) → k ≤ b → b < k + d → ((j : ℕ) → k ≤ j → j < k + d → j ≢ b → f j ≡ 0) → sum (k + d) f ≡ sum k f ⊕ f b
unfolding sum
sum-far k zero b f l m h = absurd (omega arith)
sum-far k (suc d) b f l m h = ap (λ (n : ℕ). sum n f) (add-suc k d) ∙ pick (λ i. sum-far k d b f l i (λ j u v. h j u (omega arith))) (ℕ_discrete b (k + d))
  where
    pick : (b < k + d → sum (k + d) f ≡ sum k f ⊕ f b) → Dec (b ≡ k + d) → sum (k + d) f ⊕ f (k + d) ≡ sum k f ⊕ f b
    pick ih (yes i) = ap₂ ◌⊕◌ (sum-cut k d f (λ j u v. h j u (omega arith) (omega arith))) (ap f (sym i))
    pick ih (no n) = ap₂ ◌⊕◌ (ih (omega arith)) (h (k + d) (omega arith) (omega arith) (omega arith)) ∙ ⊕-zero _

-- ---- the kernel
-- what a step may do to the rows: every y that the new ones kill the old ones kill
abbrev pub Step : ℕ → ℕ → (ℕ → ℕ → ℕ) → (ℕ → ℕ → ℕ) → Type 0
Step k n E F = (y : ℕ → ℕ) → Kills k n F y → Kills k n E y

dot-cong : (n : ℕ) (e f : ℕ → ℕ) (y : ℕ → ℕ) → ((c : ℕ) → c < n → e c ≡ f c) → dot n e y ≡ dot n f y
dot-cong n e f y h = sum-cong n (λ c. e c ⊗ y c) (λ c. f c ⊗ y c) (λ c l. ap (λ (x : ℕ). x ⊗ y c) (h c l))

dot-add : (n s : ℕ) (e f : ℕ → ℕ) (y : ℕ → ℕ) → dot n (λ c. e c ⊕ s ⊗ f c) y ≡ dot n e y ⊕ s ⊗ dot n f y
dot-add n s e f y =
    sum-cong n (λ c. (e c ⊕ s ⊗ f c) ⊗ y c) (λ c. e c ⊗ y c ⊕ s ⊗ (f c ⊗ y c)) (λ c l. ⊗-add-l (y c) (e c) (s ⊗ f c) ∙ ap (λ (x : ℕ). e c ⊗ y c ⊕ x) (⊗-assoc s (f c) (y c)))
    ∙ sum-add n (λ c. e c ⊗ y c) (λ c. s ⊗ (f c ⊗ y c)) ∙ ap (λ (x : ℕ). dot n e y ⊕ x) (sum-mul n s (λ c. f c ⊗ y c))

dot-mul : (n s : ℕ) (f : ℕ → ℕ) (y : ℕ → ℕ) → dot n (λ c. s ⊗ f c) y ≡ s ⊗ dot n f y
dot-mul n s f y = sum-cong n (λ c. s ⊗ f c ⊗ y c) (λ c. s ⊗ (f c ⊗ y c)) (λ c l. ⊗-assoc s (f c) (y c)) ∙ sum-mul n s (λ c. f c ⊗ y c)

module _ (k n : ℕ) (E F : ℕ → ℕ → ℕ) where
  -- a row p of the old ones times s, and the others plus multiples of it
  pub clear : (p s : ℕ) (m : ℕ → ℕ) → p < k → s < 256 → s ≢ 0 → ((c : ℕ) → c < n → F p c ≡ s ⊗ E p c)
      → ((r c : ℕ) → r < k → r ≢ p → c < n → F r c ≡ E r c ⊕ m r ⊗ F p c) → Step k n E F
  clear p s m hp hs ns at_p at-r y z r l = pick (ℕ_discrete r p)
    where
      row-p : dot n (E p) y ≡ 0
      row-p = cancel s (dot n (E p) y) hs ns (sum_lt n (λ c. E p c ⊗ y c) (λ c. ⊗-lt (E p c) (y c))) (sym (dot-cong n (F p) (λ c. s ⊗ E p c) y at_p ∙ dot-mul n s (E p) y) ∙ z p hp)

      pick : Dec (r ≡ p) → dot n (E r) y ≡ 0
      pick (yes e) = ap (λ (q : ℕ). dot n (E q) y) e ∙ row-p
      pick (no d) =
          same _ _ (sym (dot-cong n (F r) (λ c. E r c ⊕ m r ⊗ F p c) y (λ c h. at-r r c l d h) ∙ dot-add n (m r) (E r) (F p) y) ∙ z r l)
          ∙ ap (λ (x : ℕ). m r ⊗ x) (z p hp) ∙ ⊗-zero (m r)

  -- two rows change places
  pub exchange : (p q : ℕ) → p < k → q < k → ((c : ℕ) → c < n → F p c ≡ E q c) → ((c : ℕ) → c < n → F q c ≡ E p c)
      → ((r c : ℕ) → r < k → r ≢ p → r ≢ q → c < n → F r c ≡ E r c) → Step k n E F
  exchange p q hp hq at_p at-q at-r y z r l = pick (ℕ_discrete r p) (ℕ_discrete r q)
    where
      pick : Dec (r ≡ p) → Dec (r ≡ q) → dot n (E r) y ≡ 0
      pick (yes e) d = ap (λ (x : ℕ). dot n (E x) y) e ∙ sym (dot-cong n (F q) (E p) y at-q) ∙ z q hq
      pick (no d) (yes e) = ap (λ (x : ℕ). dot n (E x) y) e ∙ sym (dot-cong n (F p) (E q) y at_p) ∙ z p hp
      pick (no d) (no d') = sym (dot-cong n (F r) (E r) y (λ c h. at-r r c l d d' h)) ∙ z r l

-- ---- with q columns cleared, column b tells a y that the rows kill
pub sel : {A : Type 0} → Dec A → ℕ → ℕ → ℕ
sel (yes p) a b = a
sel (no p) a b = b

pub sel_yes : {A : Type 0} (d : Dec A) (a b : ℕ) → A → sel d a b ≡ a
unfolding sel
sel_yes (yes p) a b h = refl
sel_yes (no p) a b h = absurd (p h)

pub sel_no : {A : Type 0} (d : Dec A) (a b : ℕ) → ¬ A → sel d a b ≡ b
unfolding sel
sel_no (yes p) a b h = absurd (h p)
sel_no (no p) a b h = refl

pub sel_lt : {A : Type 0} (d : Dec A) (a b : ℕ) → a < 256 → b < 256 → sel d a b < 256
unfolding sel
sel_lt (yes p) a b h l = h
sel_lt (no p) a b h l = l

-- f below q, 1 at b, 0 elsewhere
pub vec : ℕ → ℕ → (ℕ → ℕ) → ℕ → ℕ
vec q b f j = sel (dec_lt j q) (f j) (sel (ℕ_discrete j b) 1 0)

pub vec-low : (q b : ℕ) (f : ℕ → ℕ) (j : ℕ) → j < q → vec q b f j ≡ f j
unfolding vec
vec-low q b f j h = sel_yes (dec_lt j q) _ _ h

pub vec-one : (q b : ℕ) (f : ℕ → ℕ) → q ≤ b → vec q b f b ≡ 1
unfolding vec
vec-one q b f h = sel_no (dec_lt b q) _ _ (λ l. omega arith) ∙ sel_yes (ℕ_discrete b b) 1 0 refl

pub vec-none : (q b : ℕ) (f : ℕ → ℕ) (j : ℕ) → q ≤ j → j ≢ b → vec q b f j ≡ 0
unfolding vec
vec-none q b f j h d = sel_no (dec_lt j q) _ _ (λ l. omega arith) ∙ sel_no (ℕ_discrete j b) 1 0 d

pub vec_lt : (q b : ℕ) (f : ℕ → ℕ) (j : ℕ) → ((i : ℕ) → f i < 256) → vec q b f j < 256
unfolding vec
vec_lt q b f j h = sel_lt (dec_lt j q) _ _ (h j) (sel_lt (ℕ_discrete j b) 1 0 (omega arith) (omega arith))

-- all but two are 0
sum-two : (n : ℕ) (f : ℕ → ℕ) (i j : ℕ) → i < j → j < n → ((m : ℕ) → m < n → m ≢ i → m ≢ j → f m ≡ 0) → sum n f ≡ f i ⊕ f j
unfolding sum
sum-two zero f i j l k h = absurd (omega arith)
sum-two (suc n) f i j l k h = pick (λ g. sum-two n f i j l g (λ m w. h m (omega arith))) (ℕ_discrete j n)
  where
    pick : (j < n → sum n f ≡ f i ⊕ f j) → Dec (j ≡ n) → sum n f ⊕ f n ≡ f i ⊕ f j
    pick ih (yes e) = ap₂ ◌⊕◌ (sum_one n f i (omega arith) (λ m w d. h m (omega arith) d (omega arith))) (ap f (sym e))
    pick ih (no d) = ap₂ ◌⊕◌ (ih (omega arith)) (h n (omega arith) (omega arith) (omega arith)) ∙ ⊕-zero _

module _ (k n q b : ℕ) (F : ℕ → ℕ → ℕ) (qb : q ≤ b) (bn : b < n)
    (octets : (r c : ℕ) → F r c < 256)
    (one : (j : ℕ) → j < q → F j j ≡ 1)
    (none : (r j : ℕ) → r < k → j < q → r ≢ j → F r j ≡ 0)
    (rest : (r : ℕ) → r < k → q ≤ r → F r b ≡ 0) where
  pub answer : ℕ → ℕ
  answer = vec q b (λ j. F j b)

  idle : (r m : ℕ) → r < k → m < n → m ≢ r → m ≢ b → F r m ⊗ answer m ≡ 0
  unfolding answer
  idle r m l h d d' = pick (dec_lt m q)
    where
      pick : Dec (m < q) → F r m ⊗ vec q b (λ j. F j b) m ≡ 0
      pick (yes w) = ap (λ (x : ℕ). x ⊗ vec q b (λ j. F j b) m) (none r m l w (λ e. d (sym e))) ∙ zero-⊗ _
      pick (no w) = ap (λ (x : ℕ). F r m ⊗ x) (vec-none q b (λ j. F j b) m (omega arith) d') ∙ ⊗-zero _

  at_b : (r : ℕ) → F r b ⊗ answer b ≡ F r b
  unfolding answer
  at_b r = ap (λ (x : ℕ). F r b ⊗ x) (vec-one q b (λ j. F j b) qb) ∙ ⊗-one (F r b) (octets r b)

  pub killed : Kills k n F answer
  unfolding answer
  killed r l = pick (dec_lt r q)
    where
      pick : Dec (r < q) → dot n (F r) (vec q b (λ j. F j b)) ≡ 0
      pick (yes w) =
          sum-two n (λ c. F r c ⊗ answer c) r b (omega arith) bn (λ m h. idle r m l h)
          ∙ ap₂ ◌⊕◌ (ap₂ ◌⊗◌ (one r w) (vec-low q b (λ j. F j b) r w) ∙ ⊗-comm 1 _ ∙ ⊗-one (F r b) (octets r b)) (at_b r)
          ∙ ⊕-self (F r b)
      pick (no w) =
          sum_one n (λ c. F r c ⊗ answer c) b bn (λ m h d. aside m h d (ℕ_discrete m r)) ∙ at_b r ∙ rest r l (omega arith)
        where
          aside : (m : ℕ) → m < n → m ≢ b → Dec (m ≡ r) → F r m ⊗ answer m ≡ 0
          aside m h d (yes e) = ap (λ (x : ℕ). F r m ⊗ x) (vec-none q b (λ j. F j b) m (omega arith) d) ∙ ⊗-zero _
          aside m h d (no d') = idle r m l h d' d

-- ---- elimination, as far as column q
pub start : (k n : ℕ) (E : ℕ → ℕ → ℕ) → ((r c : ℕ) → E r c < 256) → Cleared k n 0 E E
start k n E o = record { step = λ y z. z; octets = o; units = record { one = λ j l. absurd (omega arith); none = λ r j l h. absurd (omega arith) } }

module _ (k n q : ℕ) (E F G : ℕ → ℕ → ℕ) (qk : q < k) (kn : k ≤ n) (before : Cleared k n q E F) (octets : (r c : ℕ) → G r c < 256) where
  -- row p, from q on, and row q change places
  pub swapped : (p : ℕ) → q ≤ p → p < k → ((c : ℕ) → c < n → G p c ≡ F q c) → ((c : ℕ) → c < n → G q c ≡ F p c)
      → ((r c : ℕ) → r < k → r ≢ p → r ≢ q → c < n → G r c ≡ F r c) → Cleared k n q E G
  swapped p lo hi at_p at-q at-r = record {
    step = λ y z. before.step y (exchange k n F G p q hi qk at_p at-q at-r y z);
    octets = octets;
    units = record {
      one = λ j l. at-r j j (omega arith) (omega arith) (omega arith) (omega arith) ∙ before.units.one j l;
      none = λ r j l h d. pick r j l h d (ℕ_discrete r p) (ℕ_discrete r q);
    };
  }
    where
      pick : (r j : ℕ) → r < k → j < q → r ≢ j → Dec (r ≡ p) → Dec (r ≡ q) → G r j ≡ 0
      pick r j l h d (yes e) w = ap (λ (x : ℕ). G x j) e ∙ at_p j (omega arith) ∙ before.units.none q j qk h (omega arith)
      pick r j l h d (no v) (yes e) = ap (λ (x : ℕ). G x j) e ∙ at-q j (omega arith) ∙ before.units.none p j hi h (omega arith)
      pick r j l h d (no v) (no w) = at-r r j l v w (omega arith) ∙ before.units.none r j l h d

  -- row q is divided by its entry at q, and taken from the others
  pub advance : (s : ℕ) → s < 256 → F q q ⊗ s ≡ 1 → ((c : ℕ) → c < n → G q c ≡ s ⊗ F q c)
      → ((r c : ℕ) → r < k → r ≢ q → c < n → G r c ≡ F r c ⊕ F r q ⊗ G q c) → Cleared k n (suc q) E G
  advance s hs inv at-q at-r = record {
    step = λ y z. before.step y (clear k n F G q s (λ r. F r q) qk hs ns at-q at-r y z);
    octets = octets;
    units = record {
      one = λ j l. one' j l (ℕ_discrete j q);
      none = λ r j l h d. none' r j l h d (ℕ_discrete j q) (ℕ_discrete r q);
    };
  }
    where
      ns : s ≢ 0
      ns e = let z : ◌≡◌ {A = ℕ} 0 1 = sym (⊗-zero (F q q)) ∙ ap (λ (x : ℕ). F q q ⊗ x) (sym e) ∙ inv in omega arith

      pivot : G q q ≡ 1
      pivot = at-q q (omega arith) ∙ ⊗-comm s (F q q) ∙ inv

      left : (j : ℕ) → j < q → G q j ≡ 0
      left j h = at-q j (omega arith) ∙ ap (λ (x : ℕ). s ⊗ x) (before.units.none q j qk h (omega arith)) ∙ ⊗-zero s

      keep : (r j : ℕ) → r < k → r ≢ q → j < q → G r j ≡ F r j
      keep r j l d h = at-r r j l d (omega arith) ∙ ap (λ (x : ℕ). F r j ⊕ F r q ⊗ x) (left j h) ∙ ap (λ (x : ℕ). F r j ⊕ x) (⊗-zero _) ∙ ⊕-zero _

      one' : (j : ℕ) → j < suc q → Dec (j ≡ q) → G j j ≡ 1
      one' j l (yes e) = ap (λ (x : ℕ). G x x) e ∙ pivot
      one' j l (no d) = keep j j (omega arith) d (omega arith) ∙ before.units.one j (omega arith)

      none' : (r j : ℕ) → r < k → j < suc q → r ≢ j → Dec (j ≡ q) → Dec (r ≡ q) → G r j ≡ 0
      none' r j l h d (yes e) w =
          ap (G r) e ∙ at-r r q l (omega arith) (omega arith) ∙ ap (λ (x : ℕ). F r q ⊕ F r q ⊗ x) pivot ∙ ap (λ (x : ℕ). F r q ⊕ x) (⊗-one (F r q) (before.octets r q)) ∙ ⊕-self _
      none' r j l h d (no v) (yes e) = ap (λ (x : ℕ). G x j) e ∙ left j (omega arith)
      none' r j l h d (no v) (no w) = keep r j l w (omega arith) ∙ before.units.none r j l (omega arith) d

-- no pivot: a y that is not 0, and that the first rows kill
pub stuck : (k n q : ℕ) (E F : ℕ → ℕ → ℕ) → q < k → k ≤ n → Cleared k n q E F → ((r : ℕ) → r < k → q ≤ r → F r q ≡ 0) → Kills k n E (vec q q (λ j. F j q))
unfolding answer
stuck k n q E F qk kn s z = s.step (vec q q (λ j. F j q)) (killed k n q q F (omega arith) (omega arith) s.octets s.units.one s.units.none z)

-- all k columns are cleared: column b holds the solution
pub solved : (k n b : ℕ) (E F : ℕ → ℕ → ℕ) → k ≤ b → b < n → Cleared k n k E F → Kills k n E (vec k b (λ j. F j b))
unfolding answer
solved k n b E F kb bn s = s.step (vec k b (λ j. F j b)) (killed k n k b F kb bn s.octets s.units.one s.units.none (λ r l h. absurd (omega arith)))
