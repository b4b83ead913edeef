-- The noughts among a list's first n: how many there are, the lists of their places and of the others', and a sum split in the two.
-- One element more is one nought more, or one other.
use mathlib.Core.Bool.{Bool, cond}
use mathlib.Core.List.{List}
use mathlib.Core.Logic.{◌≢◌}
use mathlib.Core.Path.{◌≡◌, refl, sym, ap, ap₂, ◌∙◌, subst}
use Prim.Native.Nat.{ℕ, zero, suc, ◌+◌, ◌-◌, ◌≤◌, ◌<◌, zero-le}
use native.Mathlib.Decide.{ℕ_discrete, dec_lt}
use native.Mathlib.Numerals.{add-one}
use native.Mathlib.Omega.{arith}
use lib.Dec.{eqb}
use lib.ListN.{length, get_or, set, take, replicate, get_or-replicate, length-set}
use lib.Seq.{get_or-set_same, get_or-set_other, get_or-take}
use borrow.Author.Tests.{eq-eqb, ne_eqb}
use Rattle.pagecode.specs.Field.{◌⊕◌}
use Rattle.pagecode.specs.System.{sum}
use Rattle.pagecode.specs.Reduction.{Spread, nought, noughts, Marked, AreNoughts, AreOthers, Numbered}
use Rattle.pagecode.proofs.Linear.{⊕-assoc, ⊕-self, ⊕-zero, swap}

pub nought-zero : (x : ℕ) → x ≡ 0 → nought x ≡ 1
unfolding nought
nought-zero x e = ap (λ (b : Bool). cond b 1 0) (eq-eqb x 0 e)

pub nought-some : (x : ℕ) → x ≢ 0 → nought x ≡ 0
unfolding nought
nought-some x d = ap (λ (b : Bool). cond b 1 0) (ne_eqb x 0 d)

pub nought-le : (x : ℕ) → nought x ≤ 1
nought-le x = pick (ℕ_discrete x 0)
  where
    pick : Dec (x ≡ 0) → nought x ≤ 1
    pick (yes e) = omega (arith, nought-zero x e)
    pick (no d) = omega (arith, nought-some x d)

-- ---- how many
module _ (l : List ℕ) where
  step : (n : ℕ) → noughts l (suc n) ≡ noughts l n + nought (get_or l n 0)
  unfolding noughts
  step n = refl

  one_more : (n : ℕ) → get_or l n 0 ≡ 0 → noughts l (suc n) ≡ suc (noughts l n)
  one_more n e = omega (arith, step n, nought-zero (get_or l n 0) e)

  no_more : (n : ℕ) → get_or l n 0 ≢ 0 → noughts l (suc n) ≡ noughts l n
  no_more n d = omega (arith, step n, nought-some (get_or l n 0) d)

  pub noughts-le : (n : ℕ) → noughts l n ≤ n
  unfolding noughts
  noughts-le zero = zero-le
  noughts-le (suc n) = omega (arith, noughts-le n, nought-le (get_or l n 0))

  pub noughts-less : (j n : ℕ) → j < n → get_or l j 0 ≡ 0 → noughts l j < noughts l n
  noughts-less j zero h e = absurd (omega arith)
  noughts-less j (suc n) h e = pick (λ b. noughts-less j n b e) (ℕ_discrete j n)
    where
      pick : (j < n → noughts l j < noughts l n) → Dec (j ≡ n) → noughts l j < noughts l (suc n)
      pick ih (yes i) = omega (arith, one_more j e, ap (λ (m : ℕ). noughts l (suc m)) i)
      pick ih (no d) = omega (arith, ih (omega arith), step n)

  -- each has its place
  pub found : (n c : ℕ) → c < noughts l n → (j : ℕ) × (j < n) × (get_or l j 0 ≡ 0) × (noughts l j ≡ c)
  unfolding noughts
  found zero c h = absurd (omega arith)
  found (suc n) c h = pick (found n c) (ℕ_discrete (get_or l n 0) 0) (dec_lt c (noughts l n))
    where
      pick : (c < noughts l n → (j : ℕ) × (j < n) × (get_or l j 0 ≡ 0) × (noughts l j ≡ c)) → Dec (get_or l n 0 ≡ 0) → Dec (c < noughts l n)
          → (j : ℕ) × (j < suc n) × (get_or l j 0 ≡ 0) × (noughts l j ≡ c)
      pick ih d (yes m) = let s = ih m in (s.0, omega (arith, s.1), s.2, s.3)
      pick ih (yes z) (no m) = (n, omega arith, z, omega (arith, one_more n z))
      pick ih (no z) (no m) = absurd (omega (arith, no_more n z))

  others-less : (j n : ℕ) → j < n → get_or l j 0 ≢ 0 → j - noughts l j < n - noughts l n
  others-less j zero h d = absurd (omega arith)
  others-less j (suc n) h d = pick (λ b. others-less j n b d) (ℕ_discrete j n)
    where
      pick : (j < n → j - noughts l j < n - noughts l n) → Dec (j ≡ n) → j - noughts l j < suc n - noughts l (suc n)
      pick ih (yes i) = omega (arith, no_more j d, noughts-le j, ap (λ (m : ℕ). noughts l (suc m)) i)
      pick ih (no w) = omega (arith, ih (omega arith), step n, nought-le (get_or l n 0), noughts-le n)

  found-other : (n c : ℕ) → c < n - noughts l n → (j : ℕ) × (j < n) × (get_or l j 0 ≢ 0) × (j - noughts l j ≡ c)
  unfolding noughts
  found-other zero c h = absurd (omega arith)
  found-other (suc n) c h = pick (found-other n c) (ℕ_discrete (get_or l n 0) 0) (dec_lt c (n - noughts l n))
    where
      pick : (c < n - noughts l n → (j : ℕ) × (j < n) × (get_or l j 0 ≢ 0) × (j - noughts l j ≡ c)) → Dec (get_or l n 0 ≡ 0) → Dec (c < n - noughts l n)
          → (j : ℕ) × (j < suc n) × (get_or l j 0 ≢ 0) × (j - noughts l j ≡ c)
      pick ih d (yes m) = let s = ih m in (s.0, omega (arith, s.1), s.2, s.3)
      pick ih (yes z) (no m) = absurd (omega (arith, one_more n z))
      pick ih (no z) (no m) = (n, omega arith, z, omega (arith, no_more n z, noughts-le n))

-- ---- a nought that is overwritten
noughts-below : (l : List ℕ) (c v n : ℕ) → n ≤ c → noughts (set l c v) n ≡ noughts l n
unfolding noughts
noughts-below l c v zero h = refl
noughts-below l c v (suc n) h = ap₂ (λ (x y : ℕ). x + nought y) (noughts-below l c v n (omega arith)) (get_or-set_other l c n v 0 (omega arith))

noughts-set : (l : List ℕ) (c v n : ℕ) → c < length l → get_or l c 0 ≡ 0 → v ≢ 0 → c < n → suc (noughts (set l c v) n) ≡ noughts l n
noughts-set l c v zero b e d h = absurd (omega arith)
noughts-set l c v (suc n) b e d h = pick (noughts-set l c v n b e d) (ℕ_discrete n c)
  where
    pick : (c < n → suc (noughts (set l c v) n) ≡ noughts l n) → Dec (n ≡ c) → suc (noughts (set l c v) (suc n)) ≡ noughts l (suc n)
    pick ih (yes i) =
        let now : get_or (set l c v) n 0 ≡ v = ap (λ (m : ℕ). get_or (set l c v) m 0) i ∙ get_or-set_same l c v 0 b in
        omega (arith, no_more (set l c v) n (λ z. d (sym now ∙ z)), noughts-below l c v n (omega arith), one_more l n (ap (λ (m : ℕ). get_or l m 0) i ∙ e))
    pick ih (no i) = omega (arith, step (set l c v) n, step l n, ap nought (get_or-set_other l c n v 0 i), ih (omega arith))

noughts-zeros : (n : ℕ) → n ≤ 32 → noughts (replicate 32 0) n ≡ n
unfolding noughts
noughts-zeros zero h = refl
noughts-zeros (suc n) h = omega (arith, noughts-zeros n (omega arith), nought-zero _ (get_or-replicate {A = ℕ} 32 n 0 0 (omega arith)))

-- ---- the columns of the first i plain pages are marked, and those of the others are not
pub record Marking (k : ℕ) (plain marks : List ℕ) (i : ℕ) : Type 0 where
  pub long : length marks ≡ 32
  pub upto : i ≤ k
  pub done : (e q : ℕ) → e < i → get_or plain e 0 ≡ suc q → get_or marks q 0 ≢ 0
  pub todo : (e q : ℕ) → i ≤ e → e < k → get_or plain e 0 ≡ suc q → get_or marks q 0 ≡ 0
  pub count : noughts marks k + i ≡ k + noughts plain i

module _ (k : ℕ) (plain : List ℕ) (few : k ≤ 32) (spread : Spread k k plain) where
  pub mark-start : Marking k plain (replicate 32 0) 0
  unfolding noughts
  mark-start = record {
    long = refl;
    upto = zero-le;
    done = λ e q l. absurd (omega arith);
    todo = λ e q h l s. get_or-replicate {A = ℕ} 32 q 0 0 (omega (arith, spread.most e l));
    count = omega (arith, noughts-zeros k few);
  }

  pub mark-turn : (marks next : List ℕ) (i : ℕ) → i < k → next ≡ cond (eqb (get_or plain i 0) 0) marks (set marks (get_or plain i 0 - 1) 1) → Marking k plain marks i → Marking k plain next (i + 1)
  mark-turn marks next i l e m = subst (Marking k plain next) (sym (add-one i)) (pick (get_or plain i 0) refl)
    where
      pick : (x : ℕ) → get_or plain i 0 ≡ x → Marking k plain next (suc i)
      pick zero z = subst (λ (v : List ℕ). Marking k plain v (suc i)) (sym (e ∙ ap (λ (b : Bool). cond b marks (set marks (get_or plain i 0 - 1) 1)) (eq-eqb (get_or plain i 0) 0 z))) (record {
        long = m.long;
        upto = omega arith;
        done = λ a q h s. old a q s (ℕ_discrete a i) (λ d. m.done a q (omega arith) s);
        todo = λ a q h b s. m.todo a q (omega arith) b s;
        count = omega (arith, m.count, one_more plain i z);
      })
        where
          old : (a q : ℕ) → get_or plain a 0 ≡ suc q → Dec (a ≡ i) → (a ≢ i → get_or marks q 0 ≢ 0) → get_or marks q 0 ≢ 0
          old a q s (yes w) f = let clash : suc q ≡ 0 = sym s ∙ ap (λ (n : ℕ). get_or plain n 0) w ∙ z in absurd (omega arith)
          old a q s (no w) f = f w
      pick (suc p) z = subst (λ (v : List ℕ). Marking k plain v (suc i)) (sym (e ∙ ap (λ (b : Bool). cond b marks (set marks (get_or plain i 0 - 1) 1)) (ne_eqb (get_or plain i 0) 0 (omega arith)) ∙ ap (λ (n : ℕ). set marks n 1) at)) (record {
        long = length-set marks p 1 ∙ m.long;
        upto = omega arith;
        done = λ a q h s. marked a q h s (ℕ_discrete q p);
        todo = λ a q h b s. get_or-set_other marks p q 1 0 (λ w. spread.different i a (omega arith) b (omega arith) (z ∙ ap suc (sym w) ∙ sym s)) ∙ m.todo a q (omega arith) b s;
        count = omega (arith, m.count, no_more plain i (omega arith), noughts-set marks p 1 k (omega (arith, m.long, spread.most i l)) (m.todo i p (omega arith) l z) (omega arith) (omega (arith, spread.most i l)));
      })
        where
          at : get_or plain i 0 - 1 ≡ p
          at = omega arith

          marked : (a q : ℕ) → a < suc i → get_or plain a 0 ≡ suc q → Dec (q ≡ p) → get_or (set marks p 1) q 0 ≢ 0
          marked a q h s (yes w) x =
              omega (arith, sym (get_or-set_same marks p 1 0 (omega (arith, m.long, spread.most i l))) ∙ ap (λ (n : ℕ). get_or (set marks p 1) n 0) (sym w) ∙ x)
          marked a q h s (no w) x = m.done a q (other (ℕ_discrete a i)) s (sym (get_or-set_other marks p q 1 0 w) ∙ x)
            where
              other : Dec (a ≡ i) → a < i
              other (yes v) = let same : suc q ≡ suc p = sym s ∙ ap (λ (n : ℕ). get_or plain n 0) v ∙ z in absurd (w (omega arith))
              other (no v) = omega arith

  pub mark-end : (marks : List ℕ) (i : ℕ) → k ≤ i → Marking k plain marks i → Marked k plain marks
  mark-end marks i h m = record {
    is = λ a q l s. m.done a q (omega arith) s;
    count = let all : i ≡ k = omega (arith, m.upto) in omega (arith, m.count, ap (noughts plain) all);
  }

-- ---- the list of the places
pub list-start : (l : List ℕ) (at : List ℕ) → AreNoughts l 0 at 0
unfolding noughts
list-start l at = record { all = refl; each = λ j h. absurd (omega arith) }

pub list_turn : (l at : List ℕ) (n count x : ℕ) → n < length at → x ≡ n + 1 → AreNoughts l n at count → AreNoughts l (n + 1) (set at count x) (count + nought (get_or l n 0))
list_turn l at n count x h e s = subst (λ (m : ℕ). AreNoughts l m (set at count x) (count + nought (get_or l n 0))) (sym (add-one n)) (record {
  all = omega (arith, s.all, step l n);
  each = λ j b z. pick j b z (ℕ_discrete j n);
})
  where
    pick : (j : ℕ) → j < suc n → get_or l j 0 ≡ 0 → Dec (j ≡ n) → get_or (set at count x) (noughts l j) 0 ≡ suc j
    pick j b z (yes i) =
        ap (λ (m : ℕ). get_or (set at count x) m 0) (ap (noughts l) i ∙ sym s.all)
        ∙ get_or-set_same at count x 0 (omega (arith, s.all, noughts-le l n)) ∙ omega arith
    pick j b z (no d) =
        get_or-set_other at count (noughts l j) x 0 (λ w. omega (arith, noughts-less l j n (omega arith) z, s.all)) ∙ s.each j (omega arith) z

pub others-turn : (l at : List ℕ) (n count x : ℕ) → n < length at → count ≡ noughts l n → x ≡ n + 1 → AreOthers l n at → AreOthers l (n + 1) (set at (n - count) x)
others-turn l at n count x h c e s j b d = pick (ℕ_discrete j n)
  where
    pick : Dec (j ≡ n) → get_or (set at (n - count) x) (j - noughts l j) 0 ≡ suc j
    pick (yes i) =
        ap (λ (m : ℕ). get_or (set at (n - count) x) m 0) (ap (λ (m : ℕ). m - noughts l m) i ∙ ap (λ (m : ℕ). n - m) (sym c))
        ∙ get_or-set_same at (n - count) x 0 (omega arith) ∙ omega arith
    pick (no w) = get_or-set_other at (n - count) (j - noughts l j) x 0 (λ v. omega (arith, others-less l j n (omega arith) d)) ∙ s j (omega arith) d

pub others-numbered : (l at : List ℕ) (n m : ℕ) → n ≤ m → AreOthers l n at → Numbered (n - noughts l n) m at
others-numbered l at n m g s c h =
    let f = found-other l n c h in
    let is : get_or at c 0 ≡ suc f.0 = ap (λ (i : ℕ). get_or at i 0) (sym f.3) ∙ s f.0 f.1 f.2 in
    (omega arith, omega (arith, f.1))

module _ (l at : List ℕ) (n r : ℕ) (s : AreNoughts l n at r) where
  pub listed : (c : ℕ) → c < r → (j : ℕ) × (j < n) × (get_or l j 0 ≡ 0) × (noughts l j ≡ c) × (get_or at c 0 ≡ suc j)
  listed c h =
      let f = found l n c (omega (arith, s.all)) in
      (f.0, f.1, f.2, f.3, ap (λ (m : ℕ). get_or at m 0) (sym f.3) ∙ s.each f.0 f.1 f.2)

  pub list-numbered : Numbered r n at
  list-numbered c h = let f = listed c h in (omega (arith, f.4), omega (arith, f.4, f.1))

  pub list-spread : (m : ℕ) → n ≤ m → Spread r m at
  list-spread m g = record {
    most = λ c h. omega (arith, (list-numbered c h).1);
    different = λ a b h b' d e.
        let f = listed a (omega arith) in
        let f' = listed b b' in
        let same : f.0 ≡ f'.0 = omega (arith, f.4, f'.4, e) in
        omega (arith, f.3, f'.3, ap (noughts l) same);
  }

  -- what is not listed
  pub not_listed : (q : ℕ) → get_or l q 0 ≢ 0 → (c : ℕ) → c < r → get_or at c 0 ≢ suc q
  not_listed q d c h e =
      let f = listed c h in
      let same : q ≡ f.0 = omega (arith, f.4, e) in
      d (ap (λ (m : ℕ). get_or l m 0) same ∙ f.2)

-- ---- the fronts of lists that hold as much
pub noughts-front : (l : List ℕ) (m n : ℕ) → n ≤ m → noughts (take m l) n ≡ noughts l n
unfolding noughts
noughts-front l m zero h = refl
noughts-front l m (suc n) h = ap₂ (λ (x y : ℕ). x + nought y) (noughts-front l m n (omega arith)) (get_or-take m l n 0 (omega arith))

pub marked-front : (k : ℕ) (plain marks : List ℕ) → Spread k k plain → Marked k plain marks → Marked k plain (take k marks)
marked-front k plain marks spread marked = record {
  is = λ i q h e d. marked.is i q h e (sym (get_or-take k marks q 0 (omega (arith, spread.most i h))) ∙ d);
  count = noughts-front marks k k (omega arith) ∙ marked.count;
}

pub list-front : (l at : List ℕ) (n r : ℕ) → AreNoughts l n at r → AreNoughts l n (take r at) r
list-front l at n r s = record { all = s.all; each = λ j h z. get_or-take r at (noughts l j) 0 (omega (arith, noughts-less l j n h z, s.all)) ∙ s.each j h z }

pub others-front : (l at : List ℕ) (n m : ℕ) → noughts l n + m ≡ n → AreOthers l n at → AreOthers l n (take m at)
others-front l at n m e s j h d = get_or-take m at (j - noughts l j) 0 (omega (arith, others-less l j n h d)) ∙ s j h d

-- ---- a sum, split in the noughts and the others
pub split : (l : List ℕ) (f g h : ℕ → ℕ) (n : ℕ) → ((j : ℕ) → j < n → get_or l j 0 ≡ 0 → g (noughts l j) ≡ f j) → ((j : ℕ) → j < n → get_or l j 0 ≢ 0 → h (j - noughts l j) ≡ f j)
    → sum n f ≡ sum (noughts l n) g ⊕ sum (n - noughts l n) h
unfolding sum noughts
split l f g h zero a b = sym (⊕-self 0)
split l f g h (suc n) a b = ap (λ (x : ℕ). x ⊕ f n) (split l f g h n (λ j m. a j (omega arith)) (λ j m. b j (omega arith))) ∙ pick (ℕ_discrete (get_or l n 0) 0)
  where
    S : ℕ
    S = sum (noughts l n) g

    K : ℕ
    K = sum (n - noughts l n) h

    pick : Dec (get_or l n 0 ≡ 0) → (S ⊕ K) ⊕ f n ≡ sum (noughts l n + nought (get_or l n 0)) g ⊕ sum (suc n - (noughts l n + nought (get_or l n 0))) h
    pick (yes z) =
        ap (λ (x : ℕ). (S ⊕ K) ⊕ x) (sym (⊕-zero (f n))) ∙ swap S K (f n) 0
        ∙ ap₂ ◌⊕◌ (ap (λ (x : ℕ). S ⊕ x) (sym (a n (omega arith) z)) ∙ ap (λ (m : ℕ). sum m g) (sym (one_more l n z))) (⊕-zero K ∙ ap (λ (m : ℕ). sum m h) rest)
      where
        rest : n - noughts l n ≡ suc n - (noughts l n + nought (get_or l n 0))
        rest = omega (arith, nought-zero (get_or l n 0) z)
    pick (no d) =
        ⊕-assoc S K (f n)
        ∙ ap₂ ◌⊕◌ (ap (λ (m : ℕ). sum m g) (sym (no_more l n d))) (ap (λ (x : ℕ). K ⊕ x) (sym (b n (omega arith) d)) ∙ ap (λ (m : ℕ). sum m h) rest)
      where
        rest : suc (n - noughts l n) ≡ suc n - (noughts l n + nought (get_or l n 0))
        rest = omega (arith, nought-some (get_or l n 0) d, noughts-le l n)
