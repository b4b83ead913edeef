-- What the rows' functions do is a step of the elimination.
-- Every step is that a row takes a multiple of another; Kernel says what such a step keeps.
use mathlib.Core.Bool.{Bool, cond}
use mathlib.Core.Logic.{◌≢◌}
use mathlib.Core.Path.{◌≡◌, refl, sym, ap, ap₂, ◌∙◌, subst}
use mathlib.Core.List.{List, []}
use Prim.Native.Nat.{ℕ, ◌+◌, ◌*◌, ◌≤◌, ◌<◌}
use native.Mathlib.Decide.{ℕ_discrete}
use native.Mathlib.Numerals.{add-one}
use native.Mathlib.Omega.{arith}
use lib.Dec.{eqb}
use lib.ListN.{length, get_or, set, drop, length-set}
use lib.Seq.{get_or-set_same, get_or-set_other, set-set}
use borrow.Author.Tests.{eq-eqb, ne_eqb}
use Rattle.pagecode.specs.Field.{◌⊕◌, ◌⊗◌, Inverse, Octets}
use Rattle.pagecode.specs.Code.{plus, scale}
use Rattle.pagecode.specs.System.{cell, Units, Cleared, Pivoted, Pivot, Swept}
use Rattle.pagecode.proofs.Linear.{⊗-add-l, ⊕-comm, ⊕-self, ⊕-self-left, ⊕-zero, zero-⊕}
use Rattle.pagecode.proofs.Laws.{⊗-zero, zero-⊗, one-⊗}
use Rattle.pagecode.proofs.Polynomials.{plus-octets, scale-octets}
use Rattle.pagecode.proofs.Kernel.{sel, sel_yes, sel_no, clear, advance}
use Rattle.pagecode.proofs.Pieces.{piece}
use Rattle.pagecode.proofs.Cells.{cell-low, cell-octets, Added, more_side, more_row, side-octets, added, added-length, added-drop}

-- ---- a row with an entry is looked for: rows q to r - 1 have none
pub record Seeking (k q r : ℕ) (F : ℕ → ℕ → ℕ) : Type 0 where
  pub none : (a : ℕ) → q ≤ a → a < r → F a q ≡ 0
  pub low : q ≤ r
  pub high : r ≤ k

module _ (k q r : ℕ) (F : ℕ → ℕ → ℕ) where
  pub seek-next : r < k → F r q ≡ 0 → Seeking k q r F → Seeking k q (r + 1) F
  seek-next l z p = record { none = λ a h m. pick a h m (ℕ_discrete a r); low = omega (arith, p.low); high = omega arith }
    where
      pick : (a : ℕ) → q ≤ a → a < r + 1 → Dec (a ≡ r) → F a q ≡ 0
      pick a h m (yes i) = ap (λ (y : ℕ). F y q) i ∙ z
      pick a h m (no n) = p.none a h (omega arith)

  pub seek_found : r < k → F r q ≢ 0 → Seeking k q r F → Pivot k q r F
  seek_found l d p = record { low = p.low; high = l; some = d; other = λ n. p.none q (omega arith) (omega (arith, p.low)) }

  pub seek-end : k ≤ r → Seeking k q r F → Pivoted k q F → ⊥
  seek-end h p x = x (λ a l m. p.none a m (omega arith))

pub seek-start : (k q : ℕ) (F : ℕ → ℕ → ℕ) → q ≤ k → Seeking k q q F
seek-start k q F h = record { none = λ a l m. absurd (omega arith); low = omega arith; high = h }

-- ---- row q is taken from the rows below r
pub record Sweeping (q r : ℕ) (E F : ℕ → ℕ → ℕ) : Type 0 where
  pub own : (c : ℕ) → c < 85 → F q c ≡ E q c
  pub done : (a c : ℕ) → a < r → a ≢ q → c < 85 → F a c ≡ E a c ⊕ E a q ⊗ E q c
  pub todo : (a c : ℕ) → r ≤ a → c < 85 → F a c ≡ E a c

pub sweep-start : (q : ℕ) (E : ℕ → ℕ → ℕ) → Sweeping q 0 E E
sweep-start q E = record { own = λ c h. refl; done = λ a c l. absurd (omega arith); todo = λ a c l h. refl }

sweep-next : (q r f : ℕ) (E F G : ℕ → ℕ → ℕ) → q < 85 → f ≡ cond (eqb r q) 0 (F r q) → Added r f (E q) F G → Sweeping q r E F → Sweeping q (r + 1) E G
sweep-next q r f E F G l ef x p = record {
  own = λ c h. own' c h (ℕ_discrete r q);
  done = λ a c m d h. done' a c m d h (ℕ_discrete a r);
  todo = λ a c m h. x.there a c (omega arith) h ∙ p.todo a c (omega arith) h;
}
  where
    own' : (c : ℕ) → c < 85 → Dec (r ≡ q) → G q c ≡ E q c
    own' c h (yes i) =
        ap (λ (a : ℕ). G a c) (sym i) ∙ x.here c h ∙ ap₂ (λ (a e : ℕ). F a c ⊕ e ⊗ E q c) i (ef ∙ ap (λ (b : Bool). cond b 0 (F r q)) (eq-eqb r q i))
        ∙ ap (λ (y : ℕ). F q c ⊕ y) (zero-⊗ (E q c)) ∙ ⊕-zero (F q c) ∙ p.own c h
    own' c h (no d) = x.there q c (omega arith) h ∙ p.own c h

    done' : (a c : ℕ) → a < r + 1 → a ≢ q → c < 85 → Dec (a ≡ r) → G a c ≡ E a c ⊕ E a q ⊗ E q c
    done' a c m d h (no n) = x.there a c n h ∙ p.done a c (omega arith) d h
    done' a c m d h (yes i) =
        ap (λ (y : ℕ). G y c) i ∙ x.here c h
        ∙ ap₂ (λ (y e : ℕ). y ⊕ e ⊗ E q c) (p.todo r c (omega arith) h) (ef ∙ ap (λ (b : Bool). cond b 0 (F r q)) (ne_eqb r q (omega arith)) ∙ p.todo r q (omega arith) l)
        ∙ ap (λ (y : ℕ). E y c ⊕ E y q ⊗ E q c) (sym i)

pub sweep-end : (k q r : ℕ) (E F : ℕ → ℕ → ℕ) → k ≤ r → Sweeping q r E F → Swept k q E F
sweep-end k q r E F h p = record { own = p.own; others = λ a c l d m. p.done a c (omega arith) d m }

-- ---- the same, with the lists that the loop works on
pub record SweepLoop (k q : ℕ) (n₀ : List (List ℕ)) (s₀ : List ℕ) (n : List (List ℕ)) (s : List ℕ) (r : ℕ) : Type 0 where
  pub cells : Sweeping q r (cell n₀ s₀) (cell n s)
  pub upto : r ≤ k
  pub rows : length n ≡ 32
  pub long : length s ≡ 1696
  pub octets : Octets s
  pub rest : drop (k * 53) s ≡ drop (k * 53) s₀

module _ (k q : ℕ) (n₀ : List (List ℕ)) (s₀ : List ℕ) (qk : q < k) (k32 : k ≤ 32) (long : length s₀ ≡ 1696) where
  pub sweep-turn : (n : List (List ℕ)) (s : List ℕ) (r f : ℕ) (x y t : List ℕ) → r < k → f ≡ cond (eqb r q) 0 (get_or (get_or n r []) q 0)
      → y ≡ piece s₀ q → x ≡ plus (get_or n r []) (scale f (get_or n₀ q [])) → t ≡ more_side s r f y → SweepLoop k q n₀ s₀ n s r → SweepLoop k q n₀ s₀ (set n r x) t (r + 1)
  sweep-turn n s r f x y t l ef ey ex et i = rw (ex, et ∙ ap (more_side s r f) ey) (record {
    cells = sweep-next q r f (cell n₀ s₀) (cell n s) (cell N S) (omega arith) (ef ∙ ap (cond (eqb r q) 0) (sym (cell-low n s r q (omega arith))))
        (added n₀ n s₀ s q r f (omega (arith, i.rows)) (omega arith) (omega (arith, i.long))) i.cells;
    upto = omega arith;
    rows = length-set n r (plus (get_or n r []) (scale f (get_or n₀ q []))) ∙ i.rows;
    long = added-length n₀ n s₀ s q r f (omega (arith, i.rows)) (omega arith) (omega (arith, i.long)) ∙ i.long;
    octets = side-octets s r f (piece s₀ q) i.octets;
    rest = added-drop n₀ n s₀ s q r f (omega (arith, i.rows)) (omega arith) (omega (arith, i.long)) k l ∙ i.rest;
  })
    where
      N : List (List ℕ)
      N = more_row n r f (get_or n₀ q [])

      S : List ℕ
      S = more_side s r f (piece s₀ q)

-- ---- a column is cleared
-- row q takes row p, unless it is that row
module _ (k q p e : ℕ) (E F : ℕ → ℕ → ℕ) (fits : k ≤ 85) (lo : q ≤ p) (hi : p < k) (before : (r c : ℕ) → E r c < 256)
    (times : e ≡ cond (eqb p q) 0 1) (x : Added q e (E p) E F) where
  at_p : (c : ℕ) → c < 85 → F p c ≡ E p c
  at_p c h = pick (ℕ_discrete p q)
    where
      pick : Dec (p ≡ q) → F p c ≡ E p c
      pick (yes i) =
          ap (λ (a : ℕ). F a c) i ∙ x.here c h ∙ ap (λ (y : ℕ). E q c ⊕ y ⊗ E p c) (times ∙ ap (λ (b : Bool). cond b 0 1) (eq-eqb p q i))
          ∙ ap (λ (y : ℕ). E q c ⊕ y) (zero-⊗ (E p c)) ∙ ⊕-zero (E q c) ∙ ap (λ (a : ℕ). E a c) (sym i)
      pick (no d) = x.there p c d h

  mixed : Units k q E → ((r c : ℕ) → F r c < 256) → Cleared k 85 q E F
  mixed u octets = record {
    step = clear k 85 E F p 1 m hi (omega arith) (omega arith) (λ c h. at_p c h ∙ sym (one-⊗ (E p c) (before p c))) at-r;
    octets = octets;
    units = record {
      one = λ j l. x.there j j (omega arith) (omega arith) ∙ u.one j l;
      none = λ r j l h d. none' r j l h d (ℕ_discrete r q);
    };
  }
    where
      m : ℕ → ℕ
      m r = sel (ℕ_discrete r q) e 0

      at-r : (r c : ℕ) → r < k → r ≢ p → c < 85 → F r c ≡ E r c ⊕ m r ⊗ F p c
      at-r r c l d h = pick (ℕ_discrete r q)
        where
          pick : Dec (r ≡ q) → F r c ≡ E r c ⊕ m r ⊗ F p c
          pick (yes i) =
              ap (λ (a : ℕ). F a c) i ∙ x.here c h
              ∙ ap₂ ◌⊕◌ (ap (λ (a : ℕ). E a c) (sym i)) (ap₂ ◌⊗◌ (sym (sel_yes (ℕ_discrete r q) e 0 i)) (sym (at_p c h)))
          pick (no n) = x.there r c n h ∙ sym (ap (λ (y : ℕ). E r c ⊕ y ⊗ F p c) (sel_no (ℕ_discrete r q) e 0 n) ∙ ap (λ (y : ℕ). E r c ⊕ y) (zero-⊗ (F p c)) ∙ ⊕-zero (E r c))

      none' : (r j : ℕ) → r < k → j < q → r ≢ j → Dec (r ≡ q) → F r j ≡ 0
      none' r j l h d (yes i) =
          ap (λ (a : ℕ). F a j) i ∙ x.here j (omega arith)
          ∙ ap₂ (λ (y z : ℕ). y ⊕ e ⊗ z) (u.none q j (omega arith) h (omega arith)) (u.none p j hi h (omega arith)) ∙ ap (λ (y : ℕ). 0 ⊕ y) (⊗-zero e) ∙ ⊕-self 0
      none' r j l h d (no n) = x.there r j n (omega arith) ∙ u.none r j l h d

  mixed-some : E p q ≢ 0 → (p ≢ q → E q q ≡ 0) → F q q ≢ 0
  mixed-some some other z = some (sym (pick (ℕ_discrete p q)) ∙ z)
    where
      pick : Dec (p ≡ q) → F q q ≡ E p q
      pick (yes i) = ap (λ (a : ℕ). F a q) (sym i) ∙ at_p q (omega arith)
      pick (no d) =
          x.here q (omega arith) ∙ ap₂ (λ (y z : ℕ). y ⊕ z ⊗ E p q) (other d) (times ∙ ap (λ (b : Bool). cond b 0 1) (ne_eqb p q d))
          ∙ zero-⊕ (1 ⊗ E p q) ∙ one-⊗ (E p q) (before p q)

-- to add s + 1 times a number to it is to take it s times
scaled : (s y : ℕ) → y < 256 → y ⊕ (s ⊕ 1) ⊗ y ≡ s ⊗ y
scaled s y h =
    ap (λ (z : ℕ). y ⊕ z) (⊗-add-l y s 1 ∙ ⊕-comm (s ⊗ y) (1 ⊗ y) ∙ ap (λ (z : ℕ). z ⊕ s ⊗ y) (one-⊗ y h)) ∙ ⊕-self-left y (s ⊗ y)

-- row q is divided by its entry, and taken from the others
divided : (k q s : ℕ) (D E F G : ℕ → ℕ → ℕ) → q < k → k ≤ 85 → s < 256 → Cleared k 85 q D E → E q q ⊗ s ≡ 1 → Added q (s ⊕ 1) (E q) E F → Swept k q F G → ((r c : ℕ) → G r c < 256)
    → Cleared k 85 (q + 1) D G
divided k q s D E F G l h hs before inv x w octets =
    subst (λ (n : ℕ). Cleared k 85 n D G) (sym (add-one q))
    (advance k 85 q D E G l h before octets s hs inv (λ c m. w.own c m ∙ x.here c m ∙ scaled s (E q c) (before.octets q c))
    (λ r c m d n. w.others r c m d n ∙ ap₂ ◌⊕◌ (x.there r c d n) (ap₂ ◌⊗◌ (x.there r q d (omega arith)) (sym (w.own c n)))))

-- ---- the same, with the lists that the function works on
-- a column of the square is there whatever the right sides are
bare : (n : List (List ℕ)) (s : List ℕ) (r c : ℕ) → c < 32 → cell n s r c ≡ cell n [] r c
bare n s r c h = cell-low n s r c h ∙ sym (cell-low n [] r c h)

pub bare_pivoted : (k q : ℕ) (n : List (List ℕ)) (s : List ℕ) → q < 32 → Pivoted k q (cell n s) → Pivoted k q (cell n [])
bare_pivoted k q n s h x z = x (λ r l m. bare n s r q h ∙ z r l m)

set-octets : (n : List (List ℕ)) (q : ℕ) (x : List ℕ) → q < length n → ((r : ℕ) → Octets (get_or n r [])) → Octets x → (r : ℕ) → Octets (get_or (set n q x) r [])
set-octets n q x h o p r = pick (ℕ_discrete r q)
  where
    pick : Dec (r ≡ q) → Octets (get_or (set n q x) r [])
    pick (yes e) = subst Octets (sym (ap (λ (a : ℕ). get_or (set n q x) a []) e ∙ get_or-set_same n q x [] h)) p
    pick (no d) = subst Octets (sym (get_or-set_other n q r x [] d)) (o r)

-- n and s are the square and the right sides. Row q and its right sides take e times row p, whose right sides are y: row q is x, and the right sides t.
-- Then they take i + 1 times themselves, the right sides of the row being y': row q is x', and the right sides t'
module _ (k q p e i : ℕ) (n : List (List ℕ)) (s x y t x' y' t' : List ℕ) (qk : q < k) (k32 : k ≤ 32) (rows : length n ≡ 32) (long : length s ≡ 1696)
    (at : Pivot k q p (cell n [])) (times : e ≡ cond (eqb p q) 0 1)
    (ex : x ≡ plus (get_or n q []) (scale e (get_or n p []))) (ey : y ≡ piece s p) (et : t ≡ more_side s q e y)
    (ex' : x' ≡ plus x (scale (i ⊕ 1) x)) (ey' : y' ≡ piece t q) (et' : t' ≡ more_side t q (i ⊕ 1) y') where
  abbrev N : List (List ℕ)
  N = set n q x

  in_rows : q < length N
  in_rows = omega (arith, length-set n q x)

  t-length : length t ≡ 1696
  t-length = ap length (et ∙ ap (more_side s q e) ey) ∙ added-length n n s s p q e (omega arith) (omega (arith, at.high)) (omega arith) ∙ long

  row_is : get_or N q [] ≡ x
  row_is = get_or-set_same n q x [] (omega arith)

  took : Added q e (cell n s p) (cell n s) (cell N t)
  took = subst (λ (F : ℕ → ℕ → ℕ). Added q e (cell n s p) (cell n s) F) (sym (ap₂ cell (ap (set n q) ex) (et ∙ ap (more_side s q e) ey)))
      (added n n s s p q e (omega arith) (omega (arith, at.high)) (omega arith))

  grown : set n q x' ≡ more_row N q (i ⊕ 1) (get_or N q [])
  grown = ap (set n q) ex' ∙ sym (set-set n q x (plus x (scale (i ⊕ 1) x))) ∙ ap (λ (u : List ℕ). set N q (plus u (scale (i ⊕ 1) u))) (sym row_is)

  grew : Added q (i ⊕ 1) (cell N t q) (cell N t) (cell (set n q x') t')
  grew = subst (λ (F : ℕ → ℕ → ℕ). Added q (i ⊕ 1) (cell N t q) (cell N t) F) (sym (ap₂ cell grown (et' ∙ ap (more_side t q (i ⊕ 1)) ey')))
      (added N N t t q q (i ⊕ 1) in_rows (omega (arith, t-length)) (omega (arith, t-length)))

  pub eliminated : (m : List (List ℕ)) (u : List ℕ) → Units k q (cell n s) → Inverse (get_or x q 0) i → i < 256
      → Swept k q (cell (set n q x') t') (cell m u) × (drop (k * 53) u ≡ drop (k * 53) t')
      → ((r : ℕ) → Octets (get_or n r [])) → Octets s → Octets t → ((r : ℕ) → Octets (get_or m r [])) → Octets u
      → Cleared k 85 (q + 1) (cell n s) (cell m u) × (drop (k * 53) u ≡ drop (k * 53) s)
  eliminated m u units inv hi (swept, kept) on os ot om ou = (
    divided k q i (cell n s) (cell N t) (cell (set n q x') t') (cell m u) qk (omega arith) hi
        (mixed k q p e (cell n s) (cell N t) (omega arith) at.low at.high (cell-octets n s on os) times took units
        (cell-octets N t (set-octets n q x (omega arith) on (subst Octets (sym ex) (plus-octets (get_or n q []) (scale e (get_or n p [])) (on q) (scale-octets e (get_or n p []))))) ot))
        (ap (λ (z : ℕ). z ⊗ i) entry ∙ inv.some (λ z. some (entry ∙ z))) grew swept (cell-octets m u om ou),
    kept ∙ ap (drop (k * 53)) (et' ∙ ap (more_side t q (i ⊕ 1)) ey') ∙ added-drop N N t t q q (i ⊕ 1) in_rows (omega (arith, t-length)) (omega (arith, t-length)) k qk
        ∙ ap (drop (k * 53)) (et ∙ ap (more_side s q e) ey) ∙ added-drop n n s s p q e (omega arith) (omega (arith, at.high)) (omega arith) k qk,
  )
    where
      entry : cell N t q q ≡ get_or x q 0
      entry = cell-low N t q q (omega arith) ∙ ap (λ (z : List ℕ). get_or z q 0) row_is

      some : cell N t q q ≢ 0
      some = mixed-some k q p e (cell n s) (cell N t) (omega arith) at.low at.high (cell-octets n s on os) times took
          (λ z. at.some (sym (bare n s p q (omega arith)) ∙ z)) (λ d. bare n s q q (omega arith) ∙ at.other d)
