-- The laws of `find`, `replace` and `expire` on a list of places: what a change at one key does to every key.
-- No two places have one key, so what is found under a key is the only place of it.
use mathlib.Core.Bool.{Bool, true, false}
use mathlib.Core.List.{List, [], ◌∷◌, ◌++◌, map}
use mathlib.Core.Logic.{◌⊎◌, inl, inr}
use mathlib.Core.Path.{◌≡◌, refl, sym, ap, ◌∙◌, subst}
use Prim.Native.Nat.{ℕ, zero, suc}
use lib.ListN.{length, replicate}
use lib.Dec.{eqb}
use borrow.Author.Tests.{eqb-true, eq-eqb}
use Rattle.collector.specs.Place.{Key, Held, Place, free, waiting, done, same_key, has_key, is_free, find, any_free, replace, over, expire, numbers}
use Rattle.collector.specs.Valid.{Apart}
use Rattle.lists.proofs.Tests.{on_bool, clash, and_left, and_right}

-- ---- keys
pub same_true : (a b : Key) → same_key a b ≡ true → a ≡ b
unfolding same_key
same_true a b e =
    let g = and_right (eqb a.status b.status) _ e in
    λ i. record {
      status = eqb-true a.status b.status (and_left _ _ e) i;
      number = eqb-true a.number b.number (and_left _ _ g) i;
      size = eqb-true a.size b.size (and_right (eqb a.number b.number) _ g) i;
    }

pub same_refl : (a : Key) → same_key a a ≡ true
unfolding same_key
same_refl a = rw (eq-eqb a.status a.status refl, eq-eqb a.number a.number refl, eq-eqb a.size a.size refl)

pub same-swap : (a b : Key) → same_key a b ≡ false → same_key b a ≡ false
same-swap a b e = on_bool (same_key b a) (λ q. clash (ap (same_key a) (same_true b a q) ∙ same_refl a) e) (λ q. q)

-- `Keyed k p`: the place p has the key k, and no other
abbrev pub Keyed : Key → Place → Type 0
Keyed k p = (j : Key) → has_key j p ≡ same_key j k

pub keyed-of : (k : Key) (p : Place) → has_key k p ≡ true → Keyed k p
keyed-of k free e = clash e refl
keyed-of k (waiting k' f g) e = λ j. ap (same_key j) (sym (same_true k k' e))
keyed-of k (done k' f) e = λ j. ap (same_key j) (sym (same_true k k' e))

pub keyed_self : (k : Key) (p : Place) → Keyed k p → has_key k p ≡ true
keyed_self k p h = h k ∙ same_refl k

pub keyed-other : (j k : Key) (p : Place) → Keyed k p → same_key j k ≡ false → has_key j p ≡ false
keyed-other j k p h n = h j ∙ n

pub keyed-free : (k : Key) (p : Place) → has_key k p ≡ true → is_free p ≡ false
keyed-free k free e = clash e refl
keyed-free k (waiting k' f g) e = refl
keyed-free k (done k' f) e = refl

pub is_free_lem : (p : Place) → is_free p ≡ true → p ≡ free
is_free_lem free e = refl
is_free_lem (waiting k f g) e = clash e refl
is_free_lem (done k f) e = clash e refl

-- ---- find
pub found : (k : Key) (ps : List Place) → is_free (find k ps) ≡ false → has_key k (find k ps) ≡ true
found k [] = λ e. clash refl e
found k (p ∷ ps) = on_bool (has_key k p) (λ h. rw h (λ e. h)) (λ h. rw h (λ e. found k ps e))

-- no place has the key
pub absent : (k : Key) (p : Place) (ps : List Place) → find k (p ∷ ps) ≡ free → (has_key k p ≡ false) × (find k ps ≡ free)
absent k p ps =
    on_bool (has_key k p)
    (λ h. rw h (λ e. clash (ap is_free e) (keyed-free k p h)))
    (λ h. rw h (λ e. (refl, e)))

-- ---- replace
pub find-replace-other : (j : Key) (is : Place → Bool) (new : Place) → ((p : Place) → is p ≡ true → has_key j p ≡ false) → has_key j new ≡ false
    → (ps : List Place) → find j (replace is new ps) ≡ find j ps
find-replace-other j is new h hn [] = refl
find-replace-other j is new h hn (p ∷ ps) =
    on_bool (is p)
    (λ e. rw (e, h p e, hn))
    (λ e. rw (e, find-replace-other j is new h hn ps))

pub find-replace-key : (k : Key) (new : Place) → has_key k new ≡ true
    → (ps : List Place) → is_free (find k ps) ≡ false → find k (replace (has_key k) new ps) ≡ new
find-replace-key k new hn [] = λ h. clash refl h
find-replace-key k new hn (p ∷ ps) =
    on_bool (has_key k p)
    (λ e. rw (e, hn) (λ h. refl))
    (λ e. rw (e, e) (λ h. find-replace-key k new hn ps h))

pub find-replace-free : (k : Key) (new : Place) → has_key k new ≡ true
    → (ps : List Place) → find k ps ≡ free → any_free ps ≡ true → find k (replace is_free new ps) ≡ new
find-replace-free k new hn [] h = λ a. clash a refl
find-replace-free k new hn (p ∷ ps) h =
    let g = absent k p ps h in
    on_bool (is_free p)
    (λ e. rw (e, hn) (λ a. refl))
    (λ e. rw (e, g.0) (λ a. find-replace-free k new hn ps g.1 a))

-- ---- no two places have one key

pub key-hit : (j k : Key) → same_key j k ≡ false → (p : Place) → has_key k p ≡ true → has_key j p ≡ false
key-hit j k n p h = keyed-of k p h j ∙ n

pub free-hit : (j : Key) (p : Place) → is_free p ≡ true → has_key j p ≡ false
free-hit j p e = ap (has_key j) (is_free_lem p e)

pub apart-replace-key : (k : Key) (new : Place) → Keyed k new → (ps : List Place) → Apart ps → Apart (replace (has_key k) new ps)
apart-replace-key k new hn [] a = tt
apart-replace-key k new hn (p ∷ ps) a =
    on_bool (has_key k p)
    (λ e. rw e ((λ j h. let q = same_true j k (sym (hn j) ∙ h) in subst (λ (x : Key). find x ps ≡ free) (sym q) (a.0 k e)), a.1))
    (λ e. rw e (
      (λ j h. on_bool (same_key j k)
          (λ s. clash (subst (λ (x : Key). has_key x p ≡ true) (same_true j k s) h) e)
          (λ s. find-replace-other j (has_key k) new (key-hit j k s) (keyed-other j k new hn s) ps ∙ a.0 j h)),
      apart-replace-key k new hn ps a.1,
    ))

pub apart-replace-free : (k : Key) (new : Place) → Keyed k new → (ps : List Place) → find k ps ≡ free → Apart ps → Apart (replace is_free new ps)
apart-replace-free k new hn [] n a = tt
apart-replace-free k new hn (p ∷ ps) n a =
    let g = absent k p ps n in
    on_bool (is_free p)
    (λ e. rw e ((λ j h. let q = same_true j k (sym (hn j) ∙ h) in subst (λ (x : Key). find x ps ≡ free) (sym q) g.1), a.1))
    (λ e. rw e (
      (λ j h. on_bool (same_key j k)
          (λ s. clash (subst (λ (x : Key). has_key x p ≡ true) (same_true j k s) h) g.0)
          (λ s. find-replace-other j is_free new (free-hit j) (keyed-other j k new hn s) ps ∙ a.0 j h)),
      apart-replace-free k new hn ps g.1 a.1,
    ))

-- ---- expire
pub expired : (T t : ℕ) (p : Place) → (expire T t p ≡ p) ⊎ (expire T t p ≡ free)
expired T t free = inl refl
expired T t (waiting k f g) = on_bool (over T t f) (λ e. inr (rw e)) (λ e. inl (rw e))
expired T t (done k f) = on_bool (over T t f) (λ e. inr (rw e)) (λ e. inl (rw e))

has_key-expire : (T t : ℕ) (k : Key) (p : Place) → has_key k (expire T t p) ≡ true → has_key k p ≡ true
has_key-expire T t k p h = go (expired T t p)
  where
    go : (expire T t p ≡ p) ⊎ (expire T t p ≡ free) → has_key k p ≡ true
    go (inl e) = sym (ap (has_key k) e) ∙ h
    go (inr e) = clash h (ap (has_key k) e)

pub find-expire : (T t : ℕ) (k : Key) (ps : List Place) → Apart ps → find k (map (expire T t) ps) ≡ expire T t (find k ps)
find-expire T t k [] a = refl
find-expire T t k (p ∷ ps) a = go (find-expire T t k ps a.1) (expired T t p)
  where
    go : find k (map (expire T t) ps) ≡ expire T t (find k ps) → (expire T t p ≡ p) ⊎ (expire T t p ≡ free)
        → find k (map (expire T t) (p ∷ ps)) ≡ expire T t (find k (p ∷ ps))
    go ih (inl e) = on_bool (has_key k p) (λ h. rw (e, h, e)) (λ h. rw (e, h, ih))
    go ih (inr e) =
        on_bool (has_key k p)
        (λ h. rw (e, h) (ih ∙ ap (expire T t) (a.0 k h) ∙ sym e))
        (λ h. rw (e, h, ih))

pub apart-expire : (T t : ℕ) (ps : List Place) → Apart ps → Apart (map (expire T t) ps)
apart-expire T t [] a = tt
apart-expire T t (p ∷ ps) a = (
  (λ k h. find-expire T t k ps a.1 ∙ ap (expire T t) (a.0 k (has_key-expire T t k p h))),
  apart-expire T t ps a.1,
)

-- ---- all places free
pub apart_none : (n : ℕ) → Apart (replicate n free)
apart_none zero = tt
apart_none (suc n) = ((λ k h. clash h refl), apart_none n)

-- ---- the numbers of pages
pub numbers-length : (pages : List Held) → length (numbers pages) ≡ length pages
numbers-length [] = refl
numbers-length (p ∷ ps) = ap suc (numbers-length ps)

pub numbers-snoc : (pages : List Held) (p : Held) → numbers (pages ++ (p ∷ [])) ≡ numbers pages ++ (p.number ∷ [])
numbers-snoc [] p = refl
numbers-snoc (q ∷ qs) p = ap (λ (r : List ℕ). q.number ∷ r) (numbers-snoc qs p)
