-- Lists with no element twice: the pigeonhole, and the different numbers of a list.
-- The pigeonhole takes one place from the longer list for each element; `add` puts a number behind the others only if it is new.
use mathlib.Core.Bool.{true}
use mathlib.Core.List.Memᴰ
use mathlib.Core.List.{List, [], ◌∷◌, ◌++◌, map, Memᴰ}
use mathlib.Core.Logic.{◌⊎◌, inl, inr}
use mathlib.Core.Path.{◌≡◌, refl, sym, ap, ◌∙◌, subst}
use Prim.Native.Nat.{ℕ, zero, suc, ◌≤◌, ◌<◌, zero-le}
use native.Mathlib.Nat.{le_antisymm}
use native.Mathlib.Omega.{arith}
use lib.ListN.{length, get_or, set}
use lib.Dec.{eqb}
use borrow.Author.Tests.{eqb-true, eq-eqb}
use Rattle.lists.specs.Lists.{Every, memb}
use Rattle.lists.proofs.Tests.{on_bool, clash}
use Rattle.collector.specs.Lists.{Nodup, add, gather, different}

-- ---- no element twice
module _ {A : Type 0} where
  -- a list less one place
  abbrev less : {a : A} {l : List A} → Memᴰ a l → List A
  less (Memᴰ.head {xs = xs} e) = xs
  less (Memᴰ.tail {x = x} m) = x ∷ less m

  length-less : {a : A} {l : List A} (m : Memᴰ a l) → length l ≡ suc (length (less m))
  length-less (Memᴰ.head e) = refl
  length-less (Memᴰ.tail m) = ap suc (length-less m)

  mem-less : {a : A} {l : List A} (m : Memᴰ a l) (b : A) → (b ≡ a → ⊥) → Memᴰ b l → Memᴰ b (less m)
  mem-less (Memᴰ.head e) b n (Memᴰ.head e') = absurd (n (e' ∙ sym e))
  mem-less (Memᴰ.head e) b n (Memᴰ.tail m') = m'
  mem-less (Memᴰ.tail m) b n (Memᴰ.head e') = Memᴰ.head e'
  mem-less (Memᴰ.tail m) b n (Memᴰ.tail m') = Memᴰ.tail (mem-less m b n m')

  -- the pigeonhole
  pub nodup-le : (xs ys : List A) → Nodup xs → ((a : A) → Memᴰ a xs → Memᴰ a ys) → length xs ≤ length ys
  nodup-le [] ys d h = zero-le
  nodup-le (x ∷ xs) ys d h =
      let m = h x (Memᴰ.head refl) in
      let ih =
      nodup-le xs (less m) d.1
      (λ b i. mem-less m b (λ e. d.0 (Memᴰ.cast (sym e) i)) (h b (Memᴰ.tail i))) in
      omega (arith, ih, length-less m)

  nodup-same : (xs ys : List A) → Nodup xs → Nodup ys
      → ((a : A) → Memᴰ a xs → Memᴰ a ys) → ((a : A) → Memᴰ a ys → Memᴰ a xs) → length xs ≡ length ys
  nodup-same xs ys dx dy f g = le_antisymm (nodup-le xs ys dx f) (nodup-le ys xs dy g)

  pub nodup-snoc : (xs : List A) (a : A) → Nodup xs → (Memᴰ a xs → ⊥) → Nodup (xs ++ (a ∷ []))
  nodup-snoc [] a d n = ((λ m. Memᴰ.not-nil m), tt)
  nodup-snoc (x ∷ xs) a d n =
      ((λ m. off (Memᴰ.append_cases xs m)), nodup-snoc xs a d.1 (λ m. n (Memᴰ.tail m)))
    where
      off : Memᴰ x xs ⊎ Memᴰ x (a ∷ []) → ⊥
      off (inl m) = d.0 m
      off (inr m) = n (Memᴰ.head (sym (Memᴰ.eq_of_singleton m)))

pub mem-map : {A B : Type 0} (f : A → B) {a : A} {l : List A} → Memᴰ a l → Memᴰ (f a) (map f l)
mem-map f (Memᴰ.head e) = Memᴰ.head (ap f e)
mem-map f (Memᴰ.tail m) = Memᴰ.tail (mem-map f m)

-- with no two images the same, an element is known by its image
pub map_inj : {A B : Type 0} (f : A → B) (l : List A) → Nodup (map f l) → (a b : A) → Memᴰ a l → Memᴰ b l → f a ≡ f b → a ≡ b
map_inj f [] d a b i j e = absurd (Memᴰ.not-nil i)
map_inj {A} f (x ∷ xs) d a b i j e = go (Memᴰ.cases_cons i) (Memᴰ.cases_cons j) (λ i' j'. map_inj f xs d.1 a b i' j' e)
  where
    go : (a ≡ x) ⊎ Memᴰ a xs → (b ≡ x) ⊎ Memᴰ b xs → (Memᴰ a xs → Memᴰ b xs → a ≡ b) → a ≡ b
    go (inl p) (inl q) below = p ∙ sym q
    go (inl p) (inr q) below = absurd (d.0 (Memᴰ.cast (ap f (sym p) ∙ e) (mem-map f q)))
    go (inr p) (inl q) below = absurd (d.0 (Memᴰ.cast (ap f (sym q) ∙ sym e) (mem-map f p)))
    go (inr p) (inr q) below = below p q

-- ---- numbers: membership as a test, and the different ones of a list
pub memb-true : (n : ℕ) (l : List ℕ) → memb n l ≡ true → Memᴰ n l
memb-true n [] e = clash e refl
memb-true n (x ∷ xs) e = on_bool (eqb n x) (λ q. Memᴰ.head (eqb-true n x q)) (λ q. Memᴰ.tail (memb-true n xs (rw q at e)))

pub mem-memb : (n : ℕ) (l : List ℕ) → Memᴰ n l → memb n l ≡ true
mem-memb n [] x' = elim x' [ ]
mem-memb n (x ∷ xs) (Memᴰ.head e) = rw (eq-eqb n x e)
mem-memb n (x ∷ xs) (Memᴰ.tail m) = on_bool (eqb n x) (λ q. rw q) (λ q. rw q (mem-memb n xs m))

pub memb-iff : (n : ℕ) (l l' : List ℕ) → (Memᴰ n l → Memᴰ n l') → (Memᴰ n l' → Memᴰ n l) → memb n l ≡ memb n l'
memb-iff n l l' f g =
    on_bool (memb n l)
    (λ e. e ∙ sym (mem-memb n l' (f (memb-true n l e))))
    (λ e. on_bool (memb n l') (λ e'. clash (mem-memb n l (g (memb-true n l' e'))) e) (λ e'. e ∙ sym e'))

pub gather-snoc : (s ns : List ℕ) (n : ℕ) → gather s (ns ++ (n ∷ [])) ≡ add n (gather s ns)
gather-snoc s [] n = refl
gather-snoc s (x ∷ ns) n = gather-snoc (add x s) ns n

nodup_add : (n : ℕ) (s : List ℕ) → Nodup s → Nodup (add n s)
unfolding add
nodup_add n s d = on_bool (memb n s) (λ e. rw e d) (λ e. rw e (nodup-snoc s n d (λ m. clash (mem-memb n s m) e)))

nodup-gather : (s ns : List ℕ) → Nodup s → Nodup (gather s ns)
nodup-gather s [] d = d
nodup-gather s (n ∷ ns) d = nodup-gather (add n s) ns (nodup_add n s d)

pub nodup-different : (ns : List ℕ) → Nodup (different ns)
nodup-different ns = nodup-gather [] ns tt

mem-add : (a n : ℕ) (s : List ℕ) → Memᴰ a (add n s) → (a ≡ n) ⊎ Memᴰ a s
unfolding add
mem-add a n s = on_bool (memb n s) (λ e. rw e (λ m. inr m)) (λ e. rw e (λ m. go (Memᴰ.append_cases s m)))
  where
    go : Memᴰ a s ⊎ Memᴰ a (n ∷ []) → (a ≡ n) ⊎ Memᴰ a s
    go (inl m) = inr m
    go (inr m) = inl (Memᴰ.eq_of_singleton m)

add-old : (a n : ℕ) (s : List ℕ) → Memᴰ a s → Memᴰ a (add n s)
unfolding add
add-old a n s m = on_bool (memb n s) (λ e. rw e m) (λ e. rw e (Memᴰ.append_left (n ∷ []) m))

add-new : (n : ℕ) (s : List ℕ) → Memᴰ n (add n s)
unfolding add
add-new n s = on_bool (memb n s) (λ e. rw e (memb-true n s e)) (λ e. rw e (Memᴰ.append_right s (Memᴰ.head refl)))

mem-gather : (a : ℕ) (s ns : List ℕ) → Memᴰ a (gather s ns) → Memᴰ a s ⊎ Memᴰ a ns
mem-gather a s [] m = inl m
mem-gather a s (n ∷ ns) m = go (mem-gather a (add n s) ns m)
  where
    in-add : (a ≡ n) ⊎ Memᴰ a s → Memᴰ a s ⊎ Memᴰ a (n ∷ ns)
    in-add (inl e) = inr (Memᴰ.head e)
    in-add (inr i) = inl i

    go : Memᴰ a (add n s) ⊎ Memᴰ a ns → Memᴰ a s ⊎ Memᴰ a (n ∷ ns)
    go (inl i) = in-add (mem-add a n s i)
    go (inr i) = inr (Memᴰ.tail i)

gather-old : (a : ℕ) (s ns : List ℕ) → Memᴰ a s → Memᴰ a (gather s ns)
gather-old a s [] m = m
gather-old a s (n ∷ ns) m = gather-old a (add n s) ns (add-old a n s m)

gather-new : (a : ℕ) (s ns : List ℕ) → Memᴰ a ns → Memᴰ a (gather s ns)
gather-new a s [] x' = elim x' [ ]
gather-new a s (n ∷ ns) (Memᴰ.head e) = Memᴰ.cast e (gather-old n (add n s) ns (add-new n s))
gather-new a s (n ∷ ns) (Memᴰ.tail m) = gather-new a (add n s) ns m

pub different-mem : (a : ℕ) (ns : List ℕ) → Memᴰ a (different ns) → Memᴰ a ns
different-mem a ns m = go (mem-gather a [] ns m)
  where
    go : Memᴰ a [] ⊎ Memᴰ a ns → Memᴰ a ns
    go (inl i) = absurd (Memᴰ.not-nil i)
    go (inr i) = i

pub mem-different : (a : ℕ) (ns : List ℕ) → Memᴰ a ns → Memᴰ a (different ns)
mem-different a ns m = gather-new a [] ns m

-- lists with the same numbers have as many different ones
pub different-same : (ns ms : List ℕ) → ((a : ℕ) → Memᴰ a ns → Memᴰ a ms) → ((a : ℕ) → Memᴰ a ms → Memᴰ a ns)
    → length (different ns) ≡ length (different ms)
different-same ns ms f g =
    nodup-same (different ns) (different ms) (nodup-different ns) (nodup-different ms)
    (λ a m. mem-different a ms (f a (different-mem a ns m)))
    (λ a m. mem-different a ns (g a (different-mem a ms m)))

-- ---- a fact of every element, and one element more
pub length-snoc : {A : Type 0} (l : List A) (a : A) → length (l ++ (a ∷ [])) ≡ suc (length l)
length-snoc [] a = refl
length-snoc (x ∷ xs) a = ap suc (length-snoc xs a)

pub every-snoc : {A : Type 0} (P : A → Type 0) (l : List A) (a : A) → Every P l → P a → Every P (l ++ (a ∷ []))
every-snoc P [] a h q = (q, tt)
every-snoc P (x ∷ xs) a h q = (h.0, every-snoc P xs a h.1 q)

pub every_front : {A : Type 0} (P : A → Type 0) (pre post : List A) → Every P (pre ++ post) → Every P pre
every_front P [] post h = tt
every_front P (x ∷ xs) post h = (h.0, every_front P xs post h.1)

pub every_back : {A : Type 0} (P : A → Type 0) (pre post : List A) → Every P (pre ++ post) → Every P post
every_back P [] post h = h
every_back P (x ∷ xs) post h = every_back P xs post h.1

pub every_mem : {A : Type 0} (P : A → Type 0) (l : List A) → Every P l → (a : A) → Memᴰ a l → P a
every_mem P [] ev a x' = elim x' [ ]
every_mem P (x ∷ xs) ev a (Memᴰ.head e) = subst P (sym e) ev.0
every_mem P (x ∷ xs) ev a (Memᴰ.tail i) = every_mem P xs ev.1 a i

-- ---- one element of a list
pub map_get : {A B : Type 0} (f : A → B) (l : List A) (i : ℕ) (d : A) (z : B) → i < length l → get_or (map f l) i z ≡ f (get_or l i d)
map_get f [] i d z h = absurd (omega arith)
map_get f (x ∷ l) zero d z h = refl
map_get f (x ∷ l) (suc i) d z h = map_get f l i d z (omega arith)

pub map-set : {A B : Type 0} (f : A → B) (l : List A) (i : ℕ) (x : A) → map f (set l i x) ≡ set (map f l) i (f x)
map-set f [] i x = refl
map-set f (y ∷ l) zero x = refl
map-set {B = B} f (y ∷ l) (suc i) x = ap (λ (r : List B). f y ∷ r) (map-set f l i x)

pub every_set : {A : Type 0} (P : A → Type 0) (l : List A) (i : ℕ) (x : A) → Every P l → P x → Every P (set l i x)
every_set P [] i x e p = tt
every_set P (y ∷ l) zero x e p = (p, e.1)
every_set P (y ∷ l) (suc i) x e p = (e.0, every_set P l i x e.1 p)

pub every_get : {A : Type 0} (P : A → Type 0) (l : List A) (i : ℕ) (d : A) → Every P l → P d → P (get_or l i d)
every_get P [] i d e p = p
every_get P (x ∷ l) zero d e p = e.0
every_get P (x ∷ l) (suc i) d e p = every_get P l i d e.1 p
