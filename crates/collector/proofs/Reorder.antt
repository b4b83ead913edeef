-- The same pages in another order are the same pages: `SamePages`, the premise of the theorems, is weaker than `Reordered`.
-- A number stands in a list whatever the order.
use mathlib.Core.Bool.{Bool, true, false, cond}
use mathlib.Core.List.{List, ◌∷◌, Memᴰ}
use mathlib.Core.Path.{sym, ap₂, subst}
use Prim.Native.Nat.{ℕ}
use Rattle.collector.specs.Place.{Key, same_key}
use Rattle.collector.specs.Demand.{Message, key_for, Fed, numbers_of, SamePages, Reordered, none, next, swap, then}

abbrev put : Bool → ℕ → List ℕ → List ℕ
put b n l = cond b (n ∷ l) l

put_map : (a : ℕ) (b : Bool) (n : ℕ) (l l' : List ℕ) → (Memᴰ a l → Memᴰ a l') → Memᴰ a (put b n l) → Memᴰ a (put b n l')
put_map a true n l l' h (Memᴰ.head e) = Memᴰ.head e
put_map a true n l l' h (Memᴰ.tail i) = Memᴰ.tail (h i)
put_map a false n l l' h i = h i

put-swap : (a : ℕ) (b c : Bool) (n m : ℕ) (l : List ℕ) → Memᴰ a (put b n (put c m l)) → Memᴰ a (put c m (put b n l))
put-swap a true true n m l (Memᴰ.head e) = Memᴰ.tail (Memᴰ.head e)
put-swap a true true n m l (Memᴰ.tail (Memᴰ.head e)) = Memᴰ.head e
put-swap a true true n m l (Memᴰ.tail (Memᴰ.tail i)) = Memᴰ.tail (Memᴰ.tail i)
put-swap a true false n m l i = i
put-swap a false true n m l i = i
put-swap a false false n m l i = i

one_way : {fs gs : List Fed} → Reordered fs gs → (k : Key) (n : ℕ) → Memᴰ n (numbers_of k fs) → Memᴰ n (numbers_of k gs)
one_way none k n i = i
one_way (next {f = f} {g = g} {fs = fs} {gs = gs} em ep r) k n i =
    subst (λ (l : List ℕ). Memᴰ n l)
    (ap₂ (λ (x : Message) (y : ℕ). put (same_key (key_for x) k) y (numbers_of k gs)) em ep)
    (put_map n (same_key (key_for f.message) k) f.page (numbers_of k fs) (numbers_of k gs) (λ j. one_way r k n j) i)
one_way (swap {f = f} {g = g} {fs = fs}) k n i =
    put-swap n (same_key (key_for f.message) k) (same_key (key_for g.message) k) f.page g.page (numbers_of k fs) i
one_way (then r s) k n i = one_way s k n (one_way r k n i)

back : {fs gs : List Fed} → Reordered fs gs → Reordered gs fs
back none = none
back (next em ep r) = next (sym em) (sym ep) (back r)
back swap = swap
back (then r s) = then (back s) (back r)

pub reordered : {fs gs : List Fed} → Reordered fs gs → SamePages fs gs
reordered r k n = ((λ i. one_way r k n i), (λ i. one_way (back r) k n i))
