-- A free place is left for each of at most eight messages, by the pigeonhole: the keys in the places differ, and are keys of the messages.
-- And what the clock does to the places when none is over its time-out, or each is.
use mathlib.Core.Bool.{true, false}
use mathlib.Core.List.Memᴰ
use mathlib.Core.List.{List, [], ◌∷◌, map, Memᴰ}
use mathlib.Core.Path.{◌≡◌, refl, sym, ap, ◌∙◌}
use Prim.Native.Nat.{ℕ, suc, ◌+◌, ◌≤◌, ◌<◌}
use native.Mathlib.Omega.{arith}
use lib.ListN.{length, replicate}
use borrow.Author.Tests.{le-leb, lt-leb}
use Rattle.lists.specs.Lists.{Every}
use Rattle.collector.specs.Lists.{Nodup}
use Rattle.collector.specs.Place.{Key, Place, free, waiting, done, same_key, is_free, find, any_free, over, expire, FirstIs}
use Rattle.collector.specs.Valid.{Apart}
use Rattle.lists.proofs.Tests.{on_bool, clash}
use Rattle.collector.proofs.Lists.{nodup-le}
use Rattle.collector.proofs.Places.{same_refl}

abbrev keys_in : List Place → List Key
keys_in [] = []
keys_in (free ∷ ps) = keys_in ps
keys_in (waiting k f g ∷ ps) = k ∷ keys_in ps
keys_in (done k f ∷ ps) = k ∷ keys_in ps

find-keys_in : (k : Key) (ps : List Place) → Memᴰ k (keys_in ps) → is_free (find k ps) ≡ false
find-keys_in k [] m = absurd (Memᴰ.not-nil m)
find-keys_in k (free ∷ ps) m = find-keys_in k ps m
find-keys_in k (waiting k' f g ∷ ps) (Memᴰ.head e) = rw (ap (same_key k) (sym e) ∙ same_refl k)
find-keys_in k (waiting k' f g ∷ ps) (Memᴰ.tail m) = on_bool (same_key k k') (λ e. rw e) (λ e. rw e (find-keys_in k ps m))
find-keys_in k (done k' f ∷ ps) (Memᴰ.head e) = rw (ap (same_key k) (sym e) ∙ same_refl k)
find-keys_in k (done k' f ∷ ps) (Memᴰ.tail m) = on_bool (same_key k k') (λ e. rw e) (λ e. rw e (find-keys_in k ps m))

nodup-keys_in : (ps : List Place) → Apart ps → Nodup (keys_in ps)
nodup-keys_in [] a = tt
nodup-keys_in (free ∷ ps) a = nodup-keys_in ps a.1
nodup-keys_in (waiting k f g ∷ ps) a = ((λ m. clash (ap is_free (a.0 k (same_refl k))) (find-keys_in k ps m)), nodup-keys_in ps a.1)
nodup-keys_in (done k f ∷ ps) a = ((λ m. clash (ap is_free (a.0 k (same_refl k))) (find-keys_in k ps m)), nodup-keys_in ps a.1)

length-keys_in : (ps : List Place) → any_free ps ≡ false → length (keys_in ps) ≡ length ps
length-keys_in [] e = refl
length-keys_in (free ∷ ps) e = clash refl e
length-keys_in (waiting k f g ∷ ps) e = ap suc (length-keys_in ps e)
length-keys_in (done k f ∷ ps) e = ap suc (length-keys_in ps e)

-- as many places as there may be keys: a key that has no place finds a free one
pub room : (keys : List Key) (ps : List Place) → length keys ≤ length ps → Apart ps
    → ((j : Key) → is_free (find j ps) ≡ false → Memᴰ j keys)
    → (k : Key) → Memᴰ k keys → is_free (find k ps) ≡ true → any_free ps ≡ true
room keys ps few a known k i e =
    on_bool (any_free ps) (λ q. q)
    (λ q.
    let h : suc (length (keys_in ps)) ≤ length keys =
    nodup-le (k ∷ keys_in ps) keys ((λ m. clash e (find-keys_in k ps m)), nodup-keys_in ps a) (λ j m. inside j m) in
    absurd (omega (arith, length-keys_in ps q)))
  where
    inside : (j : Key) → Memᴰ j (k ∷ keys_in ps) → Memᴰ j keys
    inside j (Memᴰ.head e') = Memᴰ.cast e' i
    inside j (Memᴰ.tail m) = known j (find-keys_in j ps m)

-- ---- the clock
pub expire-none : (T t : ℕ) (ps : List Place) → Every (FirstIs (λ f. t < f + T)) ps → map (expire T t) ps ≡ ps
unfolding over
expire-none T t [] h = refl
expire-none T t (free ∷ ps) h = ap (λ r. free ∷ r) (expire-none T t ps h.1)
expire-none T t (waiting k f g ∷ ps) h = rw (lt-leb (f + T) t h.0) (ap (λ r. waiting k f g ∷ r) (expire-none T t ps h.1))
expire-none T t (done k f ∷ ps) h = rw (lt-leb (f + T) t h.0) (ap (λ r. done k f ∷ r) (expire-none T t ps h.1))

pub expire-all : (T t : ℕ) (ps : List Place) → Every (FirstIs (λ f. f + T ≤ t)) ps → map (expire T t) ps ≡ replicate (length ps) free
unfolding over
expire-all T t [] h = refl
expire-all T t (free ∷ ps) h = ap (λ r. free ∷ r) (expire-all T t ps h.1)
expire-all T t (waiting k f g ∷ ps) h = rw (le-leb (f + T) t h.0) (ap (λ r. free ∷ r) (expire-all T t ps h.1))
expire-all T t (done k f ∷ ps) h = rw (le-leb (f + T) t h.0) (ap (λ r. free ∷ r) (expire-all T t ps h.1))
