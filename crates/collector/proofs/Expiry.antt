-- Places that expire: one that is over becomes free and its part of the store zeros, any other stays as it is.
-- The code expires one place after another: after i turns the first i places are expired.
use mathlib.Core.Bool.{true, false}
use mathlib.Core.Path.{◌≡◌, refl, sym, ap, ap₂, ◌∙◌, subst}
use mathlib.Core.List.{List, [], ◌∷◌, ◌++◌, map}
use Prim.Native.Nat.{ℕ, zero, suc, ◌+◌, ◌*◌, ◌<◌}
use native.Mathlib.Numerals.{add-one}
use native.Mathlib.Omega.{arith}
use lib.ListN.{length, get_or, set, take, drop, replicate, length-set}
use lib.Seq.{set-get_or}
use Rattle.collector.specs.declared.state.Place.{Place as PlaceImage}
use Rattle.collector.specs.Place.{Place, free, waiting, done, expire}
use Rattle.collector.specs.Valid.{PlaceOk}
use Rattle.collector.specs.Image.{place_image}
use Rattle.lists.specs.Lists.{laid}
use Rattle.collector.specs.Steps.{state_over, Hold, Holding, expire_at}
use Rattle.collector.proofs.Lists.{map_get, map-set, every_set}
use Rattle.collector.proofs.Images.{store-whole, store-free, roomy-places}

-- ---- what holds places
pub held-length : (places : List PlaceImage) (store : List ℕ) → Holding places store → length store ≡ 13568
held-length places store (ps, h) = ap length h.store ∙ store-whole ps h.eight h.each

pub held-get : (ps : List Place) (places : List PlaceImage) (store : List ℕ) (i : ℕ) (z : PlaceImage) → Hold ps places store → i < 8
    → get_or places i z ≡ place_image (get_or ps i free)
held-get ps places store i z h l = ap (λ (qs : List PlaceImage). get_or qs i z) h.places ∙ map_get place_image ps i free z (omega (arith, h.eight))

pub held-free : (ps : List Place) (places : List PlaceImage) (store : List ℕ) (i : ℕ) (q : PlaceImage) (s : List ℕ) → Hold ps places store → i < 8
    → q ≡ place_image free → s ≡ laid store (i * 1696) (replicate 1696 0) → Hold (set ps i free) (set places i q) s
held-free ps places store i q s h l e f =
    record {
      eight = length-set ps i free ∙ h.eight;
      each = every_set PlaceOk ps i free h.each tt;
      places = ap₂ (λ (qs : List PlaceImage) (x : PlaceImage). set qs i x) h.places e ∙ sym (map-set place_image ps i free);
      store =
          f ∙ ap (λ (o : List ℕ). laid o (i * 1696) (replicate 1696 0)) h.store
          ∙ sym (store-free ps i free (roomy-places ps h.each) (omega (arith, h.eight)) refl);
    }

-- ---- place i expired
module _ (timeout t : ℕ) where
  expire-kept : (p : Place) → state_over timeout t (place_image p).state ≡ false → expire timeout t p ≡ p
  expire-kept free e = refl
  expire-kept (waiting k first pages) e = rw e
  expire-kept (done k first) e = rw e

  expire-freed : (p : Place) → state_over timeout t (place_image p).state ≡ true → expire timeout t p ≡ free
  expire-freed free e = refl
  expire-freed (waiting k first pages) e = rw e
  expire-freed (done k first) e = rw e

  module _ (ps : List Place) (places : List PlaceImage) (store : List ℕ) (i : ℕ) (z : PlaceImage) (h : Hold ps places store) (l : i < 8) where
    state-over : state_over timeout t (place_image (get_or ps i free)).state ≡ state_over timeout t (get_or places i z).state
    state-over = ap (λ (q : PlaceImage). state_over timeout t q.state) (sym (held-get ps places store i z h l))

    pub place_kept : state_over timeout t (get_or places i z).state ≡ false → Hold (expire_at timeout t i ps) places store
    place_kept e =
        let same : expire_at timeout t i ps ≡ ps = ap (set ps i) (expire-kept (get_or ps i free) (state-over ∙ e)) ∙ set-get_or ps i free in
        subst (λ (qs : List Place). Hold qs places store) (sym same) h

    pub place-freed : (q : PlaceImage) (s : List ℕ) → state_over timeout t (get_or places i z).state ≡ true → q ≡ place_image free
        → s ≡ laid store (i * 1696) (replicate 1696 0) → Hold (expire_at timeout t i ps) (set places i q) s
    place-freed q s e f g =
        let same : expire_at timeout t i ps ≡ set ps i free = ap (set ps i) (expire-freed (get_or ps i free) (state-over ∙ e)) in
        subst (λ (qs : List Place). Hold qs (set places i q) s) (sym same) (held-free ps places store i q s h l f g)

-- ---- the loop: the first i places expired
module _ (timeout t : ℕ) where
  abbrev pub expire_first : ℕ → List Place → List Place
  expire_first i ps = map (expire timeout t) (take i ps) ++ drop i ps

  first-suc : (i : ℕ) (ps : List Place) → expire_at timeout t i (expire_first i ps) ≡ expire_first (suc i) ps
  first-suc zero [] = refl
  first-suc (suc i) [] = refl
  first-suc zero (p ∷ ps) = refl
  first-suc (suc i) (p ∷ ps) = ap (λ (r : List Place). expire timeout t p ∷ r) (first-suc i ps)

  pub first_next : (i : ℕ) (ps : List Place) → expire_at timeout t i (expire_first i ps) ≡ expire_first (i + 1) ps
  first_next i ps = first-suc i ps ∙ ap (λ (n : ℕ). expire_first n ps) (sym (add-one i))
