-- The octets of a place and of a head, put part by part.
-- A state has nine octets, a place 41, so each part is laid where the last ended.
use mathlib.Core.Path.{◌≡◌, refl, sym, ap, ◌∙◌}
use mathlib.Core.List.{List, [], ◌∷◌, ◌++◌, append_assoc, append-nil}
use Prim.Native.Nat.{ℕ, ◌+◌, ◌*◌, ◌≤◌, ◌<◌}
use native.Mathlib.Numerals.{add-one}
use native.Mathlib.Omega.{arith}
use lib.ListN.{length, get_or, set, take, length-append}
use lib.Seq.{take-suc, take_all}
use Rattle.collector.specs.declared.state.PlaceState.{PlaceState}
use Rattle.collector.specs.declared.state.PlaceState.TheVariants.{Free, Open, Done}
use Rattle.collector.specs.declared.state.Place.{Place}
use Rattle.collector.specs.declared.state.Head.{Head}
use Rattle.lists.specs.Lists.{laid}
use Rattle.lists.proofs.Laid.{laid-over, laid_none}
use Rattle.image.specs.Octets.{word, state_octets, place_octets, places_octets, head_octets}
use Rattle.image.proofs.Laying.{laid_on, set_on}

-- ---- a state and a place
pub state-laid : (d : List ℕ) (at a b c e first count : ℕ) (l m : List ℕ) → at + 9 ≤ length d → l ≡ laid d at (a ∷ b ∷ c ∷ e ∷ []) → m ≡ laid l (at + 4) (word first)
    → set m (at + 8) count ≡ laid d at (a ∷ b ∷ c ∷ e ∷ (word first ++ (count ∷ [])))
state-laid d at a b c e first count l m h i j =
    ap (λ (s : List ℕ). set s (at + 8) count) (j ∙ ap (λ (s : List ℕ). laid s (at + 4) (word first)) i ∙ laid_on d at (at + 4) (a ∷ b ∷ c ∷ e ∷ []) (word first) refl (omega arith))
    ∙ set_on d at (at + 8) (a ∷ b ∷ c ∷ e ∷ word first) count refl (omega arith)

pub state-length : (s : PlaceState) → length (state_octets s) ≡ 9
state-length Free = refl
state-length (Open k first count) = refl
state-length (Done k first) = refl

pub place-length : (p : Place) → length p.numbers ≡ 32 → length (place_octets p) ≡ 41
unfolding place_octets
place-length p h = length-append (state_octets p.state) p.numbers ∙ omega (arith, state-length p.state)

pub place-laid : (d : List ℕ) (at : ℕ) (p : Place) (l m : List ℕ) → at + 41 ≤ length d → length p.numbers ≡ 32 → l ≡ laid d at (state_octets p.state) → m ≡ laid l (at + 9) p.numbers
    → m ≡ laid d at (place_octets p)
unfolding place_octets
place-laid d at p l m h n i j =
    j ∙ ap (λ (s : List ℕ). laid s (at + 9) p.numbers) i ∙ laid_on d at (at + 9) (state_octets p.state) p.numbers (omega (arith, state-length p.state)) (omega arith)

-- ---- places, one after another
places-append : (ps qs : List Place) → places_octets (ps ++ qs) ≡ places_octets ps ++ places_octets qs
unfolding places_octets
places-append [] qs = refl
places-append (p ∷ ps) qs = ap (λ (r : List ℕ). place_octets p ++ r) (places-append ps qs) ∙ sym (append_assoc (place_octets p) (places_octets ps) (places_octets qs))

places-one : (p : Place) → places_octets (p ∷ []) ≡ place_octets p
unfolding places_octets
places-one p = append-nil (place_octets p)

places-more : (ps : List Place) (i : ℕ) (z : Place) → i < length ps → places_octets (take i ps) ++ place_octets (get_or ps i z) ≡ places_octets (take (i + 1) ps)
places-more ps i z h =
    ap (λ (r : List ℕ). places_octets (take i ps) ++ r) (sym (places-one (get_or ps i z))) ∙ sym (places-append (take i ps) (get_or ps i z ∷ []))
    ∙ ap places_octets (sym (take-suc ps i z h) ∙ ap (λ (k : ℕ). take k ps) (sym (add-one i)))

-- i places are put behind the first eight octets of s
pub record Put (s : List ℕ) (ps : List Place) (i : ℕ) (out : List ℕ) : Type 0 where
  pub laid-there : out ≡ laid s 8 (places_octets (take i ps))
  pub many : length (places_octets (take i ps)) ≡ 41 * i

pub put-none : (s : List ℕ) (ps : List Place) → Put s ps 0 s
unfolding places_octets
put-none s ps = record { laid-there = laid_none s 8 []; many = refl }

pub put-more : (s : List ℕ) (ps : List Place) (i : ℕ) (z : Place) (out next : List ℕ) → i < length ps → 8 + 41 * (i + 1) ≤ length s → Put s ps i out
    → next ≡ laid out (8 + 41 * i) (place_octets (get_or ps i z)) → length (place_octets (get_or ps i z)) ≡ 41 → Put s ps (i + 1) next
put-more s ps i z out next h room put e n =
    let here = place_octets (get_or ps i z) in
    let all = places_octets (take i ps) in
    let more = places-more ps i z h in
    let many = put.many in
    record {
      laid-there =
          e ∙ ap (λ (o : List ℕ). laid o (8 + 41 * i) here) put.laid-there ∙ laid_on s 8 (8 + 41 * i) all here (omega arith) (omega arith) ∙ ap (laid s 8) more;
      many = ap length (sym more) ∙ length-append all here ∙ omega arith;
    }

-- ---- a head
pub head-laid : (d : List ℕ) (h : Head) (a b out : List ℕ) (i : ℕ) → length d ≡ 336 → length h.places ≡ 8 → i ≡ 8 → a ≡ laid d 0 (word h.timeout) → b ≡ laid a 4 (word h.last)
    → Put b h.places i out → out ≡ head_octets h
unfolding head_octets
head-laid d h a b out i n eight e f g put =
    put.laid-there ∙ ap (λ (ps : List Place). laid b 8 (places_octets ps)) all ∙ ap (λ (s : List ℕ). laid s 8 (places_octets h.places)) clock
    ∙ laid_on d 0 8 (word h.timeout ++ word h.last) (places_octets h.places) refl (omega (arith, many))
    ∙ laid-over d (word h.timeout ++ (word h.last ++ places_octets h.places)) (omega (arith, many))
  where
    all : take i h.places ≡ h.places
    all = take_all i h.places (omega arith)

    many : length (places_octets h.places) ≡ 328
    many = ap (λ (ps : List Place). length (places_octets ps)) (sym all) ∙ put.many ∙ ap (λ (k : ℕ). 41 * k) e

    clock : b ≡ laid d 0 (word h.timeout ++ word h.last)
    clock = g ∙ ap (λ (s : List ℕ). laid s 4 (word h.last)) f ∙ laid_on d 0 4 (word h.timeout) (word h.last) refl (omega arith)
