-- How the code tests that a head and a store are those of a collector that our calls made. Only private contracts cite this file.
-- Leans on the structs of the source and on the steps of the code.
use Rattle.std.specs.Prelude.{ℕ, ◌*◌, Bool, true, false, not, ◌&&◌, List, [], ◌∷◌, ◌++◌, leb, ltb, eqb, length, take, drop}
use Rattle.std.specs.List.{list_all, list_any}
use Rattle.pagecode.specs.Page.{legal}
use Rattle.collector.specs.declared.state.Key.{Key as KeyImage}
use Rattle.collector.specs.declared.state.PlaceState.{PlaceState}
use Rattle.collector.specs.declared.state.PlaceState.TheVariants.{Free, Open, Done}
use Rattle.collector.specs.declared.state.Place.{Place as PlaceImage}
use Rattle.collector.specs.declared.state.Head.{Head}
use Rattle.collector.specs.Feed.{startable}
use Rattle.collector.specs.Steps.{state_has_key}

-- octets that are all 0
abbrev pub noughts : List ℕ → Bool
noughts xs = list_all (λ x. eqb x 0) xs

abbrev pub is_key : KeyImage → Bool
is_key k = leb k.status 1 && (leb k.number 31 && (leb 1 k.size && leb k.size 32))

-- a number that is none of those before it
abbrev pub is_new : ℕ → List ℕ → Bool
is_new n before = not (list_any (λ m. eqb m n) before)

-- numbers that are legal for the size, each of them new
abbrev pub are_numbers : ℕ → List ℕ → List ℕ → Bool
are_numbers size before [] = true
are_numbers size before (n ∷ ns) = legal size n && (is_new n before && are_numbers size (before ++ (n ∷ [])) ns)

-- behind n pages, numbers and octets are 0
abbrev pub is_rest : ℕ → List ℕ → List ℕ → Bool
is_rest n ns octets = noughts (drop n ns) && noughts (drop (n * 53) octets)

-- the key and the first second of a place that is not free
abbrev pub is_kept : ℕ → KeyImage → ℕ → Bool
is_kept last k first = is_key k && leb first last

abbrev pub is_open : ℕ → KeyImage → ℕ → ℕ → List ℕ → List ℕ → Bool
is_open last k first n ns octets =
    is_kept last k first && (leb 1 n && (ltb n k.size && (are_numbers k.size [] (take n ns) && is_rest n ns octets)))

abbrev pub is_done : ℕ → KeyImage → ℕ → List ℕ → List ℕ → Bool
is_done last k first ns octets = is_kept last k first && is_rest 0 ns octets

abbrev pub is_state : ℕ → PlaceState → List ℕ → List ℕ → Bool
is_state last Free ns octets = is_rest 0 ns octets
is_state last (Open k first n) ns octets = is_open last k first n ns octets
is_state last (Done k first) ns octets = is_done last k first ns octets

-- a place with its 32 numbers, and its octets of the store
unfoldable pub is_place : ℕ → PlaceImage → List ℕ → Bool
is_place last p octets = eqb (length p.numbers) 32 && is_state last p.state p.numbers octets

abbrev pub are_places : ℕ → List PlaceImage → List ℕ → Bool
are_places last [] store = true
are_places last (p ∷ ps) store = is_place last p (take 1696 store) && are_places last ps (drop 1696 store)

unfoldable pub are_eight : ℕ → List PlaceImage → List ℕ → Bool
are_eight last ps store = eqb (length ps) 8 && are_places last ps store

-- whether a place has the key
abbrev pub any_has : KeyImage → List PlaceImage → Bool
any_has k ps = list_any (λ p. state_has_key k p.state) ps

-- whether a place has the key of this state
abbrev pub is_again : PlaceState → List PlaceImage → Bool
is_again Free ps = false
is_again (Open k first n) ps = any_has k ps
is_again (Done k first) ps = any_has k ps

-- no two places have one key
abbrev pub are_apart : List PlaceImage → Bool
are_apart [] = true
are_apart (p ∷ ps) = not (is_again p.state ps) && are_apart ps

abbrev pub is_made : Head → List ℕ → Bool
is_made h store =
    eqb (length store) 13568
    && (startable h.timeout && (leb h.last 2477260799 && (are_apart h.places && are_eight h.last h.places store)))
