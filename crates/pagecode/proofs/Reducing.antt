-- The equations of the parity pages, reduced to the missing pages: a turn of each loop that makes them.
-- A row or a right side is made whole in its turn, and a later turn leaves it as it is.
use mathlib.Core.List.{List, []}
use mathlib.Core.Path.{◌≡◌, refl, sym, ap, ap₂, ◌∙◌, subst}
use Prim.Native.Nat.{ℕ, suc, ◌+◌, ◌-◌, ◌*◌, ◌<◌}
use native.Mathlib.Decide.{ℕ_discrete}
use native.Mathlib.Numerals.{add-one}
use native.Mathlib.Omega.{arith}
use lib.ListN.{length, get_or, set, replicate, get_or-replicate}
use lib.Seq.{get_or-set_same, get_or-set_other}
use Rattle.pagecode.specs.Field.{◌⊕◌, ◌⊗◌, Octets}
use Rattle.pagecode.specs.System.{sum}
use Rattle.pagecode.specs.Reduction.{PageLaid, ReducedRow, KnownAdded, known_sum, ReducedSides}
use Rattle.pagecode.proofs.Linear.{⊕-assoc, ⊕-zero, zero-⊕}
use Rattle.pagecode.proofs.Laws.{one-⊗}
use Rattle.pagecode.proofs.Pieces.{piece, piece-get}
use Rattle.pagecode.proofs.Multiples.{more, more-get}

-- ---- the rows
pub rows_turn : (r a : ℕ) (missing short : List ℕ) (rows square : List (List ℕ)) → a < length square → ReducedRow r missing (get_or rows a []) short
    → ((b : ℕ) → b < a → ReducedRow r missing (get_or rows b []) (get_or square b [])) → (b : ℕ) → b < a + 1 → ReducedRow r missing (get_or rows b []) (get_or (set square a short) b [])
rows_turn r a missing short rows square h x old b l = pick (ℕ_discrete b a)
  where
    pick : Dec (b ≡ a) → ReducedRow r missing (get_or rows b []) (get_or (set square a short) b [])
    pick (yes e) =
        subst (λ (s : List ℕ). ReducedRow r missing (get_or rows b []) s) (sym (ap (λ (i : ℕ). get_or (set square a short) i []) e ∙ get_or-set_same square a short [] h))
        (subst (λ (i : ℕ). ReducedRow r missing (get_or rows i []) short) (sym e) x)
    pick (no d) = subst (λ (s : List ℕ). ReducedRow r missing (get_or rows b []) s) (sym (get_or-set_other square a b short [] d)) (old b (omega arith))

-- ---- a right side
pub known_start : (known row message start : List ℕ) → KnownAdded 0 known row message start start
unfolding known_sum sum
known_start known row message start t h = sym (⊕-zero (get_or start t 0))

pub known-turn : (known row message start s next : List ℕ) (c : ℕ) → next ≡ more s (piece message (get_or known c 0 - 1)) (get_or row (get_or known c 0 - 1) 0)
    → KnownAdded c known row message start s → KnownAdded (c + 1) known row message start next
known-turn known row message start s next c e old = subst (λ (n : ℕ). KnownAdded n known row message start next) (sym (add-one c)) added
  where
    j : ℕ
    j = get_or known c 0 - 1

    added : KnownAdded (suc c) known row message start next
    added t h =
        ap (λ (l : List ℕ). get_or l t 0) e ∙ more-get s (piece message j) (get_or row j 0) t
        ∙ ap₂ (λ (x y : ℕ). x ⊕ get_or row j 0 ⊗ y) (old t h) (piece-get message j t h)
        ∙ ⊕-assoc (get_or start t 0) (known_sum c known row message t) (get_or row j 0 ⊗ get_or message (j * 53 + t) 0)
        ∙ (unfold known_sum sum in refl)

-- ---- the right sides
pub sides_turn : (n a : ℕ) (known parity : List ℕ) (rows : List (List ℕ)) (contents message content side sides next : List ℕ) → Octets contents
    → content ≡ more (replicate 53 0) (piece contents (get_or parity a 0 - 1)) 1 → KnownAdded n known (get_or rows a []) message content side → PageLaid side 0 (a + 1) sides next
    → ReducedSides n a known parity rows contents message sides → ReducedSides n (a + 1) known parity rows contents message next
sides_turn n a known parity rows contents message content side sides next o e added laid old b i t h l s = pick (ℕ_discrete b a)
  where
    pick : Dec (b ≡ a) → get_or next (b * 53 + t) 0 ≡ get_or contents (i * 53 + t) 0 ⊕ known_sum n known (get_or rows b []) message t
    pick (yes w) =
        laid.laid b t l (omega arith) ∙ ap (λ (m : ℕ). get_or side m 0) first ∙ added t l
        ∙ ap₂ (λ (x : ℕ) (m : ℕ). x ⊕ known_sum n known (get_or rows m []) message t) whole (sym w)
      where
        first : 0 * 53 + t ≡ t
        first = omega arith

        at : get_or parity a 0 - 1 ≡ i
        at = omega (arith, ap (λ (n : ℕ). get_or parity n 0) (sym w) ∙ s)

        whole : get_or content t 0 ≡ get_or contents (i * 53 + t) 0
        whole =
            ap (λ (c : List ℕ). get_or c t 0) e ∙ more-get (replicate 53 0) (piece contents (get_or parity a 0 - 1)) 1 t
            ∙ ap₂ (λ (x y : ℕ). x ⊕ 1 ⊗ y) (get_or-replicate {A = ℕ} 53 t 0 0 l) (piece-get contents (get_or parity a 0 - 1) t l ∙ ap (λ (n : ℕ). get_or contents (n * 53 + t) 0) at)
            ∙ zero-⊕ (1 ⊗ get_or contents (i * 53 + t) 0) ∙ one-⊗ (get_or contents (i * 53 + t) 0) (o (i * 53 + t))
    pick (no d) = laid.kept b t l (omega arith) ∙ old b i t (omega arith) l s
